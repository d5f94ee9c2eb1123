-- Room for the lists of records: what is enough for longer lists is enough for shorter ones.
use Rattle.std.proofs.Common.{List, arith}
use Rattle.std.proofs.lemmas.List.Elements.{All-weaker}
use Rattle.lisp_heap.specs.AllPasses.{AreRooms}
use Rattle.lisp_heap.specs.Recording.{AreWithin, HasRoom}
use Rattle.lisp_heap.specs.declared.recording.RecordRoom.{RecordRoom}
use Rattle.lisp_heap.specs.declared.recording.RecordSizes.{RecordSizes}

pub room_within : (room : RecordRoom) (small big : RecordSizes) → HasRoom room big → AreWithin small big → HasRoom room small
room_within room small big h within = record {
  no_moves = h.no_moves;
  no_pins = h.no_pins;
  no_queued = h.no_queued;
  no_freed = h.no_freed;
  moves_fit = omega (arith, h.moves_fit, within.moves);
  pins_fit = omega (arith, h.pins_fit, within.pins);
  queued_fit = omega (arith, h.queued_fit, within.queued);
  freed_fit = omega (arith, h.freed_fit, within.freed);
  weak = record {
    no_places = h.weak.no_places;
    no_culls = h.weak.no_culls;
    no_breaks = h.weak.no_breaks;
    places_fit = omega (arith, h.weak.places_fit, within.culls);
    culls_fit = omega (arith, h.weak.culls_fit, within.culls);
    breaks_fit = omega (arith, h.weak.breaks_fit, within.breaks);
  };
}

pub rooms_within : (rooms : List RecordRoom) (small big : RecordSizes) → AreRooms rooms big → AreWithin small big → AreRooms rooms small
rooms_within rooms small big h within =
    All-weaker (λ (room : RecordRoom). HasRoom room big) (λ (room : RecordRoom). HasRoom room small) (λ room fits. room_within room small big fits within) rooms h
