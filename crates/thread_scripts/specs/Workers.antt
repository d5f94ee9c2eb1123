-- Where a worker's seat is. This project's own.
use Rattle.std.specs.Prelude.{◌≡◌, ℕ, true, false}
use Rattle.heap_terms.specs.declared.steps.Owned.{Ghosts}
use Rattle.stop_words.specs.declared.gather.Gathered.{Gathered}
use Rattle.stop_words.specs.declared.seats.StopSeat.{StopSeat}
use Rattle.stop_words.specs.declared.seats.StopWords.{StopWords}
use Rattle.stop_words.specs.declared.view.Place.{Place}
use Rattle.stop_words.specs.declared.view.Place.TheVariants.{Holding}
use Rattle.stop_words.specs.Owners.{ByOwner}
use Rattle.stop_words.specs.Seats.{view_of, is_out, IsSeatOf, threads_of, parcels_of}
use Rattle.stop_words.specs.Views.{SeenAll}

module _ {P : Type 0} {G : Ghosts P} where
  -- a seat of these stop words is at a place, and no gathered parcels are out
  pub record IsAt (words : StopWords P) (seat : StopSeat P G) (place : Place) : Type 0 where
    pub seat_of : IsSeatOf seat words
    pub place_is : (view_of seat).place ≡ place
    pub none_out : is_out seat ≡ false

  -- the holder of the turn has seen all others parked, and has gathered the parcels of all threads
  pub record HasTaken (words : StopWords P) (seat : StopSeat P G) (gathered : Gathered P) : Type 0 where
    pub seat_of : IsSeatOf seat words
    pub holds : (view_of seat).place ≡ Holding
    pub seen : SeenAll (view_of seat) (threads_of words)
    pub out : is_out seat ≡ true
    pub parcels : ByOwner G.owner_of (threads_of words) (parcels_of gathered)
