-- What a caller knows of a seat, and what it knows of the stop words. This project's own.
use Rattle.std.specs.Prelude.{◌≡◌, ℕ, suc, Bool, false, Some, List, slice_get}
use Rattle.heap_terms.specs.declared.steps.WordStep.{WordStep}
use Rattle.heap_terms.specs.declared.steps.Owned.{Ghosts}
use Rattle.stop_words.specs.declared.view.View.{View}
use Rattle.stop_words.specs.declared.view.Place.TheVariants.{Parked}
use Rattle.stop_words.specs.declared.seats.StopSeat.{StopSeat}
use Rattle.stop_words.specs.declared.seats.StopWords.{StopWords}
use Rattle.stop_words.specs.declared.gather.Gathered.{Gathered}
use Rattle.stop_words.specs.Views.{view_after}

module _ {P : Type 0} where
  -- how many threads there are
  abbrev pub threads_of : StopWords P → ℕ
  threads_of words = words.threads

  -- the parcels that were gathered, in their order
  abbrev pub parcels_of : Gathered P → List P
  parcels_of gathered = gathered.parcels.items

  module _ {G : Ghosts P} where
    -- what the seat knows
    abbrev pub view_of : StopSeat P G → View
    view_of seat = seat.seat.me.0

    -- a `Gathered` of this seat is out
    abbrev pub is_out : StopSeat P G → Bool
    is_out seat = seat.out

    -- the seat is one of these stop words
    abbrev pub IsSeatOf : StopSeat P G → StopWords P → Type 0
    IsSeatOf seat words = seat.seat.table_id ≡ words.table.shared.table_id

    -- the seat has done this step and no other, and knows what it found
    abbrev pub Did : WordStep → StopSeat P G → StopSeat P G → Type 0
    Did step old new = view_of new ≡ view_after step (view_of new).found (view_of old)

    -- the seat of thread t, as it is made: the thread is parked, and no step was done
    pub record Fresh (words : StopWords P) (t : ℕ) (seat : StopSeat P G) : Type 0 where
      pub seat_of : IsSeatOf seat words
      pub number : (view_of seat).thread ≡ t
      pub parked : (view_of seat).place ≡ Parked
      pub unused : (view_of seat).steps ≡ 0
      pub none_out : is_out seat ≡ false

    -- the i-th seat is that of thread i
    abbrev pub AllFresh : StopWords P → List (StopSeat P G) → Type 0
    AllFresh words seats = (i : ℕ) (seat : StopSeat P G) → slice_get seats i ≡ Some seat → Fresh words i seat

    -- the same without the first seat
    abbrev pub OthersFresh : StopWords P → List (StopSeat P G) → Type 0
    OthersFresh words seats = (i : ℕ) (seat : StopSeat P G) → slice_get seats i ≡ Some seat → Fresh words (suc i) seat
