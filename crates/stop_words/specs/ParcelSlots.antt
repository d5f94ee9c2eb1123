-- Parcels in slots. This project's own.
use Rattle.atomic_table.specs.Table.{Final}
use Rattle.stop_words.specs.Rule.{StopRule}
use Rattle.std.specs.Prelude.{◌≡◌, ◌<◌, ℕ, suc, Option, None, Some, List, [], ◌∷◌, length, slice_index, slice_get}

-- the parcels that lie in the slots, in the order of the slots
abbrev pub parcels_in : {P : Type 0} → List (Option P) → List P
parcels_in [] = []
parcels_in (Some p ∷ xs) = p ∷ parcels_in xs
parcels_in (None ∷ xs) = parcels_in xs

-- What was in the words and slots at the end: the rule held, and the parcels are those of the slots, in their order, so
-- by ascending thread. A slot that a seat had may have any value here. A thread whose word said that it was parked,
-- with no stop posted to it, left its parcel in its slot
pub record ClosesWith {P : Type 0} (owner : P → ℕ) (threads : ℕ) (parcels : List P) : Type 0 where
  pub words : List ℕ
  pub slots : List (Option P)
  pub word_count : length words ≡ suc threads
  pub count : length slots ≡ threads
  pub rule : Final (StopRule owner threads) words slots
  pub all : parcels ≡ parcels_in slots
  pub parked : (t : ℕ) → t < threads → slice_index words (suc t) ≡ 4 → (p : P) × (slice_get slots t ≡ Some (Some p)) × (owner p ≡ t)
