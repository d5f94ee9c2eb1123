-- The slots that a seat holds, and whose parcel lies in each. This project's own.
use Rattle.std.specs.Prelude.{ℕ, zero, suc, Bool, true, false, Option, None, Some, List, [], ◌∷◌, if◌then◌else◌, map}
use Rattle.std.specs.Option.{option_map}
use Rattle.stop_words.specs.declared.view.Place.{Place}
use Rattle.stop_words.specs.declared.view.Place.TheVariants.{Parked, Outside, Inside, Holding}
use Rattle.stop_words.specs.Places.{is_in}

module _ {P : Type 0} (owner : P → ℕ) where
  -- a slot with the owner of the parcel in it, where there is one
  abbrev pub label : ℕ × Option P → ℕ × Option ℕ
  label e = (e.0, option_map owner e.1)

  -- the slots that a seat holds, each with the owner of the parcel in it
  abbrev pub labels : List (ℕ × Option P) → List (ℕ × Option ℕ)
  labels hand = map label hand

-- the slots of the listed threads among m from a on, in their order
abbrev pub picked : List ℕ → (ℕ → Option ℕ) → ℕ → ℕ → List (ℕ × Option ℕ)
picked xs f a zero = []
picked xs f a (suc m) = if is_in a xs then (a, f a) ∷ picked xs f (suc a) m else picked xs f (suc a) m

-- what lies in a slot that the holder took: the parcel of its thread, or nothing while a `Gathered` is out
abbrev pub lying : Bool → ℕ → Option ℕ
lying true k = None
lying false k = Some k

-- a seat holds its own slot, empty, and then those of the threads that it has seen parked; none where it is parked
abbrev pub hand_at : Place → ℕ → List ℕ → Bool → ℕ → List (ℕ × Option ℕ)
hand_at Parked t xs out n = []
hand_at Outside t xs out n = (t, None) ∷ []
hand_at Inside t xs out n = (t, None) ∷ []
hand_at Holding t xs out n = (t, None) ∷ picked xs (lying out) 0 n

-- the slots of m threads from a on, each labelled by f
abbrev pub labelled : (ℕ → Option ℕ) → ℕ → ℕ → List (ℕ × Option ℕ)
labelled f a zero = []
labelled f a (suc m) = (a, f a) ∷ labelled f (suc a) m
