-- Which phases go with which states of a thread in the heap.
use Rattle.std.specs.Prelude.{◌≡◌, ℕ, Bool, true, false}
use Rattle.heap_terms.specs.declared.phases.Phase.{Phase}
use Rattle.heap_terms.specs.declared.phases.Phase.TheVariants.{Parked, Outside, Inside, Leaving, Parking, Posting, Looking, Collecting, Releasing, Returning, Ended}

-- it has not ended, and does not inhibit
abbrev pub IsCalm : Bool → ℕ → Type 0
IsCalm over inhibits = (over ≡ false) × (inhibits ≡ 0)

-- a collection is due for it, and it does not inhibit
abbrev pub IsToCollect : Bool → ℕ → Type 0
IsToCollect due inhibits = (due ≡ true) × (inhibits ≡ 0)

-- A thread may be at a phase, by whether a collection is due for it, whether it has ended in the heap, and its inhibit
-- count. So a thread that inhibits is inside its section, one that claimed has a collection due, and one whose last park
-- is done has ended.
abbrev pub Fits : Phase → Bool → Bool → ℕ → Type 0
Fits Parked due over inhibits = IsCalm over inhibits
Fits Outside due over inhibits = IsCalm over inhibits
Fits Inside due over inhibits = (due ≡ false) × (over ≡ false)
Fits Leaving due over inhibits = inhibits ≡ 0
Fits Parking due over inhibits = inhibits ≡ 0
Fits (Posting u) due over inhibits = IsToCollect due inhibits
Fits (Looking u) due over inhibits = IsToCollect due inhibits
Fits Collecting due over inhibits = IsToCollect due inhibits
Fits (Releasing u) due over inhibits = IsCalm over inhibits
Fits Returning due over inhibits = IsCalm over inhibits
Fits Ended due over inhibits = (over ≡ true) × (inhibits ≡ 0)
