-- Weak pointers and tables are noted when they are scanned, by the starts at which they stand now. What is done with an
-- object is that its fields are scanned, and that it is noted if it is one of them.
use Rattle.std.specs.Prelude.{◌≡◌, ◌≢◌, ℕ, ◌≤◌, List, All, AllPairs, true, nat_eq}
use Rattle.std.specs.List.{list_any}
use Rattle.heap_terms.specs.Heap.{NamedHeap}
use Rattle.heap_terms.specs.Objects.{Object}
use Rattle.copy_space.specs.Frames.{IsScanned}
use Rattle.copy_space.specs.Moved.{new_of}
use Rattle.copy_space.specs.State.{CopyState}
use Rattle.copy_space.specs.WeakNames.{HasWeakAt, is_weak, weak_count}
use Rattle.pin_set.specs.Starts.{Starts}

-- starts can be noted: those that are noted are starts of settled weak pointers and tables, each once, and there is room
-- for all weak pointers and tables of the heap
pub record CanNote (a : NamedHeap) (s : CopyState) (weak : Starts) : Type 0 where
  pub each : All (HasWeakAt a s) weak.listed
  pub once : AllPairs (λ (x y : ℕ). x ≢ y) weak.listed
  pub room : weak_count a ≤ weak.most

-- each start of one list is one of another
abbrev pub HasAll : List ℕ → List ℕ → Type 0
HasAll old new = (start : ℕ) → list_any (nat_eq start) old ≡ true → list_any (nat_eq start) new ≡ true

-- starts were noted, and those before stay noted
pub record Notes (a : NamedHeap) (t : CopyState) (old new : Starts) : Type 0 where
  pub can : CanNote a t new
  pub stays : HasAll old.listed new.listed
  pub most : new.most ≡ old.most

-- an object is noted if it is a weak pointer or a table
abbrev pub IsNoted : CopyState → List ℕ → Object → Type 0
IsNoted s listed o = is_weak o.contents ≡ true → list_any (nat_eq (new_of s.moves o.place)) listed ≡ true

-- an object is scanned, and noted if it is a weak pointer or a table
pub record IsDone (a : NamedHeap) (s : CopyState) (listed : List ℕ) (o : Object) : Type 0 where
  pub scanned : IsScanned a s o
  pub noted : IsNoted s listed o
