-- How far a pass has scanned, and what scanning does. That the moved objects are their own queue is Cheney's, and SBCL's.
use Rattle.std.specs.Prelude.{◌≡◌, ◌≢◌, ℕ, ◌<◌, ◌≤◌, List, length, slice_index, slice_get, Some, Bool, true}
use Rattle.heap_terms.specs.Heap.{NamedHeap, object_at}
use Rattle.heap_terms.specs.declared.cells.Value.{Value}
use Rattle.heap_terms.specs.Live.{is_live}
use Rattle.heap_terms.specs.Objects.{Object}
use Rattle.heap_terms.specs.Slots.{Val, slot_at}
use Rattle.copy_space.specs.declared.notes.Move.{Move}
use Rattle.copy_space.specs.Frames.{Follows}
use Rattle.copy_space.specs.Midway.{Midway}
use Rattle.copy_space.specs.Settled.{is_settled}
use Rattle.copy_space.specs.State.{CopyState}
use Rattle.pin_set.specs.Starts.{Starts}
use Rattle.scavenge.specs.declared.queue.Scanned.{Scanned}
use Rattle.scavenge.specs.Noting.{CanNote, IsDone}

-- the objects of so many pins and so many moves, from the first on, are scanned, and the weak pointers and tables of them noted
pub record AreScanned (a : NamedHeap) (s : CopyState) (listed : List ℕ) (done : Scanned) : Type 0 where
  pub pins_most : done.pins ≤ length s.pins
  pub moves_most : done.moves ≤ length s.moves
  pub pins : (k name : ℕ) (o : Object) → k < done.pins → object_at a.objects name ≡ Some o → o.place ≡ slice_index s.pins k → IsDone a s listed o
  pub moves : (k name : ℕ) (o : Object) (m : Move) → k < done.moves → slice_get s.moves k ≡ Some m → object_at a.objects name ≡ Some o →
      o.generation ≡ s.pass.generation → o.place ≡ m.old → IsDone a s listed o

-- all pins and all moves
pub record IsAllScanned (s : CopyState) (done : Scanned) : Type 0 where
  pub pins : done.pins ≡ length s.pins
  pub moves : done.moves ≡ length s.moves

-- a set of names has what the fields of each of its own objects refer to: values, and not sides of tables, words behind weak
-- pointers or raw words
abbrev pub HasItsFields : NamedHeap → (ℕ → Bool) → Type 0
HasItsFields a set = (name : ℕ) (o : Object) → object_at a.objects name ≡ Some o → set name ≡ true →
    (i : ℕ) (v : Value) → slot_at o.contents i ≡ Some (Val v) → is_live set v ≡ true

-- what is settled now is reached along fields from what was settled: every set that has that and its fields has it too
abbrev pub IsReachedFrom : NamedHeap → CopyState → CopyState → Type 0
IsReachedFrom a s t = (set : ℕ → Bool) → HasItsFields a set → ((name : ℕ) → is_settled a s name ≡ true → set name ≡ true) →
    (name : ℕ) → is_settled a t name ≡ true → set name ≡ true

-- a state midway in which so much is scanned, and starts can be noted
pub record CanScan (a : NamedHeap) (s : CopyState) (weak : Starts) (done : Scanned) : Type 0 where
  pub midway : Midway a s
  pub scanned : AreScanned a s weak.listed done
  pub note : CanNote a s weak

-- scanning keeps a state midway and what was done, and settles nothing but what fields reach from what was settled
pub record Scans (a : NamedHeap) (s t : CopyState) : Type 0 where
  pub midway : Midway a t
  pub follows : Follows a s t
  pub reached : IsReachedFrom a s t

-- each settled object of the generation is scanned, and noted if it is a weak pointer or a table
abbrev pub AllOfGenerationScanned : NamedHeap → CopyState → List ℕ → Type 0
AllOfGenerationScanned a s listed = (name : ℕ) (o : Object) → object_at a.objects name ≡ Some o → o.generation ≡ s.pass.generation →
    is_settled a s name ≡ true → IsDone a s listed o

-- the same of each object of another generation
abbrev pub OthersScanned : NamedHeap → CopyState → List ℕ → Type 0
OthersScanned a s listed = (name : ℕ) (o : Object) → object_at a.objects name ≡ Some o → o.generation ≢ s.pass.generation → IsDone a s listed o
