-- What the pairs of tables keep becomes settled.
use Rattle.std.specs.Prelude.{◌≡◌, ℕ, ◌<◌, List, length, slice_index, Some, Bool, true}
use Rattle.heap_terms.specs.declared.cells.Value.{Value}
use Rattle.heap_terms.specs.declared.kinds.Weakness.{Weakness}
use Rattle.heap_terms.specs.Heap.{NamedHeap, object_at}
use Rattle.heap_terms.specs.Live.{is_live, Keeps, KeepPairs, KeepsSides}
use Rattle.heap_terms.specs.Objects.{Object, TableOf}
use Rattle.copy_space.specs.Frames.{Goes}
use Rattle.copy_space.specs.Midway.{Midway}
use Rattle.copy_space.specs.Moved.{new_of}
use Rattle.copy_space.specs.Settled.{is_settled, IsWordOf}
use Rattle.copy_space.specs.State.{CopyState}
use Rattle.copy_space.specs.WeakNames.{AreNamed, IsWeakAt}
use Rattle.weak_refs.specs.Tables.{IsTableNow}

-- a set of names has what the pairs of each of its own tables keep
abbrev pub HasItsPairs : NamedHeap → (ℕ → Bool) → Type 0
HasItsPairs a set = (name : ℕ) (o : Object) → object_at a.objects name ≡ Some o → set name ≡ true →
    (w : Weakness) (b : ℕ) (pairs : List (Value × Value)) → o.contents ≡ TableOf w b pairs → KeepPairs set w pairs

-- what is settled now is kept by pairs: every set that has its pairs and what was settled has it too
abbrev pub IsKeptByPairs : NamedHeap → CopyState → CopyState → Type 0
IsKeptByPairs a s t = (set : ℕ → Bool) → HasItsPairs a set → ((name : ℕ) → is_settled a s name ≡ true → set name ≡ true) →
    (name : ℕ) → is_settled a t name ≡ true → set name ≡ true

-- the state is midway again, no word of what was settled has changed, and nothing is settled but what pairs keep of it
pub record Readies (a : NamedHeap) (s t : CopyState) : Type 0 where
  pub midway : Midway a t
  pub goes : Goes a s t
  pub kept : IsKeptByPairs a s t

-- the starts are those of weak pointers and tables
pub record CanReady (a : NamedHeap) (s : CopyState) (starts : List ℕ) : Type 0 where
  pub midway : Midway a s
  pub names : List ℕ
  pub named : AreNamed a s starts names

-- the same of one start
pub record CanReadyAt (a : NamedHeap) (s : CopyState) (start : ℕ) : Type 0 where
  pub midway : Midway a s
  pub name : ℕ
  pub at : IsWeakAt a s name start

-- of what stands at a start each pair keeps what its weakness says, where the settled names are the live ones
abbrev pub IsReadyAt : NamedHeap → CopyState → ℕ → Type 0
IsReadyAt a s start = (name : ℕ) (o : Object) → object_at a.objects name ≡ Some o → is_settled a s name ≡ true → new_of s.moves o.place ≡ start → Keeps (is_settled a s) o.contents

-- the same of each of the first n of some starts
abbrev pub AreReady : NamedHeap → CopyState → List ℕ → ℕ → Type 0
AreReady a s starts n = (k : ℕ) → k < n → IsReadyAt a s (slice_index starts k)

-- no object was added to the moves, so that nothing was newly settled
abbrev pub HasSameMoves : CopyState → CopyState → Type 0
HasSameMoves s t = length t.moves ≡ length s.moves

pub record CanReadyTable (a : NamedHeap) (s : CopyState) (start : ℕ) : Type 0 where
  pub midway : Midway a s
  pub table : IsTableNow a s start

-- every set that has its pairs and what is settled has a value
abbrev pub IsHeld : NamedHeap → CopyState → Value → Type 0
IsHeld a s v = (set : ℕ → Bool) → HasItsPairs a set → ((name : ℕ) → is_settled a s name ≡ true → set name ≡ true) → is_live set v ≡ true

-- and where it has one value it has another one
abbrev pub IsHeldWith : NamedHeap → CopyState → Value → Value → Type 0
IsHeldWith a s u v = (set : ℕ → Bool) → HasItsPairs a set → ((name : ℕ) → is_settled a s name ≡ true → set name ≡ true) → is_live set u ≡ true → is_live set v ≡ true

-- and it has of two sides what a weakness says
abbrev pub AreHeldBy : NamedHeap → CopyState → Weakness → Value → Value → Type 0
AreHeldBy a s w u v = (set : ℕ → Bool) → HasItsPairs a set → ((name : ℕ) → is_settled a s name ≡ true → set name ≡ true) → KeepsSides w (is_live set u) (is_live set v)

-- a side can be settled
pub record CanSettleSide (a : NamedHeap) (s : CopyState) (side : ℕ) : Type 0 where
  pub midway : Midway a s
  pub v : Value
  pub is_word : IsWordOf a s v side
  pub held : IsHeld a s v

-- a side can be settled where another one is
pub record CanFollow (a : NamedHeap) (s : CopyState) (other side : ℕ) : Type 0 where
  pub midway : Midway a s
  pub u : Value
  pub v : Value
  pub other_is : IsWordOf a s u other
  pub side_is : IsWordOf a s v side
  pub held : IsHeldWith a s u v

-- a pair can get ready
pub record CanReadyPair (a : NamedHeap) (s : CopyState) (w : Weakness) (key value : ℕ) : Type 0 where
  pub midway : Midway a s
  pub u : Value
  pub v : Value
  pub key_is : IsWordOf a s u key
  pub value_is : IsWordOf a s v value
  pub held : AreHeldBy a s w u v
