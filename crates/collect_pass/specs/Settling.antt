-- Settling what is live: from the roots on, until nothing is left unscanned and each pair of a table has what it keeps.
use Rattle.std.specs.Prelude.{◌≡◌, ℕ, List, length, Some, Bool, true}
use Rattle.heap_terms.specs.Heap.{NamedHeap, object_at}
use Rattle.heap_terms.specs.Live.{IsClosed}
use Rattle.heap_terms.specs.Objects.{Object}
use Rattle.copy_space.specs.Frames.{Follows}
use Rattle.copy_space.specs.Midway.{Midway}
use Rattle.copy_space.specs.Settled.{is_settled}
use Rattle.copy_space.specs.State.{CopyState}
use Rattle.pin_set.specs.Starts.{Starts}
use Rattle.scavenge.specs.Noting.{CanNote, IsDone}
use Rattle.scavenge.specs.Scanning.{OthersScanned}
use Rattle.trace_laws.specs.Traced.{KeepsAll}
use Rattle.weak_refs.specs.Readying.{AreReady}

-- all can be settled: the state is midway, what is older is scanned, and starts can be noted
pub record CanSettleAll (a : NamedHeap) (s : CopyState) (weak : Starts) : Type 0 where
  pub midway : Midway a s
  pub note : CanNote a s weak
  pub others : OthersScanned a s weak.listed

-- every closed set that has what was settled has what is settled now
abbrev pub SettlesWithin : NamedHeap → CopyState → CopyState → Type 0
SettlesWithin a s t = (set : ℕ → Bool) → IsClosed a s.pass.generation set → ((name : ℕ) → is_settled a s name ≡ true → set name ≡ true) →
    (name : ℕ) → is_settled a t name ≡ true → set name ≡ true

-- settling keeps a state midway and what was done, and settles nothing but what is kept by what was settled
pub record Settles (a : NamedHeap) (s t : CopyState) : Type 0 where
  pub midway : Midway a t
  pub follows : Follows a s t
  pub within : SettlesWithin a s t

-- All is settled: each settled object is scanned, and noted if it is a weak pointer or a table; each pair of a noted table has
-- what it keeps; so what each settled object keeps is settled.
pub record AreAllSettled (a : NamedHeap) (s : CopyState) (listed : List ℕ) : Type 0 where
  pub done : (name : ℕ) (o : Object) → object_at a.objects name ≡ Some o → is_settled a s name ≡ true → IsDone a s listed o
  pub ready : AreReady a s listed (length listed)
  pub keeps : KeepsAll a s
