-- The end of tracing: what is settled is closed under what roots and objects keep, and nothing else is settled.
use Rattle.std.specs.Prelude.{◌≡◌, ℕ, ◌<◌, List, map, All, AllPairs, Some, Bool, true, nat_eq, slice_index_or}
use Rattle.std.specs.List.{list_any}
use Rattle.heap_terms.specs.Heap.{NamedHeap, object_at, zero_value}
use Rattle.heap_terms.specs.Live.{IsClosed, Keeps, is_live}
use Rattle.heap_terms.specs.Objects.{Object}
use Rattle.heap_terms.specs.Roots.{is_pinned}
use Rattle.copy_space.specs.Midway.{IsPlacedSoFar}
use Rattle.copy_space.specs.Settled.{is_settled, word_now}
use Rattle.copy_space.specs.State.{CopyState}
use Rattle.copy_space.specs.Surviving.{StandsAfter}
use Rattle.trace_laws.specs.Rooted.{Rooted}

-- a pinned object begins at an index
pub record IsPinnedStart (a : NamedHeap) (g index : ℕ) : Type 0 where
  pub name : ℕ
  pub o : Object
  pub there : object_at a.objects name ≡ Some o
  pub here : o.place ≡ index
  pub pinned : is_pinned a g name ≡ true

-- the starts of the pinned objects of a generation, ascending
pub record ArePinnedStarts (a : NamedHeap) (g : ℕ) (starts : List ℕ) : Type 0 where
  pub each : All (IsPinnedStart a g) starts
  pub all : (name : ℕ) (o : Object) → object_at a.objects name ≡ Some o → is_pinned a g name ≡ true → list_any (nat_eq o.place) starts ≡ true
  pub ascending : AllPairs (λ (x y : ℕ). x < y) starts

-- every closed set has what is settled
abbrev pub SettlesNoMore : NamedHeap → CopyState → Type 0
SettlesNoMore a s = (set : ℕ → Bool) → IsClosed a s.pass.generation set → (name : ℕ) → is_settled a s name ≡ true → set name ≡ true

-- what each settled object keeps is settled
abbrev pub KeepsAll : NamedHeap → CopyState → Type 0
KeepsAll a s = (name : ℕ) (o : Object) → object_at a.objects name ≡ Some o → is_settled a s name ≡ true → Keeps (is_settled a s) o.contents

-- the words of each settled object stand for what survives of it
abbrev pub AllStand : NamedHeap → CopyState → Type 0
AllStand a s = (name : ℕ) (o : Object) → object_at a.objects name ≡ Some o → is_settled a s name ≡ true → StandsAfter a s s o

-- The pins are the pinned objects. What each settled object keeps is settled, and nothing is settled that some closed set
-- lacks. Dead pairs are culled and weak pointers broken: the words of each settled object stand for what survives of it. The
-- exact roots are settled, and have their words after the pass.
pub record IsTraced (h : Rooted) (s : CopyState) (exact : List ℕ) : Type 0 where
  pub places : IsPlacedSoFar h.heap s
  pub pins : ArePinnedStarts h.heap s.pass.generation s.pins
  pub keeps : KeepsAll h.heap s
  pub stands : AllStand h.heap s
  pub exact_now : exact ≡ map (word_now h.heap s) h.values
  pub exact_live : (i : ℕ) → is_live (is_settled h.heap s) (slice_index_or h.values i zero_value) ≡ true
  pub least : SettlesNoMore h.heap s
