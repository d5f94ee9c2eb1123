-- Weak pointers and tables: those of a heap, and those that a pass has noted, by the starts at which they stand now and by
-- their names.
use Rattle.std.specs.Prelude.{◌≡◌, ◌≢◌, ◌⊎◌, ℕ, ◌<◌, List, length, count_by, All, AllPairs, slice_index, Option, Some, None, Bool, true, false, nat_eq}
use Rattle.std.specs.List.{list_any}
use Rattle.heap_terms.specs.declared.kinds.Kind.TheVariants as kinds
use Rattle.heap_terms.specs.Generations.{names}
use Rattle.heap_terms.specs.Heap.{NamedHeap, object_at}
use Rattle.heap_terms.specs.Objects.{Object, Contents, ConsOf, VectorOf, InstanceOf, ClosureOf, WordsOf, WeakTo, TableOf, kind_of}
use Rattle.copy_space.specs.Moved.{new_of}
use Rattle.copy_space.specs.Settled.{is_settled}
use Rattle.copy_space.specs.State.{CopyState}

-- whether an object is a weak pointer or a table
abbrev pub is_weak : Contents → Bool
is_weak (ConsOf a b) = false
is_weak (VectorOf vs) = false
is_weak (InstanceOf vs) = false
is_weak (ClosureOf vs) = false
is_weak (WordsOf ws) = false
is_weak (WeakTo v) = true
is_weak (TableOf w b pairs) = true

-- whether an object is there and is one
abbrev pub is_weak_object : Option Object → Bool
is_weak_object None = false
is_weak_object (Some o) = is_weak o.contents

-- how many weak pointers and tables a heap has
abbrev pub weak_count : NamedHeap → ℕ
weak_count a = count_by (λ name. is_weak_object (object_at a.objects name)) (names a)

-- the name of a weak pointer or table that is live
pub record IsWeakName (a : NamedHeap) (live : ℕ → Bool) (name : ℕ) : Type 0 where
  pub o : Object
  pub there : object_at a.objects name ≡ Some o
  pub weak : is_weak o.contents ≡ true
  pub lives : live name ≡ true

-- the names of the live weak pointers and tables, each once, in any order
pub record AreWeakNames (a : NamedHeap) (live : ℕ → Bool) (names : List ℕ) : Type 0 where
  pub each : All (IsWeakName a live) names
  pub once : AllPairs (λ (x y : ℕ). x ≢ y) names
  pub all : (name : ℕ) (o : Object) → object_at a.objects name ≡ Some o → is_weak o.contents ≡ true → live name ≡ true → list_any (nat_eq name) names ≡ true

-- the settled weak pointer or table of a name stands now at a start
pub record IsWeakAt (a : NamedHeap) (s : CopyState) (name start : ℕ) : Type 0 where
  pub o : Object
  pub there : object_at a.objects name ≡ Some o
  pub settled : is_settled a s name ≡ true
  pub here : new_of s.moves o.place ≡ start
  pub weak : (kind_of o.contents ≡ kinds.Weak) ⊎ (kind_of o.contents ≡ kinds.Table)

-- some settled weak pointer or table stands now at a start
abbrev pub HasWeakAt : NamedHeap → CopyState → ℕ → Type 0
HasWeakAt a s start = (name : ℕ) × IsWeakAt a s name start

-- the names of the weak pointers and tables at these starts, in their order
pub record AreNamed (a : NamedHeap) (s : CopyState) (starts names : List ℕ) : Type 0 where
  pub long : length names ≡ length starts
  pub each : (k : ℕ) → k < length starts → IsWeakAt a s (slice_index names k) (slice_index starts k)

-- where the object of a name was before the pass
abbrev pub place_of : Option Object → ℕ
place_of None = 0
place_of (Some o) = o.place

abbrev pub place_before : NamedHeap → ℕ → ℕ
place_before a name = place_of (object_at a.objects name)
