-- Laws of passes and collections, each for every heap: what a reader may rely on beside the definitions themselves.
use Rattle.std.specs.Prelude.{◌≡◌, ◌≢◌, ℕ, ◌≤◌, List, ◌∷◌, ◌++◌, length, map, filter, All, AllPairs, Some, None, Bool, true, false, if◌then◌else◌, slice_index_or}
use Rattle.heap_terms.specs.declared.cells.Value.{Value}
use Rattle.heap_terms.specs.declared.cells.Value.TheVariants as values
use Rattle.heap_terms.specs.declared.events.PassRecord.{PassRecord}
use Rattle.heap_terms.specs.declared.kinds.Weakness.{Weakness}
use Rattle.heap_terms.specs.declared.kinds.Weakness.TheVariants as weaknesses
use Rattle.heap_terms.specs.declared.limits.TheConstants.{MOST_COMMANDS, MOST_PAGES}
use Rattle.heap_terms.specs.declared.pages.Entry.{Entry}
use Rattle.heap_terms.specs.declared.programs.Program.{Program}
use Rattle.heap_terms.specs.Collections.{IsPassOf, ArePasses, after_passes, IsCollection, collected}
use Rattle.heap_terms.specs.Heap.{NamedHeap, object_at, thread_at, zero_value}
use Rattle.heap_terms.specs.Live.{IsClosed, AreLiveNames}
use Rattle.heap_terms.specs.Objects.{Object, kind_of, WeakTo, TableOf, fields_of}
use Rattle.heap_terms.specs.Passes.{IsPass, after_pass, order_of}
use Rattle.heap_terms.specs.Placement.{placement, lowest_run}
use Rattle.heap_terms.specs.Regions.{IsLowestRun, HasNoRun}
use Rattle.heap_terms.specs.Roots.{is_pinned}
use Rattle.heap_terms.specs.Survival.{keeps_pair}
use Rattle.heap_terms.specs.WellFormed.{IsWellFormed, IsSound}
use Rattle.pass_laws.specs.NoRegions.{HasNoRegions, IsEmptyBelow}
use Rattle.pass_laws.specs.PlainRecords.{IsPlainRecord}
use Rattle.pass_laws.specs.Reached.{IsReached, is_there}
use Rattle.pass_laws.specs.Spread.{IsSpread}

-- in every well-formed heap there are live names, and only one set of them
abbrev pub LiveNamesExist : Type 0
LiveNamesExist = (p : Program) (a : NamedHeap) (g : ℕ) → IsWellFormed p a → (live : ℕ → Bool) × AreLiveNames a g live

abbrev pub LiveNamesAreOne : Type 0
LiveNamesAreOne = (a : NamedHeap) (g : ℕ) (live other : ℕ → Bool) → AreLiveNames a g live → AreLiveNames a g other → (name : ℕ) → live name ≡ other name

-- in whatever order names are taken, each at most once, all objects lie as they must and apart at their new places
abbrev pub PlacementsKeepLayout : Type 0
PlacementsKeepLayout = (a : NamedHeap) (order : List ℕ) → IsSound a → AllPairs (λ (x y : ℕ). x ≢ y) order →
    IsSpread a.objects (placement a order).moves (placement a order).pages

-- the run that a placement takes is the lowest that is long enough, and where it finds none there is none
abbrev pub RunsAreLowest : Type 0
RunsAreLowest = (pages : List Entry) (k : ℕ) → 1 ≤ k →
    ((first : ℕ) → lowest_run pages k ≡ Some first → IsLowestRun pages first k) × (lowest_run pages k ≡ None → HasNoRun pages k)

-- a pass leaves a sound heap
abbrev pub PassesKeepSound : Type 0
PassesKeepSound = (a : NamedHeap) (g h : ℕ) (r : PassRecord) → IsSound a → IsPass a g h r → h ≤ 6 → IsSound (after_pass a r)

-- and a well-formed one, where regions are closed before it
abbrev pub PassesKeepWellFormed : Type 0
PassesKeepWellFormed = (p : Program) (a : NamedHeap) (g h : ℕ) (r : PassRecord) → IsWellFormed p a → HasNoRegions a → IsPass a g h r → h ≤ 5 →
    IsWellFormed p (after_pass a r)

-- a pass over every generation exists, whatever its target
abbrev pub PassesExist : Type 0
PassesExist = (p : Program) (a : NamedHeap) (g h : ℕ) → IsWellFormed p a → (r : PassRecord) × IsPass a g h r

-- given the order of the names that it takes there is only one
abbrev pub PassesAreDetermined : Type 0
PassesAreDetermined = (a : NamedHeap) (g h : ℕ) (r s : PassRecord) → IsPass a g h r → IsPass a g h s → order_of r ≡ order_of s → r ≡ s

-- a pinned object is where it was after the pass, of its kind and of the target generation
abbrev pub PinnedStay : Type 0
PinnedStay = (a : NamedHeap) (g h : ℕ) (r : PassRecord) (name : ℕ) (o : Object) → IsPass a g h r → object_at a.objects name ≡ Some o →
    is_pinned a g name ≡ true →
    (q : Object) × (object_at (after_pass a r).objects name ≡ Some q) × (q.place ≡ o.place) × (kind_of q.contents ≡ kind_of o.contents) × (q.generation ≡ h)

-- a name that is reached is there after the pass, if it was there
abbrev pub ReachedStay : Type 0
ReachedStay = (a : NamedHeap) (g h : ℕ) (r : PassRecord) (name : ℕ) (o : Object) → IsPass a g h r → object_at a.objects name ≡ Some o →
    IsReached a g name → (q : Object) × (object_at (after_pass a r).objects name ≡ Some q)

-- a name without which some set is closed is gone after it: nothing that is kept has it
abbrev pub UnreachedGo : Type 0
UnreachedGo = (a : NamedHeap) (g h : ℕ) (r : PassRecord) (name : ℕ) (set : ℕ → Bool) → IsPass a g h r → IsClosed a g set → set name ≡ false →
    object_at (after_pass a r).objects name ≡ None

-- the fields of an object that is there are as they were
abbrev pub FieldsStay : Type 0
FieldsStay = (a : NamedHeap) (g h : ℕ) (r : PassRecord) (name : ℕ) (o q : Object) → IsPass a g h r → object_at a.objects name ≡ Some o →
    object_at (after_pass a r).objects name ≡ Some q → (vs : List Value) → fields_of o.contents ≡ Some vs → fields_of q.contents ≡ Some vs

-- a weak pointer that is there points to what it pointed to while that is there, and else is broken
abbrev pub WeakPointersBreak : Type 0
WeakPointersBreak = (a : NamedHeap) (g h : ℕ) (r : PassRecord) (name : ℕ) (o q : Object) (v : Value) → IsPass a g h r → object_at a.objects name ≡ Some o → o.contents ≡ WeakTo v → object_at (after_pass a r).objects name ≡ Some q →
    q.contents ≡ WeakTo (if is_there (after_pass a r) v then v else values.Unbound)

-- Which pairs a table that is there keeps, by its weakness, from what is there after the pass: strong all of them, key those
-- whose key is there, value those whose value is there, key-and-value those of which both are there, key-or-value those of
-- which one is there. Of a pair that is kept both sides are there.
pub record KeepsByWeakness (b : NamedHeap) (w : Weakness) (pair : Value × Value) : Type 0 where
  pub strong : w ≡ weaknesses.Strong → (is_there b pair.0 ≡ true) × (is_there b pair.1 ≡ true)
  pub key : w ≡ weaknesses.Key → is_there b pair.0 ≡ true → is_there b pair.1 ≡ true
  pub value : w ≡ weaknesses.Value → is_there b pair.1 ≡ true → is_there b pair.0 ≡ true
  pub key_or_value : w ≡ weaknesses.KeyOrValue → is_there b pair.0 ≡ is_there b pair.1

abbrev pub WeakTablesKeep : Type 0
WeakTablesKeep = (a : NamedHeap) (g h : ℕ) (r : PassRecord) (name : ℕ) (o q : Object) (w : Weakness) (b : ℕ) (pairs : List (Value × Value)) →
    IsPass a g h r → object_at a.objects name ≡ Some o → o.contents ≡ TableOf w b pairs → object_at (after_pass a r).objects name ≡ Some q →
    (q.contents ≡ TableOf w b (filter (λ pair. keeps_pair w (is_there (after_pass a r) pair.0) (is_there (after_pass a r) pair.1)) pairs))
    × ((i : ℕ) → KeepsByWeakness (after_pass a r) w (slice_index_or pairs i (zero_value, zero_value)))

-- a collection leaves a well-formed heap
abbrev pub CollectionsKeepWellFormed : Type 0
CollectionsKeepWellFormed = (p : Program) (a : NamedHeap) (t last : ℕ) (records : List PassRecord) → IsWellFormed p a → IsCollection a last records →
    IsWellFormed p (collected a t last records)

-- when a generation is collected, every younger one is empty
abbrev pub YoungerAreEmpty : Type 0
YoungerAreEmpty = (p : Program) (a : NamedHeap) (last : ℕ) (front : List PassRecord) (r : PassRecord) (rest : List PassRecord) → IsWellFormed p a → HasNoRegions a →
    ArePasses a last 0 (front ++ r ∷ rest) →
    IsEmptyBelow (after_passes a last 0 front) (length front) × IsPassOf (after_passes a last 0 front) last (length front) r

-- a collection exists wherever nobody inhibits
abbrev pub CollectionsExist : Type 0
CollectionsExist = (p : Program) (a : NamedHeap) (last : ℕ) → IsWellFormed p a → ((t : ℕ) → (thread_at a t).inhibits ≡ 0) →
    (records : List PassRecord) × IsCollection a last records

-- and in a heap of at most so many pages and objects as a program can have, its records have the numbers of a journal
abbrev pub RecordsArePlain : Type 0
RecordsArePlain = (p : Program) (a : NamedHeap) (last : ℕ) (records : List PassRecord) → IsWellFormed p a → p.pages ≤ MOST_PAGES →
    length a.objects ≤ MOST_COMMANDS → IsCollection a last records → All IsPlainRecord records

-- and given the orders of its passes there is only one
abbrev pub CollectionsAreDetermined : Type 0
CollectionsAreDetermined = (a : NamedHeap) (last : ℕ) (records others : List PassRecord) → IsCollection a last records → IsCollection a last others →
    map order_of records ≡ map order_of others → records ≡ others
