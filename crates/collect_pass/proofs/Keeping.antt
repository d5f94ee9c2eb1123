-- What a settled object keeps is settled: its fields are, since it is scanned, and of the pairs of a table what these keep.
use Rattle.std.proofs.Common.{◌≡◌, ℕ, suc, ◌+◌, ◌-◌, ◌<◌, List, ◌++◌, map, length, replicate, get_or, Option, Some, Bool, true, false, nat_eq, inl, inr, refl, sym, ◌∙◌, ap, arith, length-append}
use Rattle.std.proofs.lemmas.Bool.{cases_lt, cases_Bool, eqb-true, false≢true}
use Rattle.std.proofs.lemmas.List.{get_or-map, length-map, get_or_past, get_or_append_left}
use Rattle.std.proofs.lemmas.Option.{slice_get-get_or}
use Rattle.std.specs.List.{list_any}
use Rattle.std.specs.Prelude.{slice_get, slice_index}
use Rattle.heap_terms.specs.declared.cells.Value.{Value}
use Rattle.heap_terms.specs.declared.kinds.Kind.{Kind}
use Rattle.heap_terms.specs.declared.kinds.Kind.TheVariants as kinds
use Rattle.heap_terms.specs.Heap.{NamedHeap, object_at, zero_value}
use Rattle.heap_terms.specs.Layout.{size_with_header}
use Rattle.heap_terms.specs.Live.{is_live, AreLive, Keeps}
use Rattle.heap_terms.specs.Objects.{Object, Contents, ConsOf, VectorOf, InstanceOf, ClosureOf, WordsOf, WeakTo, TableOf}
use Rattle.heap_terms.specs.Slots.{Slot, Raw, Val, under_header, slot_at}
use Rattle.pass_laws.proofs.Lookups.{found_at}
use Rattle.copy_space.specs.Moved.{new_of}
use Rattle.copy_space.specs.Settled.{is_settled}
use Rattle.copy_space.specs.State.{CopyState}
use Rattle.copy_space.specs.WeakNames.{is_weak}
use Rattle.scavenge.specs.Noting.{IsDone}
use Rattle.trace_laws.specs.Traced.{KeepsAll}
use Rattle.weak_refs.specs.Readying.{AreReady}

headed-slot : (kind : Kind) (vs : List Value) (i : ℕ) → i < length vs → slice_get (under_header kind (map Val vs)) (suc i) ≡ Some (Val (get_or vs i zero_value))
headed-slot kind vs i l =
    let payload = map Val vs in
    let pad = replicate (size_with_header (length payload) - (length payload + 1)) (Raw 0) in
    let long : length payload ≡ length vs = length-map vs Val in
    let inside : i < length (payload ++ pad) = omega (arith, length-append payload pad) in
    slice_get-get_or (payload ++ pad) i (Val zero_value) inside
    ∙ ap {B = Option Slot} (λ (x : Slot). Some x) (get_or_append_left payload pad (Val zero_value) i (omega arith) ∙ get_or-map Val vs i zero_value (Val zero_value) l)

-- the values of all fields of an object are in a set
abbrev AreFieldsLive : (ℕ → Bool) → Contents → Type 0
AreFieldsLive set k = (i : ℕ) (v : Value) → slot_at k i ≡ Some (Val v) → is_live set v ≡ true

headed-live : (set : ℕ → Bool) (kind : Kind) (vs : List Value) → ((i : ℕ) (v : Value) → slice_get (under_header kind (map Val vs)) i ≡ Some (Val v) → is_live set v ≡ true) → AreLive set vs
headed-live set kind vs h i = elim (cases_lt i (length vs)) [
  | inl l ↦ h (suc i) (get_or vs i zero_value) (headed-slot kind vs i l)
  | inr l ↦ rw (get_or_past vs i zero_value l) refl
]

-- so the contents of what is no weak pointer and no table keep to the set
keeps : (set : ℕ → Bool) (k : Contents) → is_weak k ≡ false → AreFieldsLive set k → Keeps set k
keeps set (ConsOf a b) strong h = (h 0 a refl, h 1 b refl)
keeps set (VectorOf vs) strong h = headed-live set kinds.Vector vs h
keeps set (InstanceOf vs) strong h = headed-live set kinds.Instance vs h
keeps set (ClosureOf vs) strong h = headed-live set kinds.Closure vs h
keeps set (WordsOf ws) strong h = tt
keeps set (WeakTo v) strong h = absurd (false≢true (sym strong))
keeps set (TableOf w b pairs) strong h = absurd (false≢true (sym strong))

-- where a start is listed
pub record IsListedAt (listed : List ℕ) (start : ℕ) : Type 0 where
  pub k : ℕ
  pub below : k < length listed
  pub is : start ≡ slice_index listed k

pub listed-at : (listed : List ℕ) (start : ℕ) → list_any (nat_eq start) listed ≡ true → IsListedAt listed start
listed-at listed start has = (let found = found_at (nat_eq start) listed has in
    record { k = found.0; below = found.1; is = eqb-true start (get_or listed found.0 0) (found.2 0) })

pub keeps-all : (a : NamedHeap) (s : CopyState) (listed : List ℕ) → ((name : ℕ) (o : Object) → object_at a.objects name ≡ Some o → is_settled a s name ≡ true → IsDone a s listed o) →
    AreReady a s listed (length listed) → KeepsAll a s
keeps-all a s listed done ready = λ name o there settled.
    (let d = done name o there settled in
    elim (cases_Bool (is_weak o.contents)) [
      | inr strong ↦ keeps (is_settled a s) o.contents strong (λ i v f. (d.scanned i v f).settled)
      | inl weak ↦ (let at = listed-at listed (new_of s.moves o.place) (d.noted weak) in ready at.k at.below name o there settled at.is)
    ])
