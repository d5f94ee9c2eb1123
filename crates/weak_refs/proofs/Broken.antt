-- Which weak pointers are noted as broken.
use Rattle.std.proofs.Common.{◌≡◌, ◌≢◌, ℕ, suc, ◌+◌, ◌<◌, ◌≤◌, List, [], ◌∷◌, ◌++◌, length, take, drop, get_or, Some, Bool, true, false, inl, inr, refl, sym, ◌∙◌, ap, arith, length-append}
use Rattle.std.proofs.lemmas.Bool.{cases_Bool}
use Rattle.std.proofs.lemmas.List.{map-append, take-append-drop}
use Rattle.std.proofs.lemmas.List.Elements.{filter-append}
use Rattle.std.proofs.Math.Seq.{take-suc}
use Rattle.std.specs.Prelude.{vec_len, vec_capacity, if◌then◌else◌, not, map, filter}
use Rattle.heap_terms.specs.declared.cells.Value.{Value}
use Rattle.heap_terms.specs.declared.kinds.Kind.TheVariants as kinds
use Rattle.heap_terms.specs.Heap.{NamedHeap, object_at}
use Rattle.heap_terms.specs.Live.{is_live}
use Rattle.heap_terms.specs.Objects.{Object, Contents, ConsOf, VectorOf, InstanceOf, ClosureOf, WordsOf, WeakTo, TableOf, kind_of}
use Rattle.heap_terms.specs.Survival.{breaks, breaks_in}
use Rattle.copy_space.specs.CullNotes.{broken_of}
use Rattle.copy_space.specs.declared.notes.PassNotes.{PassNotes}
use Rattle.copy_space.specs.Midway.{IsPlacedSoFar}
use Rattle.copy_space.specs.Settled.{is_settled}
use Rattle.copy_space.specs.State.{CopyState}
use Rattle.weak_refs.specs.Breaking.{HasRoomForBreaks, IsPointerNow}
use Rattle.copy_space.specs.WeakNames.{IsWeakAt, place_before}
use Rattle.weak_refs.proofs.Starts.{same-now}

pub broken-append : (a : NamedHeap) (live : ℕ → Bool) (xs ys : List ℕ) → broken_of a live (xs ++ ys) ≡ broken_of a live xs ++ broken_of a live ys
broken-append a live xs ys =
    ap (λ (l : List ℕ). map (place_before a) l) (filter-append (λ name. breaks_in live name (object_at a.objects name)) xs ys)
    ∙ map-append (place_before a) (filter (λ name. breaks_in live name (object_at a.objects name)) xs) (filter (λ name. breaks_in live name (object_at a.objects name)) ys)

pub broken-next : (a : NamedHeap) (live : ℕ → Bool) (names : List ℕ) (i : ℕ) → i < length names →
    broken_of a live (take (suc i) names) ≡ broken_of a live (take i names) ++ broken_of a live (get_or names i 0 ∷ [])
broken-next a live names i l = ap (broken_of a live) (take-suc names i 0 l) ∙ broken-append a live (take i names) (get_or names i 0 ∷ [])

pub broken-room : (a : NamedHeap) (live : ℕ → Bool) (names : List ℕ) (i : ℕ) → i < length names →
    length (broken_of a live (take i names)) + length (broken_of a live (get_or names i 0 ∷ [])) ≤ length (broken_of a live names)
broken-room a live names i l =
    let parts : broken_of a live names ≡ broken_of a live (take (suc i) names) ++ broken_of a live (drop (suc i) names) =
    ap (broken_of a live) (sym (take-append-drop (suc i) names)) ∙ broken-append a live (take (suc i) names) (drop (suc i) names) in
    let next = broken-next a live names i l in
    let one = length-append (broken_of a live (take (suc i) names)) (broken_of a live (drop (suc i) names)) in
    let two = length-append (broken_of a live (take i names)) (broken_of a live (get_or names i 0 ∷ [])) in
    let three = ap length parts in
    let four = ap length next in
    omega arith

pub broken-pointer : (a : NamedHeap) (live : ℕ → Bool) (name : ℕ) (o : Object) (v : Value) → object_at a.objects name ≡ Some o → live name ≡ true → o.contents ≡ WeakTo v →
    broken_of a live (name ∷ []) ≡ (if is_live live v then [] else o.place ∷ [])
broken-pointer a live name o v there settled is = elim (cases_Bool (is_live live v)) [
  | inl yes_live ↦ rw (there, settled, is, yes_live) refl
  | inr dead ↦ rw (there, settled, is, dead, there) refl
]

never_breaks : (live : ℕ → Bool) (k : Contents) → kind_of k ≢ kinds.Weak → breaks live k ≡ false
never_breaks live (ConsOf a b) n = refl
never_breaks live (VectorOf vs) n = refl
never_breaks live (InstanceOf vs) n = refl
never_breaks live (ClosureOf vs) n = refl
never_breaks live (WordsOf ws) n = refl
never_breaks live (WeakTo v) n = absurd (n refl)
never_breaks live (TableOf w b pairs) n = refl

pub broken-none : (a : NamedHeap) (live : ℕ → Bool) (name : ℕ) (o : Object) → object_at a.objects name ≡ Some o → live name ≡ true → kind_of o.contents ≢ kinds.Weak →
    broken_of a live (name ∷ []) ≡ []
broken-none a live name o there settled other = rw (there, settled, never_breaks live o.contents other) refl

-- of the weak pointer at a start
pub broken-at : (a : NamedHeap) (s : CopyState) (start name : ℕ) → IsPlacedSoFar a s → (q : IsPointerNow a s start) → IsWeakAt a s name start →
    broken_of a (is_settled a s) (name ∷ []) ≡ (if is_live (is_settled a s) q.v then [] else q.o.place ∷ [])
broken-at a s start name h q at =
    let same = same-now a s h name q.name at.o q.o at.there q.there (at.here ∙ sym q.here) in
    ap (λ (x : ℕ). broken_of a (is_settled a s) (x ∷ [])) same ∙ broken-pointer a (is_settled a s) q.name q.o q.v q.there q.settled q.contents

pub room-when-dead : (a : NamedHeap) (s : CopyState) (start : ℕ) (notes : PassNotes) → IsPlacedSoFar a s → (q : IsPointerNow a s start) →
    HasRoomForBreaks notes (broken_of a (is_settled a s) (q.name ∷ [])) → not (is_live (is_settled a s) q.v) ≡ true → vec_len notes.breaks + 1 ≤ vec_capacity notes.breaks
room-when-dead a s start notes h q room dead = elim (cases_Bool (is_live (is_settled a s) q.v)) [
  | inl live ↦ absurd (let never : false ≡ true = rw live at dead in cc)
  | inr gone ↦ (let one : broken_of a (is_settled a s) (q.name ∷ []) ≡ q.o.place ∷ [] =
      broken-pointer a (is_settled a s) q.name q.o q.v q.there q.settled q.contents ∙ (rw gone refl) in
      let long = ap length one in
      omega arith)
]

pub broken-other : (a : NamedHeap) (s : CopyState) (start name : ℕ) → IsPlacedSoFar a s → (other : ℕ) (q : IsWeakAt a s other start) → IsWeakAt a s name start → kind_of q.o.contents ≢ kinds.Weak →
    broken_of a (is_settled a s) (name ∷ []) ≡ []
broken-other a s start name h other q at none =
    let same = same-now a s h name other at.o q.o at.there q.there (at.here ∙ sym q.here) in
    ap (λ (x : ℕ). broken_of a (is_settled a s) (x ∷ [])) same ∙ broken-none a (is_settled a s) other q.o q.there q.settled none
