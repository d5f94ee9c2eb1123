-- The loop that breaks weak pointers: one more start.
use Rattle.std.proofs.Common.{◌≡◌, ◌≢◌, ℕ, suc, ◌+◌, ◌<◌, ◌≤◌, List, [], ◌∷◌, ◌++◌, length, take, get_or, sym, ◌∙◌, ap, subst, arith, length-append, append_assoc}
use Rattle.std.specs.Prelude.{AllPairs, slice_index, vec_len, vec_capacity}
use Rattle.heap_terms.specs.declared.kinds.Kind.TheVariants as kinds
use Rattle.heap_terms.specs.Heap.{NamedHeap}
use Rattle.copy_space.specs.CullNotes.{broken_of}
use Rattle.copy_space.specs.declared.notes.PassNotes.{PassNotes}
use Rattle.copy_space.specs.Settled.{is_settled}
use Rattle.copy_space.specs.State.{CopyState}
use Rattle.weak_refs.specs.Breaking.{CanBreak, CanBreakAt}
use Rattle.copy_space.specs.WeakNames.{AreNamed, IsWeakAt}
use Rattle.weak_refs.specs.Rewriting.{AreRewritten, IsWeakStart}
use Rattle.weak_refs.proofs.Broken.{broken-next, broken-room}
use Rattle.weak_refs.proofs.Carrying.{start-waits}
use Rattle.weak_refs.proofs.Starts.{same-now}

-- a name is as good in a state that has other words
pub weak-over : (a : NamedHeap) (s r : CopyState) → r ≡ record s { words = r.words } → (name start : ℕ) → IsWeakAt a s name start → IsWeakAt a r name start
weak-over a s r same name start at =
    subst (λ (x : CopyState). IsWeakAt a x name start) (sym same) (record { o = at.o; there = at.there; settled = at.settled; here = at.here; weak = at.weak })

module _ (a : NamedHeap) (s r : CopyState) (starts : List ℕ) (once : AllPairs (λ (x y : ℕ). x ≢ y) starts) (i : ℕ) (inside : i < length starts) (old now : PassNotes) (can : CanBreak a s starts old)
    (left : AreRewritten a s r kinds.Weak starts i)
    (noted : (names : List ℕ) → AreNamed a s starts names → now.breaks.items ≡ old.breaks.items ++ broken_of a (is_settled a s) (take i names))
    (room : vec_capacity now.breaks ≡ vec_capacity old.breaks) where
  enough : vec_len now.breaks + length (broken_of a (is_settled a s) (get_or can.names i 0 ∷ [])) ≤ vec_capacity now.breaks
  enough =
      let so_far = ap length (noted can.names can.named) in
      let parts = length-append old.breaks.items (broken_of a (is_settled a s) (take i can.names)) in
      let names_long = can.named.long in
      let most = broken-room a (is_settled a s) can.names i (omega arith) in
      let all = can.room in
      omega arith

  start_is : IsWeakStart a r kinds.Weak (slice_index starts i)
  start_is = start-waits a s can.starts_are.places kinds.Weak starts once i inside r left (can.starts_are.each i inside)

  name_is : start_is.name ≡ get_or can.names i 0
  name_is =
      let at = weak-over a s r left.same (get_or can.names i 0) (slice_index starts i) (can.named.each i inside) in
      same-now a r left.places start_is.name (get_or can.names i 0) start_is.at.o at.o start_is.at.there at.there (start_is.at.here ∙ sym at.here)

  broken_over : (names : List ℕ) → broken_of a (is_settled a r) names ≡ broken_of a (is_settled a s) names
  broken_over names = ap (λ (x : CopyState). broken_of a (is_settled a x) names) left.same

  pub can-next : CanBreakAt a r (slice_index starts i) now
  can-next = record {
    places = left.places;
    start_is = start_is;
    room = (let one : broken_of a (is_settled a r) (start_is.name ∷ []) ≡ broken_of a (is_settled a s) (get_or can.names i 0 ∷ []) =
        broken_over (start_is.name ∷ []) ∙ ap (λ (x : ℕ). broken_of a (is_settled a s) (x ∷ [])) name_is in
        let long = ap length one in
        let all = enough in
        omega arith);
  }

  pub noted-next : (new : PassNotes) → ((name : ℕ) → IsWeakAt a r name (slice_index starts i) → new.breaks.items ≡ now.breaks.items ++ broken_of a (is_settled a r) (name ∷ [])) →
      (names : List ℕ) → AreNamed a s starts names → new.breaks.items ≡ old.breaks.items ++ broken_of a (is_settled a s) (take (i + 1) names)
  noted-next new one names named =
      let at = weak-over a s r left.same (get_or names i 0) (slice_index starts i) (named.each i inside) in
      let names_long = named.long in
      let up : i + 1 ≡ suc i = omega arith in
      let next = broken-next a (is_settled a s) names i (omega arith) in
      rw up (one (get_or names i 0) at ∙ ap (λ (more : List ℕ). now.breaks.items ++ more) (broken_over (get_or names i 0 ∷ []))
      ∙ ap (λ (so_far : List ℕ). so_far ++ broken_of a (is_settled a s) (get_or names i 0 ∷ [])) (noted names named)
      ∙ append_assoc old.breaks.items (broken_of a (is_settled a s) (take i names)) (broken_of a (is_settled a s) (get_or names i 0 ∷ []))
      ∙ ap (λ (more : List ℕ). old.breaks.items ++ more) (sym next))
