-- Words of an object become unbound, one after the other.
use Rattle.std.proofs.Common.{◌≡◌, ℕ, ◌+◌, ◌-◌, ◌<◌, ◌≤◌, List, set, length, inl, inr, refl, sym, ◌∙◌, ap, subst, arith}
use Rattle.std.proofs.lemmas.Bool.{cases_eq}
use Rattle.std.proofs.lemmas.List.{get_or-set_same, get_or-set_other}
use Rattle.std.specs.Prelude.{slice_index}
use Rattle.heap_terms.specs.Heap.{NamedHeap}
use Rattle.heap_terms.specs.Layout.{unbound_word}
use Rattle.copy_space.specs.Midway.{IsPlacedSoFar}
use Rattle.copy_space.specs.Moved.{new_of}
use Rattle.copy_space.specs.State.{CopyState}
use Rattle.copy_space.proofs.Places.{now_inside}
use Rattle.copy_space.proofs.Referents.{ms, its}
use Rattle.copy_space.proofs.Rewriting.{places-written}
use Rattle.weak_refs.specs.Culling.{CanClear, IsCleared}
use Rattle.weak_refs.proofs.Carrying.{over}

pub cleared-none : (a : NamedHeap) (s : CopyState) (from : ℕ) → IsPlacedSoFar a s → IsCleared a s s from from
cleared-none a s from h = record { same = refl; places = h; cleared = λ i low high. absurd (omega (arith, low, high)); others = λ i out. refl }

module _ (a : NamedHeap) (s : CopyState) (from to : ℕ) (can : CanClear a s from to) where
  pub clear-inside : to ≤ length s.words
  clear-inside =
      let inside = now_inside a s (ms a s can.places) can.places.sound (its a s can.places) can.name can.o can.there in
      let long = can.places.long in
      let high = can.high in
      omega arith

  cleared_over : (w : List ℕ) (index : ℕ) → from ≤ index → index < to → IsCleared a s (over s w) from index → IsCleared a s (over s (set w index unbound_word)) from (index + 1)
  cleared_over w index low high h =
      let long = h.places.long in
      let long_before = can.places.long in
      let inside = clear-inside in
      let first = can.low in
      let last = can.high in
      let at : new_of s.moves can.o.place + (index - new_of s.moves can.o.place) ≡ index = omega arith in
      record {
        same = refl;
        places = subst (λ (i : ℕ). IsPlacedSoFar a (over s (set w i unbound_word))) at
            (places-written a (over s w) h.places can.name can.o can.there (index - new_of s.moves can.o.place) (omega arith) unbound_word);
        cleared = λ i below above. elim (cases_eq i index) [
          | inl same ↦ ap (λ (j : ℕ). slice_index (set w index unbound_word) j) same ∙ get_or-set_same w index unbound_word 0 (omega arith)
          | inr other ↦ get_or-set_other w index i unbound_word 0 other ∙ h.cleared i below (omega arith)
        ];
        others = λ i out. elim out [
          | inl below ↦ get_or-set_other w index i unbound_word 0 (λ e. omega arith) ∙ h.others i (inl below)
          | inr above ↦ get_or-set_other w index i unbound_word 0 (λ e. omega arith) ∙ h.others i (inr (omega arith))
        ];
      }

  pub cleared-next : (r t : CopyState) (index : ℕ) → from ≤ index → index < to → IsCleared a s r from index → t ≡ record r { words = set r.words index unbound_word } → IsCleared a s t from (index + 1)
  cleared-next r t index low high h is =
      let is_over : t ≡ over s (set r.words index unbound_word) = is ∙ ap (λ (x : CopyState). record x { words = set r.words index unbound_word }) h.same in
      let over_s : IsCleared a s (over s r.words) from index = subst (λ (x : CopyState). IsCleared a s x from index) h.same h in
      subst (λ (x : CopyState). IsCleared a s x from (index + 1)) (sym is_over) (cleared_over r.words index low high over_s)
