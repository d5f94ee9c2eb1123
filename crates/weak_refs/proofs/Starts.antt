-- What stands at one start is one object; and where it was before the pass is told by the moves.
use Rattle.std.proofs.Common.{◌≡◌, ◌≢◌, ℕ, suc, ◌/◌, ◌<◌, List, [], ◌∷◌, length, get_or, Option, Some, None, true, false, inl, inr, refl, sym, ◌∙◌, ap, subst, arith}
use Rattle.std.proofs.lemmas.Bool.{cases_eq, eq-eqb, ne_eqb, false≢true}
use Rattle.std.proofs.lemmas.Option.{same_Some}
use Rattle.std.specs.Prelude.{◌==◌}
use Rattle.heap_terms.specs.Heap.{NamedHeap, object_at, entry_at}
use Rattle.heap_terms.specs.Objects.{Object}
use Rattle.heap_terms.specs.OnPages.{IsPlaced}
use Rattle.heap_terms.specs.Passes.{moved_to}
use Rattle.heap_terms.specs.Placement.{scratch}
use Rattle.pass_laws.specs.Spread.{settled, moved_object}
use Rattle.pass_laws.proofs.Sizes.{words_least}
use Rattle.copy_space.specs.declared.notes.Move.{Move}
use Rattle.copy_space.specs.Midway.{IsPlacedSoFar}
use Rattle.copy_space.specs.Moved.{new_of}
use Rattle.copy_space.specs.Pages.{is_page_of}
use Rattle.copy_space.specs.State.{CopyState}
use Rattle.copy_space.proofs.Listed.{move-is}
use Rattle.copy_space.proofs.Places.{now_apart, now_unmoved, said, placed_now, placed_page}
use Rattle.copy_space.proofs.Referents.{ms, its}

module _ (a : NamedHeap) (s : CopyState) (h : IsPlacedSoFar a s) where
  -- two objects that stand now at one place are one
  pub same-now : (x y : ℕ) (o q : Object) → object_at a.objects x ≡ Some o → object_at a.objects y ≡ Some q → new_of s.moves o.place ≡ new_of s.moves q.place → x ≡ y
  same-now x y o q e f same = elim (cases_eq x y) [
    | inl is ↦ is
    | inr not ↦ (let m = words_least o in let n = words_least q in
        elim (now_apart a s (ms a s h) h.sound (its a s h) x y o q not e f) [ inl l ↦ absurd (omega arith) | inr l ↦ absurd (omega arith) ])
  ]

  pub same-object : (x y : ℕ) (o q : Object) → object_at a.objects x ≡ Some o → object_at a.objects y ≡ Some q → new_of s.moves o.place ≡ new_of s.moves q.place → o ≡ q
  same-object x y o q e f same = same_Some o q (sym e ∙ subst (λ (z : ℕ). object_at a.objects z ≡ Some q) (sym (same-now x y o q e f same)) f)

  -- the move that ends at a start is that of the object there
  pub moved-from : (k : ℕ) (d : Move) (start name : ℕ) (o : Object) → k < length s.moves → (get_or s.moves k d).new ≡ start →
      object_at a.objects name ≡ Some o → new_of s.moves o.place ≡ start → (get_or s.moves k d).old ≡ o.place
  moved-from k d start name o l to there here =
      let m = move-is a s h k d l in
      sym m.old ∙ ap (λ (q : Object). q.place) (same-object m.name name m.o o m.there there (m.new ∙ to ∙ sym here))

-- where no move ends at a start, nothing has moved there
pub unmoved-there : (moves : List Move) (d : Move) (start p : ℕ) → ((k : ℕ) → k < length moves → (get_or moves k d).new ≢ start) → new_of moves p ≡ start → start ≡ p
unmoved-there [] d start p none e = sym e
unmoved-there (m ∷ rest) d start p none e = elim (cases_eq m.old p) [
  | inl same ↦ (let hit : (m.old == p) ≡ true = eq-eqb m.old p same in
      let to : m.new ≡ start = rw hit at e in
      absurd (none 0 (omega arith) to))
  | inr other ↦ (let miss : (m.old == p) ≡ false = ne_eqb m.old p other in
      unmoved-there rest d start p (λ k l. none (suc k) (omega arith)) (rw miss at e))
]

-- what stands on no page that was taken has not moved
pub unmoved-off : (a : NamedHeap) (s : CopyState) (h : IsPlacedSoFar a s) (name : ℕ) (o : Object) → object_at a.objects name ≡ Some o →
    is_page_of (entry_at s.pages (new_of s.moves o.place / 512)) scratch ≡ false → new_of s.moves o.place ≡ o.place
unmoved-off a s h name o there off = go (moved_to (ms a s h) name) refl
  where
    go : (to : Option ℕ) → moved_to (ms a s h) name ≡ to → new_of s.moves o.place ≡ o.place
    go None e = now_unmoved a s (ms a s h) h.sound (its a s h) name o there e
    go (Some index) e =
        let here : new_of s.moves o.place ≡ index = (said a s (ms a s h) h.sound (its a s h) name o there).0 ∙ ap (λ (t : Option ℕ). (settled t o).place) e in
        let placed : IsPlaced s.pages (moved_object o index) = subst (λ (t : Option ℕ). IsPlaced s.pages (settled t o)) e (placed_now a s (ms a s h) h.sound (its a s h) name o there) in
        let least = words_least o in
        let taken = placed_page s.pages (moved_object o index) (its a s h).most placed index (omega arith) (omega arith) in
        absurd (false≢true (sym off ∙ ap (λ (i : ℕ). is_page_of (entry_at s.pages (i / 512)) scratch) here ∙ taken))
