-- The pins are the answers for single words, and hits are told by the words from the base address on.
use Rattle.std.proofs.Common.{◌≡◌, ◌↔◌, ℕ, ◌≤◌, List, [], ◌∷◌, get_or, Option, Some, Bool, true, nat_eq, IfSome, inl, inr, refl, sym, ◌∙◌, subst, ap, arith}
use Rattle.std.proofs.lemmas.Bool.{cases_eq, or_cases, eq-eqb, ne_eqb, eqb-true, false≢true}
use Rattle.std.proofs.lemmas.List.Elements.{All-head, All-tail}
use Rattle.std.proofs.lemmas.List.Folds.{list_any_at}
use Rattle.std.proofs.lemmas.Option.{same_Some}
use Rattle.std.specs.List.{list_any}
use Rattle.std.specs.Prelude.{All, ◌==◌, ◌||◌}
use Rattle.heap_terms.specs.Heap.{NamedHeap, object_at}
use Rattle.heap_terms.specs.Layout.{base_address, reference_word}
use Rattle.heap_terms.specs.Objects.{Object, kind_of}
use Rattle.heap_terms.specs.Roots.{hits}
use Rattle.heap_terms.specs.Sound.{IsSound}
use Rattle.ambiguous_roots.specs.HitStarts.{IsHitStart, AreHitStarts}
use Rattle.ambiguous_roots.specs.Hits.{IsHitAt, IsHitOf}
use Rattle.ambiguous_roots.specs.Laws.{IsAnswered}
use Rattle.ambiguous_roots.proofs.HowMany.{same_name}
use Rattle.ambiguous_roots.proofs.Pointing.{found_in}

-- an index among some, of each of which something holds
among : (P : ℕ → Type 0) (xs : List ℕ) (index : ℕ) → All P xs → list_any (nat_eq index) xs ≡ true → P index
among P [] index all e = absurd (false≢true e)
among P (x ∷ xs) index all e = elim (or_cases (nat_eq index x) (list_any (nat_eq index) xs) e) [
  | inl here ↦ subst P (sym (eqb-true index x here)) (All-head P x xs all)
  | inr later ↦ among P xs index (All-tail P x xs all) later
]

pub answered : (a : NamedHeap) (g : ℕ) (words starts : List ℕ) (answer : ℕ → Option ℕ) → IsSound a → ((word : ℕ) → IsHitOf a word (answer word)) →
    AreHitStarts a g words starts → (index : ℕ) → (list_any (nat_eq index) starts ≡ true) ↔ IsAnswered a g words answer index
answered a g words starts answer sound each h index = (λ e. there (among (IsHitStart a g words) starts index h.each e), back)
  where
    there : IsHitStart a g words index → IsAnswered a g words answer index
    there start =
        let found = found_in (hits (Some start.o)) words start.hit in
        record {
          name = start.name;
          o = start.o;
          there = start.there;
          here = start.here;
          of_it = start.of_it;
          k = found.0;
          below = found.1;
          answered = (each (get_or words found.0 0)).met start.name start.o start.there found.2 ∙ ap (λ (i : ℕ). Some i) start.here;
        }

    back : IsAnswered a g words answer index → list_any (nat_eq index) starts ≡ true
    back is =
        let hit : IsHitAt a (get_or words is.k 0) index = subst (λ (r : Option ℕ). IfSome r (IsHitAt a (get_or words is.k 0))) is.answered (each (get_or words is.k 0)).object in
        let name = same_name a sound hit.name is.name hit.o is.o hit.there is.there (hit.here ∙ sym is.here) in
        let object : hit.o ≡ is.o = same_Some hit.o is.o (sym hit.there ∙ ap (object_at a.objects) name ∙ is.there) in
        let its : hits (Some is.o) (get_or words is.k 0) ≡ true = ap (λ (o : Object). hits (Some o) (get_or words is.k 0)) (sym object) ∙ hit.hit in
        ap (λ (i : ℕ). list_any (nat_eq i) starts) (sym is.here) ∙ h.all is.name is.o is.there is.of_it (list_any_at (hits (Some is.o)) words is.k 0 is.below its)

-- an object is hit by a list exactly where its word is in the list
pub hits-word : (o : Object) (words : List ℕ) → list_any (hits (Some o)) words ≡ list_any (nat_eq (reference_word o.place (kind_of o.contents))) words
hits-word o [] = refl
hits-word o (w ∷ words) =
    ap (λ (b : Bool). b || list_any (hits (Some o)) words) (swapped w (reference_word o.place (kind_of o.contents)))
    ∙ ap (λ (b : Bool). nat_eq (reference_word o.place (kind_of o.contents)) w || b) (hits-word o words)
  where
    swapped : (x y : ℕ) → (x == y) ≡ nat_eq y x
    swapped x y = elim (cases_eq x y) [
      | inl same ↦ eq-eqb x y same ∙ sym (eq-eqb y x (sym same))
      | inr apart ↦ ne_eqb x y apart ∙ sym (ne_eqb y x (λ same. apart (sym same)))
    ]

-- so lists with the same words from the base address on hit the same objects
pub same-hits : (o : Object) (words others : List ℕ) → ((word : ℕ) → base_address ≤ word → list_any (nat_eq word) words ≡ list_any (nat_eq word) others) →
    list_any (hits (Some o)) words ≡ list_any (hits (Some o)) others
same-hits o words others same = hits-word o words ∙ same (reference_word o.place (kind_of o.contents)) (omega arith) ∙ sym (hits-word o others)
