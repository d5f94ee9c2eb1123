-- The weak pointers that notes tell, by name, are those of the definition.
use Rattle.std.proofs.Common.{◌≡◌, ℕ, suc, ◌<◌, List, [], ◌∷◌, length, map, get_or, refl, sym, ◌∙◌, ap, arith, Option, Some, None, Bool, true, inl, inr}
use Rattle.std.proofs.lemmas.Bool.{cases_Bool, false≢true}
use Rattle.std.proofs.lemmas.List.Elements.{All-filter, All-map, All-same}
use Rattle.std.proofs.lemmas.List.Sorted.{sum_by-IsPermutation}
use Rattle.std.specs.Prelude.{All, filter, ◌==◌, cond, count_by, nat_eq}
use Rattle.std.specs.List.{list_any}
use Rattle.std.specs.List.Sorted.{IsPermutation}
use Rattle.heap_terms.specs.Generations.{names}
use Rattle.heap_terms.specs.Heap.{object_at}
use Rattle.heap_terms.specs.Objects.{Object, Contents, ConsOf, VectorOf, InstanceOf, ClosureOf, WordsOf, WeakTo, TableOf}
use Rattle.heap_terms.specs.Survival.{breaks, breaks_in, breaks_of}
use Rattle.copy_space.specs.CullNotes.{broken_of}
use Rattle.copy_space.specs.WeakNames.{IsWeakName, is_weak, place_before, place_of}
use Rattle.pass_names.specs.Labelled.{HasName, label_at}
use Rattle.pass_names.specs.Named.{Met, IsMet}
use Rattle.pass_names.proofs.Ascending.{Ascends, same_numbers}
use Rattle.pass_names.proofs.ByName.{there_inside}
use Rattle.pass_names.proofs.Picking.{picked_never, picked_once, range_distinct, range_has}
use Rattle.pass_names.proofs.Ranges.{picked_ascend}

module _ (m : Met) (labels : List ℕ) (met : IsMet m labels) where
  abbrev is_broken : ℕ → Bool
  is_broken name = breaks_in m.live name (object_at m.heap.objects name)

  abbrev broken : List ℕ
  broken = filter is_broken m.names

  each_there : All (IsWeakName m.heap m.live) broken
  each_there = All-filter is_broken (IsWeakName m.heap m.live) m.names met.weak.each

  -- what breaks is among those that the pass met
  weak_one : (name : ℕ) (q : Option Object) → object_at m.heap.objects name ≡ q → breaks_in m.live name q ≡ true →
      (list_any (nat_eq name) m.names ≡ true) × (name < length m.heap.objects)
  weak_one name None e broken = absurd (false≢true broken)
  weak_one name (Some o) e broken = elim (cases_Bool (m.live name)) [
    | inl lives ↦ (met.weak.all name o e (weak o.contents (rw lives at broken)) lives, there_inside m.heap name o e)
    | inr dead ↦ absurd (false≢true (rw dead at broken))
  ]
    where
      weak : (k : Contents) → breaks m.live k ≡ true → is_weak k ≡ true
      weak (ConsOf x y) b = b
      weak (VectorOf vs) b = b
      weak (InstanceOf vs) b = b
      weak (ClosureOf vs) b = b
      weak (WordsOf ws) b = b
      weak (WeakTo v) b = refl
      weak (TableOf w b pairs) is = refl

  module _ (notes : List ℕ) (noted : notes ≡ broken_of m.heap m.live m.names) where
    pub places_named : All (HasName labels) notes
    places_named = All-same (HasName labels) notes (map (place_before m.heap) broken) noted
        (All-map (HasName labels) (place_before m.heap) broken (λ k d l.
        (let is = each_there k d l in
        record { heap = m.heap; labels_are = met.labels_are; name = get_or broken k d; o = is.o; there = is.there; here = ap place_of is.there })))

    read_back : (ns : List ℕ) → All (IsWeakName m.heap m.live) ns → map (label_at labels) (map (place_before m.heap) ns) ≡ ns
    read_back [] h = refl
    read_back (n ∷ ns) h =
        let is = h 0 n (omega arith) in
        let name : label_at labels (place_before m.heap n) ≡ n = ap (λ (q : Option Object). label_at labels (place_of q)) is.there ∙ met.labels_are.named n is.o is.there in
        ap (λ (x : ℕ). x ∷ map (label_at labels) (map (place_before m.heap) ns)) name ∙ ap (λ (xs : List ℕ). n ∷ xs) (read_back ns (λ k d l. h (suc k) d (omega (arith, l))))

    names_read : map (label_at labels) notes ≡ broken
    names_read = ap (map (label_at labels)) noted ∙ read_back broken each_there

    alike : (n : ℕ) → count_by (λ y. y == n) broken ≡ count_by (λ y. y == n) (breaks_of m.heap m.live)
    alike n = elim (cases_Bool (is_broken n)) [
      | inl takes ↦ (
          let weak = weak_one n (object_at m.heap.objects n) refl takes in
          picked_once is_broken n takes m.names met.weak.once weak.0
          ∙ sym (picked_once is_broken n takes (names m.heap) (range_distinct (length m.heap.objects)) (range_has (length m.heap.objects) n weak.1)))
      | inr leaves ↦ picked_never is_broken n leaves m.names ∙ sym (picked_never is_broken n leaves (names m.heap))
    ]

    pub broken_by_name : (xs : List ℕ) → IsPermutation (map (label_at labels) notes) xs → Ascends (λ x. x) xs → xs ≡ breaks_of m.heap m.live
    broken_by_name xs permuted up = same_numbers xs (breaks_of m.heap m.live) up (picked_ascend is_broken 0 (length m.heap.objects)) (λ n.
        sum_by-IsPermutation (λ (y : ℕ). cond (y == n) 1 0) (map (label_at labels) notes) xs permuted
        ∙ ap (λ (ys : List ℕ). count_by (λ y. y == n) ys) names_read ∙ alike n)
