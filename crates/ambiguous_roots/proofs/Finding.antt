-- After the last page: all objects of the generation have been met, and no hint is left.
use Rattle.std.proofs.Common.{◌≡◌, ◌⊎◌, ℕ, ◌*◌, ◌<◌, List, length, replicate, Option, Some, None, Bool, true, false, inl, inr, refl, sym, ◌∙◌, ap, arith}
use Rattle.std.proofs.lemmas.Bool.{lt-ltb}
use Rattle.std.proofs.lemmas.List.{get_or-replicate, get_or_default, same_lists}
use Rattle.std.specs.Prelude.{◌==◌, ◌&&◌, count_by, nat_lt}
use Rattle.heap_terms.specs.declared.pages.Entry.{Entry}
use Rattle.heap_terms.specs.Generations.{has_generation, is_of, names}
use Rattle.heap_terms.specs.Heap.{NamedHeap, object_at}
use Rattle.heap_terms.specs.Objects.{Object}
use Rattle.heap_terms.specs.Sound.{IsSound}
use Rattle.ambiguous_roots.specs.Hinted.{hint_of, IsPointedAt}
use Rattle.ambiguous_roots.specs.HitStarts.{AreHitStarts}
use Rattle.ambiguous_roots.specs.Pinning.{AreHitBefore, begins_before, how_many_before}
use Rattle.ambiguous_roots.proofs.Counting.{count-same}
use Rattle.ambiguous_roots.proofs.OnPages.{place_inside}

module _ (a : NamedHeap) (sound : IsSound a) (pages : List Entry) (same : pages ≡ a.pages) (g : ℕ) where
  inside : (name : ℕ) (o : Object) → object_at a.objects name ≡ Some o → o.place < 512 * length pages
  inside name o e = (let long = ap length same in let within = place_inside a name o sound e in omega arith)

  -- every object begins before the end
  pub all-hit : (words starts : List ℕ) → AreHitBefore a g words (512 * length pages) starts → AreHitStarts a g words starts
  all-hit words starts h = record {
    each = h.each;
    all = λ name o e of_it hit. h.all name o e of_it hit (inside name o e);
    ascending = h.ascending;
  }

  pub all-counted : how_many_before a g (512 * length pages) ≡ count_by (is_of a g) (names a)
  all-counted = count-same (λ x. begins_before g (512 * length pages) (object_at a.objects x)) (is_of a g) (names a) (λ x. go x (object_at a.objects x) refl)
    where
      go : (x : ℕ) (q : Option Object) → object_at a.objects x ≡ q → begins_before g (512 * length pages) (object_at a.objects x) ≡ is_of a g x
      go x None e = ap (begins_before g (512 * length pages)) e ∙ sym (ap (has_generation g) e)
      go x (Some o) e = ap (begins_before g (512 * length pages)) e ∙ before (o.generation == g) ∙ sym (ap (has_generation g) e)
        where
          before : (b : Bool) → (b && nat_lt o.place (512 * length pages)) ≡ b
          before true = lt-ltb o.place (512 * length pages) (inside x o e)
          before false = refl

-- hints that are set for some words and cleared for the same words are as before
pub hints-cleared : (words : List ℕ) (first mid last : List Bool) → first ≡ replicate (length first) false →
    ((k : ℕ) → (hint_of mid k ≡ hint_of first k) ⊎ IsPointedAt words (2 * k)) → length mid ≡ length first →
    ((k : ℕ) → IsPointedAt words (2 * k) → k < length mid → hint_of last k ≡ false) → ((k : ℕ) → (hint_of last k ≡ hint_of mid k) ⊎ IsPointedAt words (2 * k)) →
    length last ≡ length mid → last ≡ first
hints-cleared words first mid last none others mid_long cleared kept last_long =
    same_lists last first (last_long ∙ mid_long) (λ k d l.
    (let bound : k < length first = omega (arith, l, last_long, mid_long) in
    get_or_default last k d false l ∙ at k (omega (arith, l, last_long)) ∙ sym (unset k bound) ∙ sym (get_or_default first k d false bound)))
  where
    unset : (k : ℕ) → k < length first → hint_of first k ≡ false
    unset k l = ap (λ (xs : List Bool). hint_of xs k) none ∙ get_or-replicate (length first) k false false l

    at : (k : ℕ) → k < length mid → hint_of last k ≡ false
    at k l = elim (kept k) [
      | inr pointed ↦ cleared k pointed l
      | inl same ↦ elim (others k) [
        | inr pointed ↦ cleared k pointed l
        | inl was ↦ same ∙ was ∙ unset k (omega (arith, l, mid_long))
      ]
    ]
