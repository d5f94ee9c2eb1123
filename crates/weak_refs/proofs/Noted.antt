-- How much room the notes need: at most 64 culls for each start, and one break.
use Rattle.std.proofs.Common.{◌≡◌, ℕ, ◌*◌, ◌≤◌, List, [], ◌∷◌, length, Option, Some, None, Bool, inl, inr, refl, arith, length-append}
use Rattle.std.proofs.lemmas.Bool.{cases_Bool}
use Rattle.std.proofs.lemmas.List.{length-map}
use Rattle.std.specs.Prelude.{filter, flat_map, not}
use Rattle.heap_terms.specs.declared.cells.Value.{Value}
use Rattle.heap_terms.specs.declared.events.Cull.{Cull}
use Rattle.heap_terms.specs.Heap.{NamedHeap, object_at}
use Rattle.heap_terms.specs.Living.{IsShaped}
use Rattle.heap_terms.specs.Objects.{Object, Contents, ConsOf, VectorOf, InstanceOf, ClosureOf, WordsOf, WeakTo, TableOf}
use Rattle.heap_terms.specs.Sound.{IsSound}
use Rattle.heap_terms.specs.Survival.{is_kept, culled_from, culls_in, breaks_in}
use Rattle.copy_space.specs.CullNotes.{broken_of, culled_of, noted_cull}
use Rattle.copy_space.specs.WeakNames.{place_before}

filter-most : {X : Type 0} (p : X → Bool) (xs : List X) → length (filter p xs) ≤ length xs
filter-most p [] = omega arith
filter-most p (x ∷ xs) = elim (cases_Bool (p x)) [
  | inl in_it ↦ rw in_it (omega (arith, filter-most p xs))
  | inr out ↦ rw out (omega (arith, filter-most p xs))
]

from-most : (live : ℕ → Bool) (name : ℕ) (k : Contents) → IsShaped k → length (culled_from live name k) ≤ 64
from-most live name (ConsOf a b) h = omega arith
from-most live name (VectorOf vs) h = omega arith
from-most live name (InstanceOf vs) h = omega arith
from-most live name (ClosureOf vs) h = omega arith
from-most live name (WordsOf ws) h = omega arith
from-most live name (WeakTo v) h = omega arith
from-most live name (TableOf w b pairs) h =
    let some = filter-most (λ (pair : Value × Value). not (is_kept live w pair)) pairs in
    let culled : Value × Value → Cull = λ pair. record { table = name; key = pair.0; value = pair.1 } in
    let same : length (culled_from live name (TableOf w b pairs)) ≡ length (filter (λ (pair : Value × Value). not (is_kept live w pair)) pairs) =
    length-map (filter (λ (pair : Value × Value). not (is_kept live w pair)) pairs) culled in
    let few = h.2 in
    let most = h.1 in
    omega arith

module _ (a : NamedHeap) (sound : IsSound a) (live : ℕ → Bool) where
  in-most : (name : ℕ) → length (culls_in live name (object_at a.objects name)) ≤ 64
  in-most name = go (object_at a.objects name) refl
    where
      go : (q : Option Object) → object_at a.objects name ≡ q → length (culls_in live name q) ≤ 64
      go None e = omega arith
      go (Some o) e = elim (cases_Bool (live name)) [
        | inl lives ↦ rw lives (from-most live name o.contents (sound.objects name o e).shape)
        | inr dead ↦ rw dead (omega arith)
      ]

  all-most : (names : List ℕ) → length (flat_map (λ name. culls_in live name (object_at a.objects name)) names) ≤ 64 * length names
  all-most [] = omega arith
  all-most (name ∷ rest) =
      let one = in-most name in
      let more = all-most rest in
      let both = length-append (culls_in live name (object_at a.objects name)) (flat_map (λ name. culls_in live name (object_at a.objects name)) rest) in
      omega arith

  pub culled-most : (names : List ℕ) → length (culled_of a live names) ≤ 64 * length names
  culled-most names =
      let same = length-map (flat_map (λ name. culls_in live name (object_at a.objects name)) names) (noted_cull a) in
      let most = all-most names in
      omega arith

  pub broken-most : (names : List ℕ) → length (broken_of a live names) ≤ length names
  broken-most names =
      let same = length-map (filter (λ name. breaks_in live name (object_at a.objects name)) names) (place_before a) in
      let most = filter-most (λ name. breaks_in live name (object_at a.objects name)) names in
      omega arith
