-- Edges: where a piece of the heap before the pass ends, an object begins or two fillers stand, and behind them there is an
-- edge again.
use Rattle.std.proofs.Common.{◌≡◌, ◌≢◌, ℕ, ◌+◌, ◌%◌, ◌<◌, ◌≤◌, ◌⊎◌, inl, inr, Some, sym, ◌∙◌, ap, subst, arith}
use Rattle.std.proofs.lemmas.Bool.{cases_lt, cases_eq}
use Rattle.std.proofs.lemmas.Option.{same_Some}
use Rattle.heap_terms.specs.Heap.{NamedHeap, object_at}
use Rattle.heap_terms.specs.Objects.{Object, words_of_object}
use Rattle.heap_terms.specs.OnPages.{IsOwned}
use Rattle.heap_terms.specs.Sound.{IsSound}
use Rattle.object_walk.proofs.HeapWalks.{BeginsNone}
use Rattle.object_walk.proofs.Places.{words_even}
use Rattle.scavenge.specs.Older.{IsEdge}

-- an object that begins before the end of another is that one, or ends before it begins
pub same_or_before : (a : NamedHeap) → IsSound a → (x y : ℕ) (o q : Object) → object_at a.objects x ≡ Some o → object_at a.objects y ≡ Some q →
    q.place < o.place + words_of_object o → ((x ≡ y) × (q ≡ o)) ⊎ (q.place + words_of_object q ≤ o.place)
same_or_before a sound x y o q e f below = elim (cases_eq x y) [
  | inl is ↦ inl (is, same_Some q o (sym f ∙ subst (λ (z : ℕ). object_at a.objects z ≡ Some o) is e))
  | inr not ↦ elim (sound.apart x y o q not e f) [
    | inl later ↦ absurd (omega arith)
    | inr before ↦ inr before
  ]
]

-- behind an object that begins at an edge
pub edge-behind : (a : NamedHeap) (index : ℕ) → IsSound a → IsEdge a index → (name : ℕ) (o : Object) → object_at a.objects name ≡ Some o → o.place ≡ index →
    IsEdge a (index + words_of_object o)
edge-behind a index sound edge name o there here = record {
  even = omega (arith, edge.even, words_even o);
  before = λ other q f below. (
      let within : q.place < o.place + words_of_object o = omega (arith, here) in
      elim (same_or_before a sound name other o q there f within) [
        | inl same ↦ (let end = ap (λ (r : Object). r.place + words_of_object r) same.1 in omega (arith, end, here))
        | inr before ↦ omega (arith, before, here)
      ]);
}

even_place : (a : NamedHeap) → IsSound a → (name : ℕ) (o : Object) → object_at a.objects name ≡ Some o → o.place % 2 ≡ 0
even_place a sound name o there = (sound.objects name o there).placed.even

-- behind two words at an edge where none begins
pub edge-over : (a : NamedHeap) (index : ℕ) → IsSound a → IsEdge a index → BeginsNone a.objects index → IsEdge a (index + 2)
edge-over a index sound edge none = record {
  even = omega (arith, edge.even);
  before = λ name o there below. (
      let even = even_place a sound name o there in
      let not_here : o.place ≢ index = none name o there in
      let lower : o.place < index = omega (arith, edge.even) in
      omega (arith, edge.before name o there lower));
}

-- those words belong to no object
pub not-owned : (a : NamedHeap) (index : ℕ) → IsSound a → IsEdge a index → BeginsNone a.objects index → ¬ IsOwned a.objects index
not-owned a index sound edge none (name, o, there, belongs) =
    let even = even_place a sound name o there in
    let not_here : o.place ≢ index = none name o there in
    let from = belongs.from in
    let below = belongs.below in
    elim (cases_lt o.place index) [
      | inl lower ↦ omega (arith, edge.before name o there lower)
      | inr behind ↦ omega (arith, edge.even)
    ]

-- and none begins at them
pub none-over : (a : NamedHeap) (index : ℕ) → IsSound a → IsEdge a index → BeginsNone a.objects index → (name : ℕ) (o : Object) → object_at a.objects name ≡ Some o →
    index ≤ o.place → o.place < index + 2 → ⊥
none-over a index sound edge none name o there low high =
    let even = even_place a sound name o there in
    let not_here : o.place ≢ index = none name o there in
    omega (arith, edge.even)
