-- The pairs of one table, while more and more is settled.
use Rattle.std.proofs.Common.{◌≡◌, ◌≢◌, ℕ, ◌+◌, ◌*◌, ◌<◌, ◌≤◌, List, length, Bool, true, inl, inr, refl, sym, ◌∙◌, ap, subst, arith}
use Rattle.std.proofs.lemmas.Bool.{cases_lt}
use Rattle.std.proofs.lemmas.List.{get_or_past}
use Rattle.std.specs.Prelude.{slice_index}
use Rattle.heap_terms.specs.declared.cells.Value.{Value}
use Rattle.heap_terms.specs.declared.kinds.Kind.TheVariants as kinds
use Rattle.heap_terms.specs.declared.kinds.Weakness.{Weakness}
use Rattle.heap_terms.specs.declared.kinds.Weakness.TheVariants as weaknesses
use Rattle.heap_terms.specs.Heap.{NamedHeap, zero_value}
use Rattle.heap_terms.specs.Live.{is_live, Keeps, KeepsSides, KeepPairs}
use Rattle.heap_terms.specs.Objects.{Object, Contents, kind_of, words_of_object}
use Rattle.copy_space.specs.Midway.{Midway}
use Rattle.copy_space.specs.Settled.{is_settled, IsWordOf}
use Rattle.copy_space.specs.State.{CopyState}
use Rattle.copy_space.proofs.FrameLaws.{settled-stays, word-of-stays}
use Rattle.copy_space.specs.WeakNames.{IsWeakAt}
use Rattle.weak_refs.specs.Readying.{Readies, HasSameMoves, CanReadyPair, IsReadyAt, AreReady}
use Rattle.weak_refs.specs.Tables.{IsTableNow, pair_at}
use Rattle.weak_refs.proofs.Pointers.{pointer_contents}
use Rattle.weak_refs.proofs.Readies.{same-set, same-first, same-second}
use Rattle.weak_refs.proofs.Starts.{same-object}
use Rattle.weak_refs.proofs.TablesNow.{table-shape, table-words, table-inside, key-living, value-living}

keeps_zeros : (w : Weakness) → KeepsSides w true true
keeps_zeros weaknesses.Strong = (refl, refl)
keeps_zeros weaknesses.Key = λ e. refl
keeps_zeros weaknesses.Value = λ e. refl
keeps_zeros weaknesses.KeyAndValue = tt
keeps_zeros weaknesses.KeyOrValue = ((λ e. refl), (λ e. refl))

module _ (a : NamedHeap) (s : CopyState) (start : ℕ) (m : Midway a s) (q : IsTableNow a s start) where
  same_at : (r : CopyState) → Readies a s r → (i : ℕ) → i < words_of_object q.o → slice_index r.words (start + i) ≡ slice_index s.words (start + i)
  same_at r h i l = subst (λ (p : ℕ). slice_index r.words (p + i) ≡ slice_index s.words (p + i)) q.here (h.goes.words q.name q.o q.there q.settled i l)

  module _ (r : CopyState) (h : Readies a s r) (k : ℕ) (inside : k < length q.pairs) where
    pub pair-in : start + 4 + 2 * k + 2 ≤ length r.words
    pair-in =
        let few = (table-shape a s start m.places q).2 in
        let all = table-inside a s start m.places q in
        let long = m.places.long in
        let long_now = h.midway.places.long in
        omega arith

    pub key-then : (word : ℕ) → word ≡ slice_index r.words (start + 4 + 2 * k) → IsWordOf a r (pair_at q.pairs k).0 word
    key-then word is =
        let few = (table-shape a s start m.places q).2 in
        let size = table-words a s start m.places q in
        let up : start + (4 + 2 * k) ≡ start + 4 + 2 * k = omega arith in
        let same : slice_index r.words (start + 4 + 2 * k) ≡ slice_index s.words (start + 4 + 2 * k) =
        subst (λ (i : ℕ). slice_index r.words i ≡ slice_index s.words i) up (same_at r h (4 + 2 * k) (omega arith)) in
        word-of-stays a s r h.goes.grows (pair_at q.pairs k).0 word (record { living = key-living a s start m.places q k inside; either = inl (is ∙ same ∙ q.words.keys k inside) })

    pub value-then : (word : ℕ) → word ≡ slice_index r.words (start + 4 + 2 * k + 1) → IsWordOf a r (pair_at q.pairs k).1 word
    value-then word is =
        let few = (table-shape a s start m.places q).2 in
        let size = table-words a s start m.places q in
        let up : start + (5 + 2 * k) ≡ start + 5 + 2 * k = omega arith in
        let next : start + 4 + 2 * k + 1 ≡ start + 5 + 2 * k = omega arith in
        let same : slice_index r.words (start + 5 + 2 * k) ≡ slice_index s.words (start + 5 + 2 * k) =
        subst (λ (i : ℕ). slice_index r.words i ≡ slice_index s.words i) up (same_at r h (5 + 2 * k) (omega arith)) in
        word-of-stays a s r h.goes.grows (pair_at q.pairs k).1 word
        (record { living = value-living a s start m.places q k inside; either = inl (is ∙ ap (λ (i : ℕ). slice_index r.words i) next ∙ same ∙ q.words.values k inside) })

    pub pair-can : (w : Weakness) (key value : ℕ) → w ≡ q.w → key ≡ slice_index r.words (start + 4 + 2 * k) → value ≡ slice_index r.words (start + 4 + 2 * k + 1) → CanReadyPair a r w key value
    pair-can w key value w_is key_is value_is = record {
      midway = h.midway;
      u = (pair_at q.pairs k).0;
      v = (pair_at q.pairs k).1;
      key_is = key-then key key_is;
      value_is = value-then value value_is;
      held = λ set pairs has. subst (λ (x : Weakness). KeepsSides x (is_live set (pair_at q.pairs k).0) (is_live set (pair_at q.pairs k).1)) (sym w_is)
          (pairs q.name q.o q.there (has q.name (settled-stays a s r h.goes.grows q.name q.settled)) q.w q.b q.pairs q.contents k);
    }

  -- all pairs have what the weakness keeps
  pub table-ready : (t : CopyState) → Readies a s t →
      ((k : ℕ) → k < length q.pairs → KeepsSides q.w (is_live (is_settled a t) (pair_at q.pairs k).0) (is_live (is_settled a t) (pair_at q.pairs k).1)) → IsReadyAt a t start
  table-ready t h each = λ name o there settled here.
      (let q_here = h.goes.grows.places q.name q.o q.there q.settled ∙ q.here in
      let o_is = same-object a t h.midway.places q.name name q.o o q.there there (q_here ∙ sym here) in
      subst (λ (p : Object). Keeps (is_settled a t) p.contents) o_is (subst (λ (c : Contents). Keeps (is_settled a t) c) (sym q.contents) all))
    where
      all : KeepPairs (is_settled a t) q.w q.pairs
      all k = elim (cases_lt k (length q.pairs)) [
        | inl inside ↦ each k inside
        | inr past ↦ (let none : pair_at q.pairs k ≡ (zero_value, zero_value) = get_or_past q.pairs k (zero_value, zero_value) past in
            subst (λ (p : Value × Value). KeepsSides q.w (is_live (is_settled a t) p.0) (is_live (is_settled a t) p.1)) (sym none) (keeps_zeros q.w))
      ]

-- one pair more is ready
pub pairs-ready-on : (a : NamedHeap) (s r t : CopyState) (w known : Weakness) (pairs : List (Value × Value)) (n : ℕ) → Readies a s r → Readies a r t →
    (HasSameMoves s r → (k : ℕ) → k < n → k < length pairs → KeepsSides w (is_live (is_settled a r) (pair_at pairs k).0) (is_live (is_settled a r) (pair_at pairs k).1)) →
    known ≡ w → (HasSameMoves r t → KeepsSides known (is_live (is_settled a t) (pair_at pairs n).0) (is_live (is_settled a t) (pair_at pairs n).1)) →
    HasSameMoves s t → (k : ℕ) → k < n + 1 → k < length pairs → KeepsSides w (is_live (is_settled a t) (pair_at pairs k).0) (is_live (is_settled a t) (pair_at pairs k).1)
pairs-ready-on a s r t w known pairs n h k so_far is one same j l inside = elim (cases_lt j n) [
  | inl before ↦ subst (λ (f : ℕ → Bool). KeepsSides w (is_live f (pair_at pairs j).0) (is_live f (pair_at pairs j).1))
      (sym (same-set a r t h.midway k (same-second a s r t h k same))) (so_far (same-first a s r t h k same) j before inside)
  | inr now ↦ (let j_is : n ≡ j = omega arith in
      subst (λ (i : ℕ). KeepsSides w (is_live (is_settled a t) (pair_at pairs i).0) (is_live (is_settled a t) (pair_at pairs i).1)) j_is
      (subst (λ (x : Weakness). KeepsSides x (is_live (is_settled a t) (pair_at pairs n).0) (is_live (is_settled a t) (pair_at pairs n).1)) is (one (same-second a s r t h k same))))
]

-- what is ready stays ready where no move was added
pub ready-stays : (a : NamedHeap) (r t : CopyState) (start : ℕ) → Midway a r → Readies a r t → HasSameMoves r t → IsReadyAt a r start → IsReadyAt a t start
ready-stays a r t start m h same ready = λ name o there settled here.
    (let sets = same-set a r t m h same in
    let settled_r : is_settled a r name ≡ true = subst (λ (f : ℕ → Bool). f name ≡ true) sets settled in
    subst (λ (f : ℕ → Bool). Keeps f o.contents) (sym sets) (ready name o there settled_r (sym (h.goes.grows.places name o there settled_r) ∙ here)))

-- a weak pointer keeps nothing
pub pointer-ready : (a : NamedHeap) (s : CopyState) (name start : ℕ) → Midway a s → (at : IsWeakAt a s name start) → kind_of at.o.contents ≢ kinds.Table → IsReadyAt a s start
pointer-ready a s name start m at other = λ x o there settled here.
    (let o_is = same-object a s m.places name x at.o o at.there there (at.here ∙ sym here) in
    elim at.weak [
      | inr table ↦ absurd (other table)
      | inl weak ↦ (let found = pointer_contents at.o.contents weak in
          subst (λ (p : Object). Keeps (is_settled a s) p.contents) o_is (subst (λ (c : Contents). Keeps (is_settled a s) c) (sym found.1) tt))
    ])

-- one start more is ready
pub starts-ready-on : (a : NamedHeap) (s r t : CopyState) (starts : List ℕ) (n : ℕ) → Readies a s r → Readies a r t → (HasSameMoves s r → AreReady a r starts n) →
    (HasSameMoves r t → IsReadyAt a t (slice_index starts n)) → HasSameMoves s t → AreReady a t starts (n + 1)
starts-ready-on a s r t starts n h k so_far one same j l = elim (cases_lt j n) [
  | inl before ↦ ready-stays a r t (slice_index starts j) h.midway k (same-second a s r t h k same) (so_far (same-first a s r t h k same) j before)
  | inr now ↦ (let j_is : n ≡ j = omega arith in subst (λ (i : ℕ). IsReadyAt a t (slice_index starts i)) j_is (one (same-second a s r t h k same)))
]
