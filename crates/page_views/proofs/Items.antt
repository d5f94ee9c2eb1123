-- The items of a stretch of a page's words: one for a gap, one for an object.
use Rattle.std.proofs.Common.{◌≡◌, ◌≢◌, ℕ, ◌+◌, ◌-◌, ◌<◌, ◌≤◌, zero, suc, List, [], ◌∷◌, ◌++◌, length, Some, None, Bool, true, false, inl, inr, refl, sym, ◌∙◌, ap, subst, arith, add-zero, zero-add}
use Rattle.std.specs.Prelude.{◌⊎◌, ◌==◌, ◌||◌, ◌&&◌, not}
use Rattle.std.specs.List.{flat_map, range_with_len, take_while, prefix_len}
use Rattle.std.proofs.lemmas.Bool.{cases_eq, cases_lt, eq-eqb, ne_eqb}
use Rattle.std.proofs.lemmas.Grind.{flat_map-append}
use Rattle.std.proofs.lemmas.List.Folds.{length-prefix_len}
use Rattle.heap_terms.specs.declared.answers.Item.{Item}
use Rattle.heap_terms.specs.Heap.{NamedHeap, object_at}
use Rattle.heap_terms.specs.Objects.{Object, words_of_object}
use Rattle.heap_terms.specs.OnPages.{IsOwned, BelongsTo}
use Rattle.heap_terms.specs.PageViews.{begun_at, is_gap, gap_from, gap_begins, item_from, items_of}
use Rattle.heap_terms.specs.Sound.{IsSound}
use Rattle.object_walk.proofs.Places.{words_least}
use Rattle.page_views.proofs.Gaps.{gap_if, no_gap, begun, begun_none}

range-append : (x m n : ℕ) → range_with_len x (m + n) ≡ range_with_len x m ++ range_with_len (x + m) n
range-append x zero n = ap (λ (k : ℕ). range_with_len x k) (zero-add n) ∙ ap (λ (y : ℕ). range_with_len y n) (sym (add-zero x))
range-append x (suc m) n =
    let e : suc m + n ≡ suc (m + n) = omega arith in
    let f : x + 1 + m ≡ x + suc m = omega arith in
    ap (λ (k : ℕ). range_with_len x k) e ∙ ap (λ (ys : List ℕ). x ∷ ys) (range-append (x + 1) m n ∙ ap (λ (y : ℕ). range_with_len (x + 1) m ++ range_with_len y n) f)

-- the items of n words from an index on
abbrev pub items_between : NamedHeap → ℕ → ℕ → ℕ → ℕ → List Item
items_between a start end from n = flat_map (λ index. item_from a start end index (begun_at a index)) (range_with_len from n)

pub items_after : (a : NamedHeap) (start end from m n : ℕ) → items_between a start end from (m + n) ≡ items_between a start end from m ++ items_between a start end (from + m) n
items_after a start end from m n =
    let f = λ (index : ℕ). item_from a start end index (begun_at a index) in
    ap (flat_map f) (range-append from m n) ∙ flat_map-append f (range_with_len from m) (range_with_len (from + m) n)

no_items : (a : NamedHeap) (start end from n : ℕ) → ((i : ℕ) → from ≤ i → i < from + n → item_from a start end i (begun_at a i) ≡ []) → items_between a start end from n ≡ []
no_items a start end from zero h = refl
no_items a start end from (suc n) h =
    ap (λ (xs : List Item). xs ++ items_between a start end (from + 1) n) (h from (omega arith) (omega arith))
    ∙ no_items a start end (from + 1) n (λ i low high. h i (omega arith) (omega arith))

-- so many of them pass from the front on
prefix_is : (p : ℕ → Bool) (x n m : ℕ) → ((i : ℕ) → x ≤ i → i < x + n → p i ≡ true) → (m ≡ 0) ⊎ (p (x + n) ≡ false) → prefix_len p (range_with_len x (n + m)) ≡ n
prefix_is p x zero zero h last = refl
prefix_is p x zero (suc m) h (inl none) = absurd (omega arith)
prefix_is p x zero (suc m) h (inr stops) =
    let here : p x ≡ false = ap p (sym (add-zero x)) ∙ stops in
    rw (zero-add (suc m)) (rw here refl)
prefix_is p x (suc n) m h last =
    let here : p x ≡ true = h x (omega arith) (omega arith) in
    let e : suc n + m ≡ suc (n + m) = omega arith in
    let f : x + 1 + n ≡ x + suc n = omega arith in
    let last' : (m ≡ 0) ⊎ (p (x + 1 + n) ≡ false) = elim last [ inl none ↦ inl none | inr stops ↦ inr (ap p f ∙ stops) ] in
    let rest = prefix_is p (x + 1) n m (λ i low high. h i (omega arith) (omega arith)) last' in
    rw (e, here) (omega arith)

-- n words from an index on are a whole gap of the words from `start` up to `end`
pub record IsGap (a : NamedHeap) (start end from n : ℕ) : Type 0 where
  pub some : 1 ≤ n
  pub low : start ≤ from
  pub high : from + n ≤ end
  pub none : (i : ℕ) → from ≤ i → i < from + n → ¬ IsOwned a.objects i
  pub first : (from ≡ start) ⊎ IsOwned a.objects (from - 1)
  pub last : (from + n ≡ end) ⊎ IsOwned a.objects (from + n)

-- it is one item
module _ (a : NamedHeap) (start end from n : ℕ) (g : IsGap a start end from n) where
  begins_none : (i : ℕ) → from ≤ i → i < from + n → begun_at a i ≡ None
  begins_none i low high = begun_none a i (λ name o there here.
      (let least = words_least o in g.none i low high (name, o, there, record { from = omega arith; below = omega arith })))

  long : length (gap_from a from end) ≡ n
  long =
      let m = end - (from + n) in
      let inside = g.high in
      let e : end - from ≡ n + m = omega arith in
      let last : (m ≡ 0) ⊎ (is_gap a (from + n) ≡ false) = elim g.last [ inl same ↦ inl (omega arith) | inr owned ↦ inr (no_gap a (from + n) owned) ] in
      ap (λ (k : ℕ). length (take_while (is_gap a) (range_with_len from k))) e
      ∙ length-prefix_len (is_gap a) (range_with_len from (n + m))
      ∙ prefix_is (is_gap a) from n m (λ i low high. gap_if a i (g.none i low high)) last

  begins : gap_begins a start from ≡ true
  begins =
      let some = g.some in
      let here : is_gap a from ≡ true = gap_if a from (g.none from (omega arith) (omega arith)) in
      elim g.first [
        | inl same ↦ (let e = eq-eqb from start same in rw (here, e) refl)
        | inr owned ↦ elim (cases_eq from start) [
          | inl same ↦ (let e = eq-eqb from start same in rw (here, e) refl)
          | inr other ↦ (let e = ne_eqb from start other in let before = no_gap a (from - 1) owned in rw (here, e, before) refl)
        ]
      ]

  continues : (i : ℕ) → from < i → i < from + n → gap_begins a start i ≡ false
  continues i low high =
      let under = g.low in
      let here : is_gap a i ≡ true = gap_if a i (g.none i (omega arith) high) in
      let e : (i == start) ≡ false = ne_eqb i start (λ same. absurd (omega arith)) in
      let before : is_gap a (i - 1) ≡ true = gap_if a (i - 1) (g.none (i - 1) (omega arith) (omega arith)) in
      rw (here, e, before) refl

  pub gap_items : items_between a start end from n ≡ record { name = None; index = from; count = n } ∷ []
  gap_items =
      let some = g.some in
      let none = begins_none from (omega arith) (omega arith) in
      let first : item_from a start end from (begun_at a from) ≡ record { name = None; index = from; count = n } ∷ [] =
      rw (none, begins, long) refl in
      let rest : items_between a start end (from + 1) (n - 1) ≡ [] = no_items a start end (from + 1) (n - 1)
      (λ i low high. let here = begins_none i (omega arith) (omega arith) in let not_first = continues i (omega arith) (omega arith) in rw (here, not_first) refl) in
      let e : n ≡ 1 + (n - 1) = omega arith in
      ap (items_between a start end from) e ∙ items_after a start end from 1 (n - 1)
      ∙ ap (λ (xs : List Item). xs ++ items_between a start end (from + 1) (n - 1)) (ap (λ (xs : List Item). xs ++ []) first)
      ∙ ap (λ (xs : List Item). record { name = None; index = from; count = n } ∷ xs) rest

-- an object is one item
module _ (a : NamedHeap) (sound : IsSound a) (start end name : ℕ) (o : Object) (there : object_at a.objects name ≡ Some o) where
  inside_none : (i : ℕ) → o.place < i → i < o.place + words_of_object o → begun_at a i ≡ None
  inside_none i low high = begun_none a i (λ x q is here. elim (cases_eq x name) [
    | inl same ↦ (let both : Some q ≡ Some o = sym is ∙ ap (object_at a.objects) same ∙ there in
        let place : q.place ≡ o.place = (let e : q ≡ o = cc in ap (λ (z : Object). z.place) e) in
        omega arith)
    | inr other ↦ (let least = words_least q in elim (sound.apart x name q o other is there) [ inl m ↦ omega arith | inr m ↦ omega arith ])
  ])

  pub object_items : items_between a start end o.place (words_of_object o) ≡ record { name = Some name; index = o.place; count = 0 } ∷ []
  object_items =
      let n = words_of_object o in
      let least = words_least o in
      let first : item_from a start end o.place (begun_at a o.place) ≡ record { name = Some name; index = o.place; count = 0 } ∷ [] =
      rw (begun a sound name o there) refl in
      let rest : items_between a start end (o.place + 1) (n - 1) ≡ [] = no_items a start end (o.place + 1) (n - 1)
      (λ i low high.
      let here = inside_none i (omega arith) (omega arith) in
      let owned : IsOwned a.objects i = (name, o, there, record { from = omega arith; below = omega arith }) in
      let gap = no_gap a i owned in
      rw (here, gap) refl) in
      let e : n ≡ 1 + (n - 1) = omega arith in
      ap (items_between a start end o.place) e ∙ items_after a start end o.place 1 (n - 1)
      ∙ ap (λ (xs : List Item). xs ++ items_between a start end (o.place + 1) (n - 1)) (ap (λ (xs : List Item). xs ++ []) first)
      ∙ ap (λ (xs : List Item). record { name = Some name; index = o.place; count = 0 } ∷ xs) rest
