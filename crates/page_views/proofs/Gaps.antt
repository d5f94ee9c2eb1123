-- Which words of a heap belong to an object, and at which one begins, as the view of a page asks for it.
use Rattle.std.proofs.Common.{◌≡◌, ◌≢◌, ℕ, ◌+◌, ◌<◌, ◌≤◌, zero, suc, List, [], ◌∷◌, length, Option, Some, None, Bool, true, false, inl, inr, refl, sym, ◌∙◌, ap, subst, arith}
use Rattle.std.specs.Prelude.{◌&&◌, nat_le, nat_lt}
use Rattle.std.specs.Option.{is_none}
use Rattle.std.specs.List.{find, range_with_len}
use Rattle.std.proofs.lemmas.Bool.{cases_Bool, cases_eq, cases_lt, eq-eqb, eqb-true, false≢true, true≢false, leb-true, ltb-true, le-leb, lt-ltb, and_parts}
use Rattle.std.proofs.lemmas.List.{get_or_past}
use Rattle.std.proofs.lemmas.Option.{none-some}
use Rattle.heap_terms.specs.Generations.{names}
use Rattle.heap_terms.specs.Heap.{NamedHeap, object_at}
use Rattle.heap_terms.specs.Objects.{Object, words_of_object}
use Rattle.heap_terms.specs.OnPages.{IsOwned, BelongsTo}
use Rattle.heap_terms.specs.PageViews.{begins_at, has_word, begun_at, is_gap}
use Rattle.heap_terms.specs.Sound.{IsSound}
use Rattle.object_walk.proofs.Places.{words_least}

-- what is found among the numbers from one on: the first that passes, or none where none does
pub find_none : (p : ℕ → Bool) (from n : ℕ) → ((i : ℕ) → from ≤ i → i < from + n → p i ≡ false) → find p (range_with_len from n) ≡ None
find_none p from zero h = refl
find_none p from (suc n) h =
    let here : p from ≡ false = h from (omega arith) (omega arith) in
    rw here (find_none p (from + 1) n (λ i low high. h i (omega arith) (omega arith)))

pub find_one : (p : ℕ → Bool) (from n x : ℕ) → from ≤ x → x < from + n → p x ≡ true → ((i : ℕ) → p i ≡ true → i ≡ x) → find p (range_with_len from n) ≡ Some x
find_one p from zero x low high is only = absurd (omega arith)
find_one p from (suc n) x low high is only = elim (cases_Bool (p from)) [
  | inl here ↦ rw here (ap Some (only from here))
  | inr other ↦ (
      let apart : from ≢ x = λ same. true≢false (sym is ∙ sym (ap p same) ∙ other) in
      rw other (find_one p (from + 1) n x (omega arith) (omega arith) is only))
]

pub find_any : (p : ℕ → Bool) (from n x : ℕ) → from ≤ x → x < from + n → p x ≡ true → is_none (find p (range_with_len from n)) ≡ false
find_any p from zero x low high is = absurd (omega arith)
find_any p from (suc n) x low high is = elim (cases_Bool (p from)) [
  | inl here ↦ rw here refl
  | inr other ↦ (
      let apart : from ≢ x = λ same. true≢false (sym is ∙ sym (ap p same) ∙ other) in
      rw other (find_any p (from + 1) n x (omega arith) (omega arith) is))
]

-- the name of an object that is there is one of the heap's
pub name_inside : (objects : List (Option Object)) (name : ℕ) (o : Object) → object_at objects name ≡ Some o → name < length objects
name_inside objects name o there = elim (cases_lt name (length objects)) [
  | inl inside ↦ inside
  | inr past ↦ absurd (none-some o (sym (get_or_past objects name None past) ∙ there))
]

-- an index belongs to an object just where the test says so
belongs_true : (index : ℕ) (o : Object) → BelongsTo index o → has_word index (Some o) ≡ true
belongs_true index o h =
    let low : nat_le o.place index ≡ true = le-leb o.place index h.from in
    let high : nat_lt index (o.place + words_of_object o) ≡ true = lt-ltb index (o.place + words_of_object o) h.below in
    rw (low, high) refl

belongs_if : (index : ℕ) (q : Option Object) → has_word index q ≡ true → (o : Object) × (q ≡ Some o) × BelongsTo index o
belongs_if index None e = absurd (false≢true e)
belongs_if index (Some o) e =
    let both = and_parts (nat_le o.place index) (nat_lt index (o.place + words_of_object o)) e in
    (o, refl, record { from = leb-true o.place index both.0; below = ltb-true index (o.place + words_of_object o) both.1 })

-- a word that belongs to no object is in a gap, and no other is
pub gap_if : (a : NamedHeap) (index : ℕ) → ¬ IsOwned a.objects index → is_gap a index ≡ true
gap_if a index none = ap is_none (find_none (λ name. has_word index (object_at a.objects name)) 0 (length a.objects) each)
  where
    each : (name : ℕ) → 0 ≤ name → name < 0 + length a.objects → has_word index (object_at a.objects name) ≡ false
    each name low high = elim (cases_Bool (has_word index (object_at a.objects name))) [
      | inl has ↦ (let found = belongs_if index (object_at a.objects name) has in absurd (none (name, found.0, found.1, found.2)))
      | inr not ↦ not
    ]

pub no_gap : (a : NamedHeap) (index : ℕ) → IsOwned a.objects index → is_gap a index ≡ false
no_gap a index (name, o, there, belongs) =
    let inside = name_inside a.objects name o there in
    find_any (λ x. has_word index (object_at a.objects x)) 0 (length a.objects) name (omega arith) (omega arith)
    (ap (has_word index) there ∙ belongs_true index o belongs)

-- an object begins just where the test says so
begins_if : (index : ℕ) (q : Option Object) → begins_at index q ≡ true → (o : Object) × (q ≡ Some o) × (o.place ≡ index)
begins_if index None e = absurd (false≢true e)
begins_if index (Some o) e = (o, refl, eqb-true o.place index e)

pub begun : (a : NamedHeap) → IsSound a → (name : ℕ) (o : Object) → object_at a.objects name ≡ Some o → begun_at a o.place ≡ Some name
begun a sound name o there =
    let inside = name_inside a.objects name o there in
    find_one (λ x. begins_at o.place (object_at a.objects x)) 0 (length a.objects) name (omega arith) (omega arith)
    (ap (begins_at o.place) there ∙ eq-eqb o.place o.place refl) only
  where
    only : (x : ℕ) → begins_at o.place (object_at a.objects x) ≡ true → x ≡ name
    only x e = elim (cases_eq x name) [
      | inl same ↦ same
      | inr other ↦ (
          let found = begins_if o.place (object_at a.objects x) e in
          let least = words_least o in
          let least' = words_least found.0 in
          let here = found.2 in
          elim (sound.apart x name found.0 o other found.1 there) [ inl m ↦ absurd (omega arith) | inr m ↦ absurd (omega arith) ])
    ]

pub begun_none : (a : NamedHeap) (index : ℕ) → ((name : ℕ) (o : Object) → object_at a.objects name ≡ Some o → o.place ≢ index) → begun_at a index ≡ None
begun_none a index none = find_none (λ name. begins_at index (object_at a.objects name)) 0 (length a.objects) each
  where
    each : (name : ℕ) → 0 ≤ name → name < 0 + length a.objects → begins_at index (object_at a.objects name) ≡ false
    each name low high = elim (cases_Bool (begins_at index (object_at a.objects name))) [
      | inl is ↦ (let found = begins_if index (object_at a.objects name) is in absurd (none name found.0 found.1 found.2))
      | inr not ↦ not
    ]
