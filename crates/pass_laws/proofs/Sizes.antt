-- Sizes of objects are even and at least 2, a run for one is long enough, and objects that share no word lie apart.
use Rattle.std.proofs.Common.{◌≡◌, ℕ, ◌+◌, ◌-◌, ◌*◌, ◌/◌, ◌%◌, ◌<◌, ◌≤◌, List, true, false, inl, inr, refl, sym, ◌∙◌, arith}
use Rattle.std.proofs.lemmas.Bool.{cases_lt, cases_Bool, leb-true, leb-false}
use Rattle.heap_terms.specs.declared.kinds.Kind.{Kind}
use Rattle.heap_terms.specs.declared.kinds.Kind.TheVariants as kinds
use Rattle.heap_terms.specs.declared.pages.Entry.{Entry}
use Rattle.heap_terms.specs.declared.pages.Entry.TheVariants.{Free, Used}
use Rattle.heap_terms.specs.Heap.{entry_at, fill_of}
use Rattle.heap_terms.specs.Layout.{page_words, size_of}
use Rattle.heap_terms.specs.Objects.{Object, kind_of, payload_of, words_of_object}
use Rattle.heap_terms.specs.Regions.{is_small, pages_needed}
use Rattle.heap_terms.specs.OnPages.{IsPlaced, IsOnPage, IsPageOfRun, AreApart}

pub size_even : (kind : Kind) (n : ℕ) → size_of kind n % 2 ≡ 0
size_even kinds.Cons n = refl
size_even kinds.Vector n = omega arith
size_even kinds.Instance n = omega arith
size_even kinds.Closure n = omega arith
size_even kinds.Words n = omega arith
size_even kinds.Weak n = omega arith
size_even kinds.Table n = omega arith

pub size_least : (kind : Kind) (n : ℕ) → 2 ≤ size_of kind n
size_least kinds.Cons n = omega arith
size_least kinds.Vector n = omega arith
size_least kinds.Instance n = omega arith
size_least kinds.Closure n = omega arith
size_least kinds.Words n = omega arith
size_least kinds.Weak n = omega arith
size_least kinds.Table n = omega arith

pub words_least : (o : Object) → 2 ≤ words_of_object o
words_least o = size_least (kind_of o.contents) (payload_of o.contents)

pub words_even : (o : Object) → words_of_object o % 2 ≡ 0
words_even o = size_even (kind_of o.contents) (payload_of o.contents)

pub small_most : (size : ℕ) → is_small size ≡ true → size ≤ 512
small_most size e = leb-true size page_words e

pub large_least : (size : ℕ) → is_small size ≡ false → 513 ≤ size
large_least size e = (let h = leb-false size page_words e in omega arith)

pub small_needs : (size : ℕ) → is_small size ≡ true → pages_needed size ≡ 1
small_needs size e = rw e refl

pub large_needs : (size : ℕ) → is_small size ≡ false → pages_needed size ≡ (size + 511) / 512
large_needs size e = rw e refl

pub needs_least : (size : ℕ) → 1 ≤ pages_needed size
needs_least size = elim (cases_Bool (is_small size)) [
  | inl small ↦ rw small (omega arith)
  | inr large ↦ (let least = large_least size large in rw large (omega arith))
]

-- a word of the space lies below the fill of its page
abbrev pub IsBelowFill : List Entry → ℕ → Type 0
IsBelowFill pages index = index % 512 < fill_of (entry_at pages (index / 512))

on_page : (o : Object) (e : Entry) → IsOnPage o e → o.place % 512 + words_of_object o ≤ fill_of e
on_page o Free h = absurd h
on_page o (Used ty g fill first pages) h = h.4

run_fill : (o : Object) (i n : ℕ) (e : Entry) → IsPageOfRun o i e → n ≡ pages_needed (words_of_object o) →
    (i + 1 < n → fill_of e ≡ 512) × (i + 1 ≡ n → 512 * i + fill_of e ≡ words_of_object o)
run_fill o i n Free h same = absurd h
run_fill o i n (Used ty g fill first pages) h same =
    let count : pages ≡ n = h.3 ∙ sym same in
    (λ l. h.4 (omega arith), λ e. h.5 (omega arith))

-- the words of an object that is placed lie below the fills of its pages
pub placed_below : (pages : List Entry) (o : Object) → ((page : ℕ) → fill_of (entry_at pages page) ≤ 512) → IsPlaced pages o → (i : ℕ) →
    o.place ≤ i → i < o.place + words_of_object o → IsBelowFill pages i
placed_below pages o most h i from below = elim (cases_Bool (is_small (words_of_object o))) [
  | inl small ↦ (let at = on_page o (entry_at pages (o.place / page_words)) (h.small small) in
      let fits = most (o.place / 512) in
      let same : i / 512 ≡ o.place / 512 = omega arith in
      rw same (omega arith))
  | inr large ↦ (let start = h.large_start large in
      let needs = large_needs (words_of_object o) large in
      let least = large_least (words_of_object o) large in
      let d = i - o.place in
      let j = d / 512 in
      let in_run : j < (words_of_object o + 511) / 512 = omega arith in
      let page = run_fill o j ((words_of_object o + 511) / 512) (entry_at pages (o.place / page_words + j)) (h.large large j (rw needs in_run)) (sym needs) in
      let same : i / 512 ≡ o.place / 512 + j = omega arith in
      rw same (elim (cases_lt (j + 1) ((words_of_object o + 511) / 512)) [
        | inl more ↦ (let full = page.0 more in omega arith)
        | inr last ↦ (let rest = page.1 (omega arith) in omega arith)
      ]))
]

-- two objects without a word that both have lie apart
pub apart_without : (o q : Object) → ((i : ℕ) → o.place ≤ i → i < o.place + words_of_object o → q.place ≤ i → i < q.place + words_of_object q → ⊥) → AreApart o q
apart_without o q none = elim (cases_lt q.place (o.place + words_of_object o)) [
  | inr l ↦ inl l
  | inl l ↦ elim (cases_lt o.place (q.place + words_of_object q)) [
    | inr r ↦ inr r
    | inl r ↦ (let m = words_least o in let n = words_least q in
        elim (cases_lt q.place o.place) [
          | inl before ↦ absurd (none o.place (omega arith) (omega arith) (omega arith) (omega arith))
          | inr behind ↦ absurd (none q.place (omega arith) (omega arith) (omega arith) (omega arith))
        ])
  ]
]

-- an object that is placed lies apart from one whose words lie above the fills
pub apart_above : (pages : List Entry) (o q : Object) → ((page : ℕ) → fill_of (entry_at pages page) ≤ 512) → IsPlaced pages o →
    ((i : ℕ) → q.place ≤ i → i < q.place + words_of_object q → IsBelowFill pages i → ⊥) → AreApart o q
apart_above pages o q most h above =
    apart_without o q (λ i from below from' below'. above i from' below' (placed_below pages o most h i from below))

pub apart_swapped : (o q : Object) → AreApart o q → AreApart q o
apart_swapped o q (inl h) = inr h
apart_swapped o q (inr h) = inl h
