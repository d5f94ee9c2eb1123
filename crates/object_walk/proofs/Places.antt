-- Where the objects of a sound heap lie on pages: below the words that hold pieces, and on no page's edge but a run's own.
use Rattle.std.proofs.Common.{◌≡◌, ◌≢◌, ℕ, ◌+◌, ◌-◌, ◌*◌, ◌/◌, ◌%◌, ◌<◌, ◌≤◌, ◌==◌, inl, inr, List, true, false, refl, sym, ◌∙◌, arith}
use Rattle.std.proofs.lemmas.Bool.{cases_lt, cases_Bool, leb-true, leb-false, eq-eqb, ne_eqb}
use Rattle.heap_terms.specs.declared.kinds.Kind.{Kind}
use Rattle.heap_terms.specs.declared.kinds.Kind.TheVariants as kinds
use Rattle.heap_terms.specs.declared.pages.Entry.{Entry}
use Rattle.heap_terms.specs.declared.pages.Entry.TheVariants.{Free, Used}
use Rattle.heap_terms.specs.Heap.{entry_at, fill_of}
use Rattle.heap_terms.specs.LaidOut.{laid_words}
use Rattle.heap_terms.specs.Layout.{page_words, size_of}
use Rattle.heap_terms.specs.Objects.{Object, kind_of, payload_of, words_of_object}
use Rattle.heap_terms.specs.OnPages.{IsOnPage, IsPageOfRun, IsPlaced, IsEntry}
use Rattle.heap_terms.specs.Regions.{is_small, pages_needed}
use Rattle.object_walk.proofs.Pieces.{size_least}

pub words_least : (o : Object) → 2 ≤ words_of_object o
words_least o = size_least (kind_of o.contents) (payload_of o.contents)

size_even : (kind : Kind) (n : ℕ) → size_of kind n % 2 ≡ 0
size_even kinds.Cons n = refl
size_even kinds.Vector n = omega arith
size_even kinds.Instance n = omega arith
size_even kinds.Closure n = omega arith
size_even kinds.Words n = omega arith
size_even kinds.Weak n = omega arith
size_even kinds.Table n = omega arith

pub words_even : (o : Object) → words_of_object o % 2 ≡ 0
words_even o = size_even (kind_of o.contents) (payload_of o.contents)

small_most : (size : ℕ) → is_small size ≡ true → size ≤ 512
small_most size e = leb-true size page_words e

large_least : (size : ℕ) → is_small size ≡ false → 513 ≤ size
large_least size e = (let h = leb-false size page_words e in omega arith)

large_needs : (size : ℕ) → is_small size ≡ false → pages_needed size ≡ (size + 511) / 512
large_needs size e = rw e refl

-- the words of a page that hold pieces are below its fill, and an even number
pub laid_fill : (page : ℕ) (e : Entry) → laid_words page e ≤ fill_of e
laid_fill page Free = omega arith
laid_fill page (Used ty g fill first k) = elim (cases_Bool (first == page)) [
  | inl here ↦ rw here (omega arith)
  | inr other ↦ rw other (omega arith)
]

pub laid_most : (page : ℕ) (e : Entry) → IsEntry e → laid_words page e ≤ 512
laid_most page Free h = omega arith
laid_most page (Used ty g fill first k) h = omega (arith, laid_fill page (Used ty g fill first k), h.1.most)

pub laid_even : (page : ℕ) (e : Entry) → IsEntry e → laid_words page e % 2 ≡ 0
laid_even page Free h = refl
laid_even page (Used ty g fill first k) h = elim (cases_Bool (first == page)) [
  | inl here ↦ rw here (h.1.even)
  | inr other ↦ rw other refl
]

-- an object that begins on a page begins below its words that hold pieces
small_laid : (o : Object) (e : Entry) → IsOnPage o e → o.place % 512 + words_of_object o ≤ laid_words (o.place / 512) e
small_laid o Free h = absurd h
small_laid o (Used ty g fill first k) h =
    let here : (first == (o.place / 512)) ≡ true = eq-eqb first (o.place / 512) h.2 in
    rw here (omega (arith, h.4))

large_laid : (o : Object) (i : ℕ) (e : Entry) → IsPageOfRun o i e → i ≡ 0 → 2 ≤ pages_needed (words_of_object o) → laid_words (o.place / 512) e ≡ 512
large_laid o i Free h zero_is long = absurd h
large_laid o i (Used ty g fill first k) h zero_is long =
    let here : (first == (o.place / 512)) ≡ true = eq-eqb first (o.place / 512) h.2 in
    rw here (h.4 (omega (arith, h.3)))

pub begins_below : (pages : List Entry) (o : Object) → IsPlaced pages o → o.place % 512 < laid_words (o.place / 512) (entry_at pages (o.place / 512))
begins_below pages o h = elim (cases_Bool (is_small (words_of_object o))) [
  | inl small ↦ omega (arith, small_laid o (entry_at pages (o.place / 512)) (h.small small), words_least o)
  | inr large ↦ (
      let least = large_least (words_of_object o) large in
      let needs = large_needs (words_of_object o) large in
      let at : o.place / 512 + 0 ≡ o.place / 512 = omega arith in
      let first : IsPageOfRun o 0 (entry_at pages (o.place / 512)) = rw at at (h.large large 0 (omega arith)) in
      omega (arith, large_laid o 0 (entry_at pages (o.place / 512)) first refl (omega arith), h.large_start large))
]

-- a later page of a run holds no pieces
later_laid : (o : Object) (i page : ℕ) (e : Entry) → IsPageOfRun o i e → o.place / 512 ≢ page → laid_words page e ≡ 0
later_laid o i page Free h other = absurd h
later_laid o i page (Used ty g fill first k) h other =
    let not_here : (first == page) ≡ false = ne_eqb first page (λ e. other (sym h.2 ∙ e)) in
    rw not_here refl

small_end : (o : Object) (e : Entry) → IsEntry e → IsOnPage o e → o.place % 512 + words_of_object o ≤ 512
small_end o Free h on = absurd on
small_end o (Used ty g fill first k) h on = omega (arith, h.1.most, on.4)

-- where a page holds pieces, each object that begins before it ends before it
pub ends_before : (pages : List Entry) (page : ℕ) (o : Object) → ((page : ℕ) → IsEntry (entry_at pages page)) → IsPlaced pages o →
    0 < laid_words page (entry_at pages page) → o.place < 512 * page → o.place + words_of_object o ≤ 512 * page
ends_before pages page o entries h laid before = elim (cases_Bool (is_small (words_of_object o))) [
  | inl small ↦ omega (arith, small_end o (entry_at pages (o.place / 512)) (entries (o.place / 512)) (h.small small))
  | inr large ↦ elim (cases_lt (512 * page) (o.place + words_of_object o)) [
    | inr done ↦ done
    | inl past ↦ (
        let needs = large_needs (words_of_object o) large in
        let start = h.large_start large in
        let i = page - o.place / 512 in
        let at : o.place / 512 + i ≡ page = omega arith in
        let in_run : i < pages_needed (words_of_object o) = omega arith in
        let here : IsPageOfRun o i (entry_at pages page) = rw at at (h.large large i in_run) in
        absurd (omega (arith, later_laid o i page (entry_at pages page) here (λ e. omega arith))))
  ]
]
