-- Where a new object lies, and what that makes of the pages: a small one on its page, a large one in its run.
use Rattle.std.proofs.Common.{◌≡◌, ℕ, ◌+◌, ◌-◌, ◌*◌, ◌/◌, ◌%◌, ◌<◌, ◌≤◌, List, length, subst, ap, ◌∙◌, sym, refl, arith, true, false, set, length-set, ◌⊎◌, inl, inr}
use Rattle.std.proofs.lemmas.Bool.{cases_lt, cases_Bool, false≢true}
use Rattle.heap_terms.specs.declared.kinds.Kind.{Kind}
use Rattle.heap_terms.specs.declared.kinds.PageType.{PageType}
use Rattle.heap_terms.specs.declared.pages.Entry.{Entry}
use Rattle.heap_terms.specs.declared.pages.Entry.TheVariants.{Free, Used}
use Rattle.heap_terms.specs.declared.programs.Program.{Program}
use Rattle.heap_terms.specs.Heap.{NamedHeap, entry_at, fill_of}
use Rattle.heap_terms.specs.Layout.{page_words, page_type_of, size_of}
use Rattle.heap_terms.specs.Objects.{Object, words_of_object}
use Rattle.heap_terms.specs.OnPages.{BelongsTo}
use Rattle.heap_terms.specs.Regions.{has_room, is_free, is_small, pages_after, pages_needed, place_for, with_fill, with_large}
use Rattle.heap_terms.specs.WellFormed.{IsWellFormed}
use Rattle.heap_laws.proofs.Allocating.{HasPage, has_page, HasRun, large_run, IsFilledRun, filled_run, needs_just, pages_large, pages_small, place_small, size_least, small_needs}
use Rattle.heap_laws.proofs.AtPlaces.{set_cases}
use Rattle.lisp_heap.specs.Commits.{CanFill, pages_filled}
use Rattle.lisp_heap.proofs.Nexts.{open_page_below}

-- what is known of the pages where thread t's object of a kind and a size goes, which begins at an index
pub record Fills (a : NamedHeap) (t : ℕ) (kind : Kind) (size index : ℕ) : Type 0 where
  pub lengths : length (pages_after a t kind size) ≡ length a.pages
  pub can : CanFill a.pages index size
  pub pages_are : pages_filled a.pages index size ≡ pages_after a t kind size
  pub filled : (o : Object) → o.place ≡ index → words_of_object o ≡ size → (page i : ℕ) → i < fill_of (entry_at (pages_after a t kind size) page) →
      (i < fill_of (entry_at a.pages page)) ⊎ BelongsTo (page_words * page + i) o

filled_small : (pages : List Entry) (index size : ℕ) → is_small size ≡ true →
    pages_filled pages index size ≡ set pages (index / 512) (with_fill (entry_at pages (index / 512)) (index % 512 + size))
filled_small pages index size small = rw small refl

filled_large : (pages : List Entry) (index size : ℕ) → is_small size ≡ false → pages_filled pages index size ≡ with_large pages (index / 512) size
filled_large pages index size large = rw large refl

module _ (p : Program) (a : NamedHeap) (t : ℕ) (kind : Kind) (n : ℕ) (wf : IsWellFormed p a) (room : has_room a t kind (size_of kind n) ≡ true)
    (most : size_of kind n ≤ 65536) where
  abbrev size : ℕ
  size = size_of kind n

  abbrev ty : PageType
  ty = page_type_of kind

  least : 2 ≤ size
  least = size_least kind n

  -- ---- a small object

  module _ (small : is_small size ≡ true) where
    on_page : HasPage a t ty size
    on_page = has_page p a t kind size wf small room

    abbrev small_entry : Entry
    small_entry = Used ty 0 (on_page.fill + size) on_page.page 1

    small_index : place_for a t kind size ≡ page_words * on_page.page + on_page.fill
    small_index = place_small a t kind size small on_page

    small_pages : pages_after a t kind size ≡ set a.pages on_page.page small_entry
    small_pages = pages_small a t kind size small on_page

    small_below : on_page.page < length a.pages
    small_below = open_page_below p a t ty wf on_page.page on_page.open_is

    index_page : place_for a t kind size / 512 ≡ on_page.page
    index_page = omega (arith, small_index, on_page.room, least)

    index_fill : place_for a t kind size % 512 ≡ on_page.fill
    index_fill = omega (arith, small_index, on_page.room, least)

    entry_is : entry_at a.pages (place_for a t kind size / 512) ≡ Used ty 0 on_page.fill on_page.page 1
    entry_is = ap (λ (x : ℕ). entry_at a.pages x) index_page ∙ on_page.entry

    small_filled : (o : Object) → o.place ≡ place_for a t kind size → words_of_object o ≡ size → (page i : ℕ) →
        i < fill_of (entry_at (pages_after a t kind size) page) → (i < fill_of (entry_at a.pages page)) ⊎ BelongsTo (page_words * page + i) o
    small_filled o place words page i l = elim (set_cases a.pages on_page.page page small_entry Free) [
      | inl same ↦ inl (rw (small_pages, same) at l)
      | inr here ↦ elim (cases_lt i on_page.fill) [
        | inl old ↦ inl (subst (λ (x : ℕ). i < fill_of (entry_at a.pages x)) (sym here.0) (subst (λ (e : Entry). i < fill_of e) (sym on_page.entry) old))
        | inr new ↦ (
            let below : i < on_page.fill + size = rw (small_pages, here.2) at l in
            inr (record { from = omega (arith, here.0, place, small_index); below = omega (arith, here.0, place, small_index, words) }))
      ]
    ]

    small_fills : Fills a t kind size (place_for a t kind size)
    small_fills = record {
      lengths = ap length small_pages ∙ length-set a.pages on_page.page small_entry;
      can = record {
        inside = omega (arith, index_page, small_below, small_needs size small);
        used = ap is_free entry_is;
        small = λ _. omega (arith, index_fill, on_page.room);
        most = omega (arith, most);
      };
      pages_are = filled_small a.pages (place_for a t kind size) size small
          ∙ ap (λ (e : Entry). set a.pages (place_for a t kind size / 512) (with_fill e (place_for a t kind size % 512 + size))) entry_is
          ∙ ap (λ (x : ℕ). set a.pages (place_for a t kind size / 512) (Used ty 0 (x + size) on_page.page 1)) index_fill
          ∙ ap (λ (x : ℕ). set a.pages x small_entry) index_page
          ∙ sym small_pages;
      filled = small_filled;
    }

  -- ---- a large object

  module _ (large : is_small size ≡ false) where
    in_run : HasRun a t ty (pages_needed size)
    in_run = large_run p a t kind size wf large room

    abbrev k : ℕ
    k = pages_needed size

    abbrev first : ℕ
    first = in_run.first

    large_index : place_for a t kind size ≡ page_words * first
    large_index = rw (large, in_run.open_is) refl

    large_pages : pages_after a t kind size ≡ with_large a.pages first size
    large_pages = pages_large a t kind size first large in_run.open_is

    first_entry : entry_at a.pages first ≡ Used ty 0 0 first k
    first_entry = ap (λ (x : ℕ). entry_at a.pages x) (omega arith) ∙ in_run.each 0 (omega (arith, in_run.long))

    run : IsFilledRun a.pages (with_large a.pages first size) ty first k size
    run = filled_run a.pages ty first size in_run.inside (omega (arith, in_run.long)) first_entry

    run_index : place_for a t kind size / 512 ≡ first
    run_index = omega (arith, large_index)

    large_filled : (o : Object) → o.place ≡ place_for a t kind size → words_of_object o ≡ size → (page i : ℕ) →
        i < fill_of (entry_at (pages_after a t kind size) page) → (i < fill_of (entry_at a.pages page)) ⊎ BelongsTo (page_words * page + i) o
    large_filled o place words page i l =
        let now : i < fill_of (entry_at (with_large a.pages first size) page) = subst (λ (ps : List Entry). i < fill_of (entry_at ps page)) large_pages l in
        let just = needs_just size large in
        elim (cases_lt page first) [
          | inl before ↦ inl (subst (λ (e : Entry). i < fill_of e) (run.below page before) now)
          | inr from ↦ elim (cases_lt page (first + k)) [
            | inr past ↦ inl (subst (λ (e : Entry). i < fill_of e) (run.above page past) now)
            | inl within ↦ (
                let at : first + (page - first) ≡ page = omega (arith, from) in
                elim (cases_lt (page - first + 1) k) [
                  | inl middle ↦ (
                      let full : entry_at (with_large a.pages first size) page ≡ Used ty 0 page_words first k =
                      ap (λ (x : ℕ). entry_at (with_large a.pages first size) x) (sym at) ∙ run.full (page - first) middle in
                      let low : i < page_words = subst (λ (e : Entry). i < fill_of e) full now in
                      inr (record { from = omega (arith, place, large_index, from); below = omega (arith, place, large_index, words, low, middle, just.2, at) }))
                  | inr end ↦ (
                      let here : page ≡ first + (k - 1) = omega (arith, within, end, from) in
                      let last : entry_at (with_large a.pages first size) page ≡ Used ty 0 (size - page_words * (k - 1)) first k =
                      ap (λ (x : ℕ). entry_at (with_large a.pages first size) x) here ∙ run.last in
                      let low : i < size - page_words * (k - 1) = subst (λ (e : Entry). i < fill_of e) last now in
                      inr (record { from = omega (arith, place, large_index, from); below = omega (arith, place, large_index, words, low, here, just.2) }))
                ])
          ]
        ]

    large_fills : Fills a t kind size (place_for a t kind size)
    large_fills = record {
      lengths = ap length large_pages ∙ run.lengths;
      can = record {
        inside = subst (λ (x : ℕ). x + k ≤ length a.pages) (sym run_index) in_run.inside;
        used = ap is_free (ap (λ (x : ℕ). entry_at a.pages x) run_index ∙ first_entry);
        small = λ small. absurd (false≢true (sym large ∙ small));
        most = omega (arith, most);
      };
      pages_are = filled_large a.pages (place_for a t kind size) size large
          ∙ ap (λ (x : ℕ). with_large a.pages x size) run_index ∙ sym large_pages;
      filled = large_filled;
    }

  pub fills : Fills a t kind size (place_for a t kind size)
  fills = elim (cases_Bool (is_small size)) [
    | inl small ↦ small_fills small
    | inr large ↦ large_fills large
  ]
