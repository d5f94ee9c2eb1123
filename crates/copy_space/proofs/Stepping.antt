-- One step of a placement on a page table: the lowest run that is found is that of the definition, and what the page table
-- has after the step is what the definition says.
use Rattle.std.proofs.Common.{◌≡◌, ℕ, ◌+◌, ◌-◌, ◌*◌, ◌/◌, ◌%◌, ◌<◌, ◌≤◌, List, length, set, Option, Some, None, true, false, inl, inr, refl, sym, ◌∙◌, ap, subst, arith}
use Rattle.std.proofs.lemmas.Bool.{cases_lt, cases_eq, cases_Bool, leb-true, le-leb, cond-false}
use Rattle.std.proofs.lemmas.List.{length-set, get_or-set_same, get_or-set_other, get_or_default, same_lists}
use Rattle.std.specs.Prelude.{option_map, ◌&&◌, nat_le}
use Rattle.heap_terms.specs.declared.kinds.PageType.{PageType}
use Rattle.heap_terms.specs.declared.kinds.PageType.TheVariants as types
use Rattle.heap_terms.specs.declared.pages.Entry.{Entry}
use Rattle.heap_terms.specs.declared.pages.Entry.TheVariants.{Free, Used}
use Rattle.heap_terms.specs.Heap.{entry_at, fill_of}
use Rattle.heap_terms.specs.Layout.{page_words}
use Rattle.heap_terms.specs.Placement.{Placement, scratch, page_in_use, using_page, fits_on, goes_to, lowest_run, taken_run, filled}
use Rattle.heap_terms.specs.Regions.{is_free, is_small, pages_needed, IsLowestRun, HasNoRun, with_fill}
use Rattle.pass_laws.proofs.FreeRuns.{taken_entries, lowest_is, lowest_none}
use Rattle.pass_laws.proofs.Landing.{used_inside}
use Rattle.pass_laws.proofs.Sizes.{small_needs, needs_least}
use Rattle.copy_space.specs.declared.placing.PagesInUse.{PagesInUse}
use Rattle.copy_space.specs.State.{placing_on}
use Rattle.copy_space.specs.Step.{AreTakenPages, IsStep}

-- a lowest run is the one that the definition finds
pub run-is : (pages : List Entry) (k first : ℕ) → 1 ≤ k → IsLowestRun pages first k → lowest_run pages k ≡ Some first
run-is pages k first least h = go (lowest_run pages k) refl
  where
    go : (found : Option ℕ) → lowest_run pages k ≡ found → lowest_run pages k ≡ Some first
    go None e = absurd (lowest_none pages k least e first h.run)
    go (Some other) e =
        let its = lowest_is pages k other least e in
        let same : other ≡ first = elim (cases_lt other first) [
          | inl l ↦ absurd (h.lowest other l its.run)
          | inr l ↦ elim (cases_lt first other) [
            | inl m ↦ absurd (its.lowest first m h.run)
            | inr m ↦ omega arith
          ]
        ] in
        e ∙ ap (λ (x : ℕ). Some x) same

pub run-none : (pages : List Entry) (k : ℕ) → 1 ≤ k → HasNoRun pages k → lowest_run pages k ≡ None
run-none pages k least h = go (lowest_run pages k) refl
  where
    go : (found : Option ℕ) → lowest_run pages k ≡ found → lowest_run pages k ≡ None
    go None e = e
    go (Some other) e = absurd (h other (lowest_is pages k other least e).run)

-- where an object goes that does not fit on the page in use
goes-on-run : (pages : List Entry) (in_use : PagesInUse) (ty : PageType) (size : ℕ) →
    (is_small size && fits_on pages (page_in_use (placing_on pages in_use) ty) size) ≡ false → (run : Option ℕ) → lowest_run pages (pages_needed size) ≡ run →
    goes_to (placing_on pages in_use) ty size ≡ option_map (λ first. page_words * first) run
goes-on-run pages in_use ty size full run e =
    cond-false (is_small size && fits_on pages (page_in_use (placing_on pages in_use) ty) size) _ _ full ∙ ap (option_map (λ first. page_words * first)) e

-- it finds none
pub step-none : (pages : List Entry) (in_use : PagesInUse) (ty : PageType) (size : ℕ) →
    (is_small size && fits_on pages (page_in_use (placing_on pages in_use) ty) size) ≡ false → HasNoRun pages (pages_needed size) →
    IsStep pages in_use ty size None pages in_use
step-none pages in_use ty size full none = record {
  goes = sym (goes-on-run pages in_use ty size full None (run-none pages (pages_needed size) (needs_least size) none));
  filled_is = refl;
}

-- a large object takes a run
pub step-large : (pages : List Entry) (in_use : PagesInUse) (ty : PageType) (size first : ℕ) → 512 < size →
    (is_small size && fits_on pages (page_in_use (placing_on pages in_use) ty) size) ≡ false → IsLowestRun pages first (pages_needed size) →
    IsStep pages in_use ty size (Some (512 * first)) (taken_run pages ty first (pages_needed size) size) in_use
step-large pages in_use ty size first large full run =
    let big : is_small size ≡ false = elim (cases_Bool (is_small size)) [ inr h ↦ h | inl h ↦ (let small = leb-true size page_words h in absurd (omega arith)) ] in
    let at : (512 * first) / 512 ≡ first = omega arith in
    let s = placing_on pages in_use in
    let small_way = using_page (record s { pages = set s.pages ((512 * first) / 512) (Used ty scratch ((512 * first) % 512 + size) ((512 * first) / 512) 1) }) ty ((512 * first) / 512) in
    let large_way : ℕ → Placement = λ page. record s { pages = taken_run s.pages ty page (pages_needed size) size } in
    record {
      goes = sym (goes-on-run pages in_use ty size full (Some first) (run-is pages (pages_needed size) first (needs_least size) run));
      filled_is = sym (cond-false (is_small size) small_way (large_way ((512 * first) / 512)) big ∙ ap large_way at);
    }

-- a run of one page that was taken for a small object
one_page : (pages : List Entry) (ty : PageType) (first size : ℕ) → first + 1 ≤ length pages →
    taken_run pages ty first 1 size ≡ set pages first (Used ty scratch size first 1)
one_page pages ty first size inside =
    let run = taken_entries pages ty first 1 size (omega arith) inside in
    let e = Used ty scratch size first 1 in
    let long = length-set pages first e in
    let run_long = run.lengths in
    let at_first : first + (1 - 1) ≡ first = omega arith in
    let rest : size - 512 * (1 - 1) ≡ size = omega arith in
    let here : entry_at (taken_run pages ty first 1 size) first ≡ e =
    subst (λ (x : ℕ). entry_at (taken_run pages ty first 1 size) x ≡ e) at_first (run.last ∙ ap (λ (n : ℕ). Used ty scratch n first 1) rest) in
    let at : (q : ℕ) → entry_at (taken_run pages ty first 1 size) q ≡ entry_at (set pages first e) q = λ q. elim (cases_eq q first) [
      | inl is ↦ rw is (here ∙ sym (get_or-set_same pages first e Free (omega arith)))
      | inr apart ↦ (elim (cases_lt q first) [
        | inl l ↦ run.below q l
        | inr l ↦ run.above q (omega arith)
      ]) ∙ sym (get_or-set_other pages first q e Free apart)
    ] in
    same_lists (taken_run pages ty first 1 size) (set pages first e) (run_long ∙ sym long)
    (λ q d l. get_or_default (taken_run pages ty first 1 size) q d Free l ∙ at q ∙ get_or_default (set pages first e) q Free d (omega arith))

-- how a small object fills its page
filled-page : (s : Placement) (ty : PageType) (size page fill : ℕ) → size ≤ 512 → fill < 512 →
    filled s ty size (Some (512 * page + fill)) ≡ using_page (record s { pages = set s.pages page (Used ty scratch (fill + size) page 1) }) ty page
filled-page s ty size page fill small less =
    let is : is_small size ≡ true = le-leb size page_words small in
    let at_page : (512 * page + fill) / 512 ≡ page = omega arith in
    let at_fill : (512 * page + fill) % 512 ≡ fill = omega arith in
    rw (is, at_page, at_fill) refl

-- a small object takes a page
pub step-new : (pages : List Entry) (in_use using_now : PagesInUse) (ty : PageType) (size first : ℕ) → size ≤ 512 →
    (is_small size && fits_on pages (page_in_use (placing_on pages in_use) ty) size) ≡ false → IsLowestRun pages first (pages_needed size) →
    ((pages : List Entry) → placing_on pages using_now ≡ using_page (placing_on pages in_use) ty first) →
    IsStep pages in_use ty size (Some (512 * first)) (taken_run pages ty first (pages_needed size) size) using_now
step-new pages in_use using_now ty size first small full run using_it =
    let one : pages_needed size ≡ 1 = small_needs size (le-leb size page_words small) in
    let inside : first + 1 ≤ length pages = (let i = run.run.inside in omega arith) in
    let taken : taken_run pages ty first (pages_needed size) size ≡ set pages first (Used ty scratch size first 1) =
    ap (λ (k : ℕ). taken_run pages ty first k size) one ∙ one_page pages ty first size inside in
    let as_sum : 512 * first ≡ 512 * first + 0 = omega arith in
    record {
      goes = sym (goes-on-run pages in_use ty size full (Some first) (run-is pages (pages_needed size) first (needs_least size) run));
      filled_is = using_it (taken_run pages ty first (pages_needed size) size)
          ∙ ap (λ (ps : List Entry). using_page (placing_on ps in_use) ty first) (taken ∙ ap (λ (n : ℕ). set pages first (Used ty scratch n first 1)) (let z : size ≡ 0 + size = omega arith in z))
          ∙ sym (filled-page (placing_on pages in_use) ty size first 0 small (omega arith))
          ∙ ap (λ (i : ℕ). filled (placing_on pages in_use) ty size (Some i)) (sym as_sum);
    }

using-same : (s : Placement) (ty : PageType) (page : ℕ) → page_in_use s ty ≡ Some page → using_page s ty page ≡ s
using-same s types.Cons page e = ap (λ (x : Option ℕ). record s { cons_page = x }) (sym e)
using-same s types.Boxed page e = ap (λ (x : Option ℕ). record s { boxed_page = x }) (sym e)
using-same s types.Unboxed page e = ap (λ (x : Option ℕ). record s { unboxed_page = x }) (sym e)

page-with : (s : Placement) (ty : PageType) (pages : List Entry) → page_in_use (record s { pages = pages }) ty ≡ page_in_use s ty
page-with s types.Cons pages = refl
page-with s types.Boxed pages = refl
page-with s types.Unboxed pages = refl

-- a small object goes after what is on the page in use
pub step-old : (pages : List Entry) (in_use : PagesInUse) (ty : PageType) (size page : ℕ) → AreTakenPages pages in_use → 2 ≤ size →
    page_in_use (placing_on pages in_use) ty ≡ Some page → fill_of (entry_at pages page) + size ≤ 512 →
    IsStep pages in_use ty size (Some (512 * page + fill_of (entry_at pages page))) (set pages page (with_fill (entry_at pages page) (fill_of (entry_at pages page) + size))) in_use
step-old pages in_use ty size page taken least e room =
    let s = placing_on pages in_use in
    let fill = fill_of (entry_at pages page) in
    let entry = taken ty page e in
    let small : is_small size ≡ true = le-leb size page_words (omega arith) in
    let fits : nat_le (fill + size) page_words ≡ true = le-leb (fill + size) page_words room in
    let is_fill : fill ≡ entry.0 = ap fill_of entry.1 in
    let new : with_fill (entry_at pages page) (fill + size) ≡ Used ty scratch (fill + size) page 1 = ap (λ (x : Entry). with_fill x (fill + size)) entry.1 in
    let pages_new = set pages page (with_fill (entry_at pages page) (fill + size)) in
    record {
      goes = sym (rw (small, e, fits) refl);
      filled_is = sym (filled-page s ty size page fill (omega arith) (omega arith)
          ∙ using-same (record s { pages = set pages page (Used ty scratch (fill + size) page 1) }) ty page (page-with s ty (set pages page (Used ty scratch (fill + size) page 1)) ∙ e)
          ∙ ap (λ (x : Entry). placing_on (set pages page x) in_use) (sym new));
    }

-- what there is to know of a page in use
pub record InUse (pages : List Entry) (page : ℕ) : Type 0 where
  pub inside : page < length pages
  pub used : is_free (entry_at pages page) ≡ false
  pub most : fill_of (entry_at pages page) ≤ 512

pub in_use_page : (pages : List Entry) (in_use : PagesInUse) (ty : PageType) (page : ℕ) → AreTakenPages pages in_use →
    page_in_use (placing_on pages in_use) ty ≡ Some page → InUse pages page
in_use_page pages in_use ty page taken e =
    let entry = taken ty page e in
    record {
      inside = used_inside pages page ty scratch entry.0 page 1 entry.1;
      used = ap is_free entry.1;
      most = rw entry.1 (entry.2.most);
    }
