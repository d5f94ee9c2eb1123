-- The numbers in what a page is shown as.
use Rattle.std.proofs.Common.{◌≡◌, ℕ, ◌+◌, ◌-◌, ◌*◌, ◌<◌, ◌≤◌, zero, suc, List, [], ◌∷◌, ◌++◌, length, Option, Some, None, Bool, true, inl, inr, refl, arith}
use Rattle.std.specs.Prelude.{◌||◌, ◌==◌, not}
use Rattle.std.specs.List.{AllByRecursion, find, flat_map, range_with_len, prefix_len}
use Rattle.std.proofs.lemmas.Bool.{cases_Bool, and_parts}
use Rattle.std.proofs.lemmas.List.Folds.{length-prefix_len}
use Rattle.std.proofs.lemmas.List.FromFn.{length-range_with_len}
use Rattle.std.proofs.lemmas.List.Sums.{prefix_len-le-length}
use Rattle.heap_terms.specs.declared.answers.Item.{Item}
use Rattle.heap_terms.specs.declared.kinds.PageType.{PageType}
use Rattle.heap_terms.specs.declared.limits.TheConstants.{MOST_COMMANDS, MOST_PAGES, MOST_WORDS}
use Rattle.heap_terms.specs.declared.pages.Entry.{Entry}
use Rattle.heap_terms.specs.declared.pages.Entry.TheVariants.{Free, Used}
use Rattle.heap_terms.specs.declared.programs.Program.{Program}
use Rattle.heap_terms.specs.Heap.{NamedHeap, object_at, entry_at}
use Rattle.heap_terms.specs.OnPages.{IsEntry, IsInRun}
use Rattle.heap_terms.specs.PageViews.{begins_at, begun_at, is_gap, gap_from, gap_begins, item_from, run_view, entry_view, page_view}
use Rattle.heap_terms.specs.WellFormed.{IsWellFormed, IsCollected}
use Rattle.heap_laws.specs.Plain.{IsPlainItem, IsPlainView}

-- what is found among the numbers below n is below n
found_below : (p : ℕ → Bool) (from n x : ℕ) → find p (range_with_len from n) ≡ Some x → x < from + n
found_below p from zero x e = cc
found_below p from (suc n) x e = elim (cases_Bool (p from)) [
  | inl here ↦ (let is : Some from ≡ Some x = rw here at e in let same : from ≡ x = cc in omega arith)
  | inr other ↦ (let rest : find p (range_with_len (from + 1) n) ≡ Some x = rw other at e in let below = found_below p (from + 1) n x rest in omega arith)
]

joined : (xs ys : List Item) → AllByRecursion IsPlainItem xs → AllByRecursion IsPlainItem ys → AllByRecursion IsPlainItem (xs ++ ys)
joined [] ys h k = k
joined (x ∷ xs) ys h k = (h.0, joined xs ys h.1 k)

-- a gap has a word, and no more than there are up to the end
gap_long : (a : NamedHeap) (index end : ℕ) → is_gap a index ≡ true → index < end → (1 ≤ length (gap_from a index end)) × (length (gap_from a index end) ≤ end - index)
gap_long a index end gap below =
    let xs = range_with_len index (end - index) in
    let long = length-prefix_len (is_gap a) xs in
    let most = prefix_len-le-length (is_gap a) xs in
    let all = length-range_with_len index (end - index) in
    let some : 1 ≤ prefix_len (is_gap a) xs = first (end - index) (omega arith) in
    (omega arith, omega arith)
  where
    first : (n : ℕ) → 1 ≤ n → 1 ≤ prefix_len (is_gap a) (range_with_len index n)
    first zero h = absurd (omega arith)
    first (suc n) h = rw gap (omega arith)

module _ (a : NamedHeap) (few : length a.objects ≤ MOST_COMMANDS) (start end : ℕ) (most : end ≤ MOST_WORDS) where
  item_plain : (index : ℕ) → index < end → AllByRecursion IsPlainItem (item_from a start end index (begun_at a index))
  item_plain index below = by_name (begun_at a index) refl
    where
      by_name : (o : Option ℕ) → begun_at a index ≡ o → AllByRecursion IsPlainItem (item_from a start end index o)
      by_name (Some name) e =
          let inside = found_below (λ x. begins_at index (object_at a.objects x)) 0 (length a.objects) name e in
          (((omega arith, refl), omega arith), tt)
      by_name None e = elim (cases_Bool (gap_begins a start index)) [
        | inr none ↦ rw none tt
        | inl begins ↦ (
            let gap = (and_parts (is_gap a index) (index == start || not (is_gap a (index - 1))) begins).0 in
            let long = gap_long a index end gap below in
            rw begins (((long.0, omega (arith, long.1)), omega arith), tt))
      ]

  items_plain : (n from : ℕ) → from + n ≤ end → AllByRecursion IsPlainItem (flat_map (λ index. item_from a start end index (begun_at a index)) (range_with_len from n))
  items_plain zero from inside = tt
  items_plain (suc n) from inside =
      joined (item_from a start end from (begun_at a from)) _ (item_plain from (omega arith)) (items_plain n (from + 1) (omega arith))

pub view_plain : (p : Program) (a : NamedHeap) (page : ℕ) → IsWellFormed p a → length a.objects ≤ MOST_COMMANDS → p.pages ≤ MOST_PAGES → page < length a.pages → IsPlainView (page_view a page)
view_plain p a page w few pages inside = by_entry (entry_at a.pages page) (w.sound.entries page) (w.sound.runs page) (w.pages_collected page)
  where
    by_run : (ty : PageType) (g count index : ℕ) (o : Option ℕ) → begun_at a index ≡ o → g ≤ 5 → count ≤ MOST_PAGES → index < MOST_WORDS → IsPlainView (run_view ty g count index o)
    by_run ty g count index (Some name) e young few_pages low =
        let below = found_below (λ x. begins_at index (object_at a.objects x)) 0 (length a.objects) name e in
        (young, few_pages, omega arith, low)
    by_run ty g count index None e young few_pages low = (young, omega arith, tt)

    by_entry : (e : Entry) → IsEntry e → IsInRun a.pages page e → IsCollected e → IsPlainView (entry_view a page e)
    by_entry Free entry run young = tt
    by_entry (Used ty g fill first count) entry run young =
        let long = w.pages_length in
        let fill_most = entry.1.most in
        let run_inside = run.2 in
        elim (cases_Bool (count == 1)) [
          | inl one ↦ rw one (young, fill_most, items_plain a few (512 * page) (512 * page + fill) (omega arith) fill (512 * page) (omega arith))
          | inr more ↦ rw more (by_run ty g count (512 * first) (begun_at a (512 * first)) refl young (omega arith) (let in_run = run.1 in let low = run.0 in omega arith))
        ]
