-- Taking a run of pages for one object: each page is taken empty, then filled, one after the other.
use Rattle.std.proofs.Common.{◌≡◌, ℕ, ◌+◌, ◌-◌, ◌*◌, ◌<◌, ◌≤◌, List, ◌++◌, length, set, take, drop, replicate, inl, inr, sym, ◌∙◌, ap, subst, arith}
use Rattle.std.proofs.lemmas.Bool.{cases_lt, cases_eq}
use Rattle.std.proofs.lemmas.List.{length-append, length-take-le, length-drop, length-replicate, length-set, get_or-set_same, get_or-set_other, get_or_append_left, get_or-append_right, get_or-take, get_or-drop, get_or-replicate, get_or_default, same_lists}
use Rattle.heap_terms.specs.declared.kinds.PageType.{PageType}
use Rattle.heap_terms.specs.declared.pages.Entry.{Entry}
use Rattle.heap_terms.specs.declared.pages.Entry.TheVariants.{Free, Used}
use Rattle.heap_terms.specs.Heap.{entry_at}
use Rattle.heap_terms.specs.PageRuns.{with_run_of}
use Rattle.heap_terms.specs.Placement.{scratch, taken_run}
use Rattle.heap_terms.specs.Regions.{with_fill}
use Rattle.pass_laws.proofs.FreeRuns.{taken_entries}

-- a run of k pages was taken, and those below a page are full
pub record IsFilling (old pages : List Entry) (ty : PageType) (first k page : ℕ) : Type 0 where
  pub lengths : length pages ≡ length old
  pub before : (q : ℕ) → q < first → entry_at pages q ≡ entry_at old q
  pub behind : (q : ℕ) → first + k ≤ q → entry_at pages q ≡ entry_at old q
  pub full : (q : ℕ) → first ≤ q → q < page → entry_at pages q ≡ Used ty scratch 512 first k
  pub empty : (q : ℕ) → page ≤ q → q < first + k → entry_at pages q ≡ Used ty scratch 0 first k

pub filling-start : (old : List Entry) (ty : PageType) (first k : ℕ) → first + k ≤ length old → IsFilling old (with_run_of old first k ty scratch) ty first k first
filling-start old ty first k inside =
    let e = Used ty scratch 0 first k in
    let front = take first old ++ replicate k e in
    let rest = drop (first + k) old in
    let first_length : length (take first old) ≡ first = length-take-le first old (omega arith) in
    let front_length : length front ≡ first + k = length-append (take first old) (replicate k e) ∙ (let m = length-replicate k e in omega arith) in
    record {
      lengths = length-append front rest ∙ (let m = length-drop (first + k) old in omega arith);
      before = λ q l. get_or_append_left front rest Free q (omega arith) ∙ get_or_append_left (take first old) (replicate k e) Free q (omega arith) ∙ get_or-take first old q Free l;
      behind = λ q l. get_or-append_right front rest (first + k) q Free front_length l ∙ get_or-drop (first + k) old (q - (first + k)) Free
          ∙ ap (λ (p : ℕ). entry_at old p) (let back : (first + k) + (q - (first + k)) ≡ q = omega arith in back);
      full = λ q l m. absurd (omega arith);
      empty = λ q l m. get_or_append_left front rest Free q (omega arith) ∙ get_or-append_right (take first old) (replicate k e) first q Free first_length l
          ∙ get_or-replicate k (q - first) e Free (omega arith);
    }

pub filling-next : (old pages : List Entry) (ty : PageType) (first k page : ℕ) → first + k ≤ length old → first ≤ page → page < first + k →
    IsFilling old pages ty first k page → IsFilling old (set pages page (with_fill (entry_at pages page) 512)) ty first k (page + 1)
filling-next old pages ty first k page inside from below h =
    let here : with_fill (entry_at pages page) 512 ≡ Used ty scratch 512 first k = ap (λ (e : Entry). with_fill e 512) (h.empty page (omega arith) below) in
    let long = h.lengths in
    let e = with_fill (entry_at pages page) 512 in
    record {
      lengths = length-set pages page e ∙ long;
      before = λ q l. get_or-set_other pages page q e Free (omega arith) ∙ h.before q l;
      behind = λ q l. get_or-set_other pages page q e Free (omega arith) ∙ h.behind q l;
      full = λ q l m. elim (cases_eq q page) [
        | inl is ↦ rw is (get_or-set_same pages page e Free (omega arith) ∙ here)
        | inr apart ↦ get_or-set_other pages page q e Free apart ∙ h.full q l (omega arith)
      ];
      empty = λ q l m. get_or-set_other pages page q e Free (omega arith) ∙ h.empty q (omega arith) m;
    }

pub filling-end : (old pages : List Entry) (ty : PageType) (first k size : ℕ) → 1 ≤ k → first + k ≤ length old →
    IsFilling old pages ty first k (first + k - 1) →
    set pages (first + k - 1) (with_fill (entry_at pages (first + k - 1)) (size - 512 * (k - 1))) ≡ taken_run old ty first k size
filling-end old pages ty first k size least inside h =
    let run = taken_entries old ty first k size least inside in
    let last = first + k - 1 in
    let e = with_fill (entry_at pages last) (size - 512 * (k - 1)) in
    let long = h.lengths in
    let run_long = run.lengths in
    let here : e ≡ Used ty scratch (size - 512 * (k - 1)) first k = ap (λ (x : Entry). with_fill x (size - 512 * (k - 1))) (h.empty last (omega arith) (omega arith)) in
    let new = set pages last e in
    let new_long : length new ≡ length pages = length-set pages last e in
    let at : (q : ℕ) → entry_at new q ≡ entry_at (taken_run old ty first k size) q = λ q. elim (cases_eq q last) [
      | inl is ↦ (let at_last : first + (k - 1) ≡ q = omega arith in
          (rw is (get_or-set_same pages last e Free (omega arith) ∙ here)) ∙ sym (subst (λ (x : ℕ). entry_at (taken_run old ty first k size) x ≡ Used ty scratch (size - 512 * (k - 1)) first k) at_last run.last))
      | inr apart ↦ get_or-set_other pages last q e Free apart ∙ (elim (cases_lt q first) [
        | inl l ↦ h.before q l ∙ sym (run.below q l)
        | inr l ↦ elim (cases_lt q (first + k)) [
          | inr m ↦ h.behind q m ∙ sym (run.above q m)
          | inl m ↦ (let back : first + (q - first) ≡ q = omega arith in
              h.full q l (omega arith) ∙ sym (subst (λ (x : ℕ). entry_at (taken_run old ty first k size) x ≡ Used ty scratch 512 first k) back (run.full (q - first) (omega arith))))
        ]
      ])
    ] in
    same_lists new (taken_run old ty first k size) (new_long ∙ long ∙ sym run_long)
    (λ q d l. get_or_default new q d Free l ∙ at q ∙ get_or_default (taken_run old ty first k size) q Free d (omega arith))
