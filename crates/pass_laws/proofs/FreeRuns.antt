-- What the lowest run of free pages is, and the entries after a run was taken.
use Rattle.std.proofs.Common.{◌≡◌, ℕ, zero, suc, ◌+◌, ◌-◌, ◌*◌, ◌<◌, ◌≤◌, List, [], ◌∷◌, ◌++◌, length, get_or, take, drop, replicate, Some, None, Bool, true, false, inl, inr, refl, sym, ◌∙◌, subst, ap, arith}
use Rattle.std.proofs.lemmas.Bool.{cases_eq, cases_Bool, and_parts, and_from, leb-true, le-leb, false≢true}
use Rattle.std.proofs.lemmas.List.{length-append, length-take, length-take-le, length-drop, length-replicate, get_or_append_left, get_or-append_right, get_or-take, get_or-drop, get_or-replicate, get_or_default}
use Rattle.std.proofs.lemmas.List.Sums.{AllPass-from_list_all, list_all-from_AllPass}
use Rattle.std.proofs.lemmas.Option.{same_Some}
use Rattle.std.specs.List.{list_all, range_with_len}
use Rattle.std.specs.Prelude.{find, if◌then◌else◌, nat_le}
use Rattle.heap_terms.specs.declared.kinds.PageType.{PageType}
use Rattle.heap_terms.specs.declared.pages.Entry.{Entry}
use Rattle.heap_terms.specs.declared.pages.Entry.TheVariants.{Free, Used}
use Rattle.heap_terms.specs.Heap.{entry_at}
use Rattle.heap_terms.specs.Placement.{scratch, is_free_run, lowest_run, taken_run}
use Rattle.heap_terms.specs.Regions.{is_free, IsFreeRun, IsLowestRun, HasNoRun}

pub find_passes : {X : Type 0} (p : X → Bool) (xs : List X) (x : X) → find p xs ≡ Some x → p x ≡ true
find_passes p [] x e = cc
find_passes p (y ∷ ys) x e = elim (cases_Bool (p y)) [
  | inl here ↦ (let same : y ≡ x = same_Some y x (rw here at e) in subst (λ z. p z ≡ true) same here)
  | inr gone ↦ find_passes p ys x (rw gone at e)
]

pub free_entry : (e : Entry) → is_free e ≡ true → e ≡ Free
free_entry Free e = refl
free_entry (Used ty g fill first pages) e = absurd (false≢true e)

-- pages that are there and free
pub record AreFree (pages : List Entry) (first k : ℕ) : Type 0 where
  pub inside : first + k ≤ length pages
  pub free : (i : ℕ) → i < k → entry_at pages (first + i) ≡ Free

pub free_run : (pages : List Entry) (k first : ℕ) → is_free_run pages k first ≡ true → AreFree pages first k
free_run pages k first e =
    let both = and_parts (nat_le (first + k) (length pages)) (list_all is_free (take k (drop first pages))) e in
    let inside = leb-true (first + k) (length pages) both.0 in
    let all = AllPass-from_list_all is_free (take k (drop first pages)) both.1 in
    record {
      inside = inside;
      free = λ i l. free_entry (entry_at pages (first + i)) (
          let at : is_free (get_or (take k (drop first pages)) i Free) ≡ true = all i Free (simp (length-take, length-drop) (omega arith)) in
          let same : get_or (take k (drop first pages)) i Free ≡ entry_at pages (first + i) = get_or-take k (drop first pages) i Free l ∙ get_or-drop first pages i Free in
          subst (λ (x : Entry). is_free x ≡ true) same at);
    }

pub lowest_free : (pages : List Entry) (k first : ℕ) → lowest_run pages k ≡ Some first → AreFree pages first k
lowest_free pages k first e = free_run pages k first (find_passes (is_free_run pages k) (range_with_len 0 (length pages)) first e)

-- the words on page i of a run of k that an object of a size fills
abbrev pub run_fill_at : ℕ → ℕ → ℕ → ℕ
run_fill_at size k i = if nat_le (i + 2) k then 512 else size - 512 * (k - 1)

-- a run's pages after it was taken, and the others
pub record IsTakenRun (pages new : List Entry) (ty : PageType) (first k size : ℕ) : Type 0 where
  pub lengths : length new ≡ length pages
  pub below : (p : ℕ) → p < first → entry_at new p ≡ entry_at pages p
  pub above : (p : ℕ) → first + k ≤ p → entry_at new p ≡ entry_at pages p
  pub full : (i : ℕ) → i + 1 < k → entry_at new (first + i) ≡ Used ty scratch 512 first k
  pub last : entry_at new (first + (k - 1)) ≡ Used ty scratch (size - 512 * (k - 1)) first k

pub taken_entries : (pages : List Entry) (ty : PageType) (first k size : ℕ) → 1 ≤ k → first + k ≤ length pages →
    IsTakenRun pages (taken_run pages ty first k size) ty first k size
taken_entries pages ty first k size least inside =
    let e = Used ty scratch 512 first k in
    let z = Used ty scratch (size - 512 * (k - 1)) first k in
    let front = take first pages ++ replicate (k - 1) e in
    let rest = drop (first + k) pages in
    let first_length : length (take first pages) ≡ first = length-take-le first pages (omega arith) in
    let front_length : length front ≡ first + (k - 1) = length-append (take first pages) (replicate (k - 1) e) ∙ (let m = length-replicate (k - 1) e in omega arith) in
    record {
      lengths = length-append front (z ∷ rest) ∙ (let m = length-drop (first + k) pages in omega arith);
      below = λ p l. get_or_append_left front (z ∷ rest) Free p (omega arith)
          ∙ get_or_append_left (take first pages) (replicate (k - 1) e) Free p (omega arith) ∙ get_or-take first pages p Free l;
      above = λ p l. get_or-append_right front (z ∷ rest) (first + (k - 1)) p Free front_length (omega arith)
          ∙ (let at : p - (first + (k - 1)) ≡ suc (p - (first + k)) = omega arith in rw at (get_or-drop (first + k) pages (p - (first + k)) Free))
          ∙ ap (λ (q : ℕ). entry_at pages q) (let back : (first + k) + (p - (first + k)) ≡ p = omega arith in back);
      full = λ i l. get_or_append_left front (z ∷ rest) Free (first + i) (omega arith)
          ∙ get_or-append_right (take first pages) (replicate (k - 1) e) first (first + i) Free first_length (omega arith)
          ∙ get_or-replicate (k - 1) ((first + i) - first) e Free (omega arith);
      last = get_or-append_right front (z ∷ rest) (first + (k - 1)) (first + (k - 1)) Free front_length (omega arith)
          ∙ (let at : (first + (k - 1)) - (first + (k - 1)) ≡ 0 = omega arith in rw at refl);
    }

-- what is found first in a range, and what none found says
find_first : (p : ℕ → Bool) (from n x : ℕ) → find p (range_with_len from n) ≡ Some x → (y : ℕ) → from ≤ y → y < x → p y ≡ false
find_first p from zero x e y low high = cc
find_first p from (suc n) x e y low high = elim (cases_Bool (p from)) [
  | inl here ↦ (let same : from ≡ x = same_Some from x (rw here at e) in absurd (omega arith))
  | inr gone ↦ elim (cases_eq from y) [
    | inl same ↦ subst (λ (z : ℕ). p z ≡ false) same gone
    | inr apart ↦ find_first p (from + 1) n x (rw gone at e) y (omega arith) high
  ]
]

find_none : (p : ℕ → Bool) (from n : ℕ) → find p (range_with_len from n) ≡ None → (y : ℕ) → from ≤ y → y < from + n → p y ≡ false
find_none p from zero e y low high = absurd (omega (arith, low, high))
find_none p from (suc n) e y low high = elim (cases_Bool (p from)) [
  | inl here ↦ (let never : Some from ≡ None = rw here at e in cc)
  | inr gone ↦ elim (cases_eq from y) [
    | inl same ↦ subst (λ (z : ℕ). p z ≡ false) same gone
    | inr apart ↦ find_none p (from + 1) n (rw gone at e) y (omega arith) (omega arith)
  ]
]

-- a run of free pages, tested and said
run_from : (pages : List Entry) (first k : ℕ) → is_free_run pages k first ≡ true → IsFreeRun pages first k
run_from pages first k e =
    let run = free_run pages k first e in
    record {
      inside = run.inside;
      free = λ i low high. (let at : first + (i - first) ≡ i = omega arith in
          subst (λ (j : ℕ). is_free (entry_at pages j) ≡ true) at (ap is_free (run.free (i - first) (omega arith))));
    }

from_run : (pages : List Entry) (first k : ℕ) → IsFreeRun pages first k → is_free_run pages k first ≡ true
from_run pages first k h =
    let inside = h.inside in
    and_from (nat_le (first + k) (length pages)) _ (le-leb (first + k) (length pages) inside)
    (list_all-from_AllPass is_free (take k (drop first pages)) (λ i d l.
    (let short : i < k = (let m = length-take k (drop first pages) in omega arith) in
    let inner : i < length (drop first pages) = (let m = length-take k (drop first pages) in omega arith) in
    let same : get_or (take k (drop first pages)) i d ≡ entry_at pages (first + i) =
    get_or-take k (drop first pages) i d short ∙ get_or_default (drop first pages) i d Free inner ∙ get_or-drop first pages i Free in
    rw same (h.free (first + i) (omega arith) (omega arith)))))

-- the lowest run is the lowest, and where there is none there is no run
pub lowest_is : (pages : List Entry) (k first : ℕ) → 1 ≤ k → lowest_run pages k ≡ Some first → IsLowestRun pages first k
lowest_is pages k first least e = record {
  run = run_from pages first k (find_passes (is_free_run pages k) (range_with_len 0 (length pages)) first e);
  lowest = λ lower l run. false≢true (sym (find_first (is_free_run pages k) 0 (length pages) first e lower (omega arith) l) ∙ from_run pages lower k run);
}

pub lowest_none : (pages : List Entry) (k : ℕ) → 1 ≤ k → lowest_run pages k ≡ None → HasNoRun pages k
lowest_none pages k least e first run =
    let inside = run.inside in
    false≢true (sym (find_none (is_free_run pages k) 0 (length pages) e first (omega arith) (omega arith)) ∙ from_run pages first k run)
