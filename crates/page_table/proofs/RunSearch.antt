-- Runs of free pages, as a search from page 0 on meets them; and one entry written.
use Rattle.std.proofs.Common.{suc, zero, replicate, take, drop, ◌++◌, ◌∷◌, [], ◌≡◌, ℕ, ◌+◌, ◌<◌, ◌≤◌, Bool, true, false, List, length, map, refl, sym, ◌∙◌, ap, arith, ⊎_elim, set, get_or}
use borrow.Rule.Slice.PartMut.{put_mid}
use Rattle.std.proofs.lemmas.List.{get_or-map, map-set, length-map, map-append, take-map, drop-map, drop-set, take-set-le, length-replicate}
use Rattle.std.proofs.lemmas.Slice.{put_mid-paste}
use Rattle.std.proofs.lemmas.Bool.{cases_lt}
use Rattle.heap_terms.specs.declared.pages.Entry.{Entry}
use Rattle.heap_terms.specs.declared.pages.Entry.TheVariants as entries
use Rattle.heap_terms.specs.Heap.{entry_at}
use Rattle.heap_terms.specs.Regions.{is_free, IsFreeRun, IsLowestRun, HasNoRun}
use Rattle.page_table.specs.declared.packed.Packed.{Packed}
use Rattle.page_table.specs.Unpacked.{unpacked, unpacked_all}

-- the pages from `start` up to page p are free, and no run of k begins below `start`
pub record IsSearched (pages : List Entry) (k start p : ℕ) : Type 0 where
  pub least : start ≤ p
  pub most : p < start + k
  pub free : (i : ℕ) → start ≤ i → i < p → is_free (entry_at pages i) ≡ true
  pub lower : (s : ℕ) → s < start → ¬ IsFreeRun pages s k

-- a run has no used page
pub used_page : (pages : List Entry) (k s p : ℕ) → is_free (entry_at pages p) ≡ false → s ≤ p → p < s + k → ¬ IsFreeRun pages s k
used_page pages k s p used low high run = let free = run.free p low high in cc

pub searched_none : (pages : List Entry) (k : ℕ) → 1 ≤ k → IsSearched pages k 0 0
searched_none pages k h = record {
  least = omega arith;
  most = omega arith;
  free = λ i low high. absurd (omega arith);
  lower = λ s h. absurd (omega arith);
}

-- page p is used: the next stretch begins after it
pub searched_used : (pages : List Entry) (k start p : ℕ) → 1 ≤ k → IsSearched pages k start p → is_free (entry_at pages p) ≡ false
    → IsSearched pages k (p + 1) (p + 1)
searched_used pages k start p h searched used = record {
  least = omega arith;
  most = omega arith;
  free = λ i low high. absurd (omega arith);
  lower = λ s below. ⊎_elim
      (λ lt. searched.lower s lt)
      (λ (ge : start ≤ s). used_page pages k s p used (omega arith) (omega (arith, searched.most)))
      (cases_lt s start);
}

-- page p is free: the pages up to it and with it
pub free_up_to : (pages : List Entry) (start p : ℕ) → ((i : ℕ) → start ≤ i → i < p → is_free (entry_at pages i) ≡ true)
    → is_free (entry_at pages p) ≡ true → (i : ℕ) → start ≤ i → i < p + 1 → is_free (entry_at pages i) ≡ true
free_up_to pages start p before here i low high = ⊎_elim
    (λ lt. before i low lt)
    (λ (ge : p ≤ i). let e : i ≡ p = omega arith in rw e here)
    (cases_lt i p)

pub searched_free : (pages : List Entry) (k start p : ℕ) → IsSearched pages k start p → is_free (entry_at pages p) ≡ true
    → p + 1 < start + k → IsSearched pages k start (p + 1)
searched_free pages k start p searched here short = record {
  least = omega (arith, searched.least);
  most = short;
  free = free_up_to pages start p searched.free here;
  lower = searched.lower;
}

-- with page p the stretch has k pages
pub searched_found : (pages : List Entry) (k start p : ℕ) → IsSearched pages k start p → is_free (entry_at pages p) ≡ true
    → p + 1 ≡ start + k → p < length pages → IsLowestRun pages start k
searched_found pages k start p searched here full inside = record {
  run = record { inside = omega arith; free = λ i low high. free_up_to pages start p searched.free here i low (omega arith) };
  lowest = searched.lower;
}

-- the search met the end
pub searched_all : (pages : List Entry) (k start p : ℕ) → IsSearched pages k start p → length pages ≤ p → HasNoRun pages k
searched_all pages k start p searched end s run = ⊎_elim
    (λ lt. searched.lower s lt run)
    (λ (ge : start ≤ s). absurd (omega (arith, searched.most, run.inside)))
    (cases_lt s start)

-- the entry of a page of the table
pub entry_at-unpacked : (ps : List Packed) (i : ℕ) (d : Packed) → i < length ps → entry_at (unpacked_all ps) i ≡ unpacked (get_or ps i d)
entry_at-unpacked ps i d h = get_or-map unpacked ps i d entries.Free h

-- the answer of a test of an entry, said of the table
pub free-unpacked : (ps : List Packed) (i : ℕ) (d : Packed) (x b : Bool) → i < length ps → x ≡ is_free (unpacked (get_or ps i d)) → x ≡ b
    → is_free (entry_at (unpacked_all ps) i) ≡ b
free-unpacked ps i d x b h test is = ap is_free (entry_at-unpacked ps i d h) ∙ sym test ∙ is

-- one entry written
pub unpacked-written : (ps : List Packed) (pages : List Entry) (i : ℕ) (d e : Packed) (f : Entry → Entry) → unpacked_all ps ≡ pages
    → i < length pages → unpacked e ≡ f (unpacked (get_or ps i d)) → unpacked_all (set ps i e) ≡ set pages i (f (entry_at pages i))
unpacked-written ps pages i d e f is inside written =
    let among : i < length (unpacked_all ps) = rw is inside in
    let h : i < length ps = rw length-map at among in
    rw (← is) (map-set unpacked ps i e ∙ ap (λ x. set (unpacked_all ps) i x) (written ∙ ap f (sym (entry_at-unpacked ps i d h))))

-- replicate under map
pub map-replicate : {A B : Type 0} (f : A → B) (n : ℕ) (x : A) → map f (replicate n x) ≡ replicate n (f x)
map-replicate f zero x = refl
map-replicate f (suc n) x = ap (λ l. f x ∷ l) (map-replicate f n x)

take-replicate : {A : Type 0} (n : ℕ) (x : A) → take n (replicate n x) ≡ replicate n x
take-replicate zero x = refl
take-replicate (suc n) x = ap (λ l. x ∷ l) (take-replicate n x)

take-empty : {A : Type 0} (n : ℕ) → take {A = A} n [] ≡ []
take-empty zero = refl
take-empty (suc n) = refl

-- k copies of an entry written from `first` on; n is k
pub unpacked-run : (ps : List Packed) (first k n : ℕ) (e : Packed) (x : Entry) (ys : List Packed) → n ≡ k → ys ≡ replicate k e → unpacked e ≡ x
    → unpacked_all (put_mid first n ps ys) ≡ take first (unpacked_all ps) ++ replicate k x ++ drop (first + k) (unpacked_all ps)
unpacked-run ps first k n e x ys n_is ys_are is =
    rw (put_mid-paste first n ps ys (replicate k e) k ys_are (sym n_is) (sym (length-replicate k e)))
    (simp (take-replicate, map-append, map-replicate, take-map, drop-map, is))

-- an entry written into the place after k others, and k copies of another one into those; n is k
pub unpacked-last : (ps : List Packed) (first k n : ℕ) (full rest : Packed) (ys : List Packed) → n ≡ k → first + k < length ps → ys ≡ replicate k full →
    unpacked_all (put_mid first n (set ps (first + k) rest) ys)
    ≡ take first (unpacked_all ps) ++ replicate k (unpacked full) ++ unpacked rest ∷ drop (first + k + 1) (unpacked_all ps)
unpacked-last ps first k n full rest ys n_is inside ys_are =
    let pages = unpacked_all ps in
    let below : first + k < length pages = omega (arith, inside, length-map ps unpacked) in
    let before : first ≤ first + k = omega arith in
    unpacked-run (set ps (first + k) rest) first k n full (unpacked full) ys n_is ys_are refl
    ∙ ap (λ (l : List Entry). take first l ++ replicate k (unpacked full) ++ drop (first + k) l) (map-set unpacked ps (first + k) rest)
    ∙ ap (λ (l : List Entry). l ++ replicate k (unpacked full) ++ drop (first + k) (set pages (first + k) (unpacked rest))) (take-set-le first pages (first + k) (unpacked rest) before)
    ∙ ap (λ (l : List Entry). take first pages ++ replicate k (unpacked full) ++ l) (drop-set pages (first + k) (unpacked rest) below)

-- what a resize of an empty vector leaves; m is n
pub unpacked-resized : (n m : ℕ) (e : Packed) (x : Entry) (before after : List Packed) → m ≡ n → before ≡ [] → after ≡ take n before ++ replicate m e
    → unpacked e ≡ x → unpacked_all after ≡ replicate n x
unpacked-resized n m e x before after count empty is same =
    ap unpacked_all (is ∙ ap (λ (l : List Packed). take n l ++ replicate m e) empty ∙ ap (λ (l : List Packed). l ++ replicate m e) (take-empty n)
    ∙ ap (λ k. replicate k e) count)
    ∙ map-replicate unpacked n e ∙ ap (λ y. replicate n y) same
