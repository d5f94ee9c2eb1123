-- From where on all pages are free.
use Rattle.std.proofs.Common.{zero, suc, replicate, take, drop, ◌++◌, ◌∷◌, [], ◌≡◌, ◌≢◌, ℕ, ◌+◌, ◌-◌, ◌<◌, ◌≤◌, true, false, List, length, refl, sym, ◌∙◌, ap, arith, ⊎_elim, set, inl, inr, max}
use Rattle.std.proofs.Math.Nat.{le-max_left, le-max_right, max-le}
use Rattle.std.proofs.Math.Seq.{get_or-append_right}
use Rattle.std.proofs.lemmas.Bool.{cases_lt, cases_eq, false≢true}
use Rattle.std.proofs.lemmas.List.{map-set, length-map, length-set, get_or-set_other, get_or-set_same, get_or-drop, length-append, length-take-le, length-replicate, length-drop, append_assoc, take_at}
use Rattle.heap_terms.specs.declared.pages.Entry.{Entry}
use Rattle.heap_terms.specs.declared.pages.Entry.TheVariants as entries
use Rattle.heap_terms.specs.Heap.{entry_at}
use Rattle.heap_terms.specs.Regions.{is_free}
use Rattle.page_table.specs.declared.packed.Packed.{Packed}
use Rattle.page_table.specs.Unpacked.{unpacked, unpacked_all, IsTable}

-- from page `end` on all pages are free
abbrev pub IsFreeFrom : List Entry → ℕ → Type 0
IsFreeFrom pages end = (p : ℕ) → end ≤ p → is_free (entry_at pages p) ≡ true

-- a page that is in use lies below
in-use : (pages : List Entry) (end i p : ℕ) → IsFreeFrom pages end → is_free (entry_at pages i) ≡ false → end ≤ p → p ≢ i
in-use pages end i p free used above same = false≢true (sym used ∙ ap (λ (q : ℕ). is_free (entry_at pages q)) (sym same) ∙ free p above)

-- the entry of a page in use is written
pub table-written : (ps : List Packed) (end i : ℕ) (e : Packed) → IsTable ps end → is_free (entry_at (unpacked_all ps) i) ≡ false → IsTable (set ps i e) end
table-written ps end i e table used = record {
  least = rw length-set table.least;
  most = rw length-set table.most;
  inside = rw length-set table.inside;
  free = λ p above.
      ap (λ (l : List Entry). is_free (entry_at l p)) (map-set unpacked ps i e)
      ∙ ap is_free (get_or-set_other (unpacked_all ps) i p (unpacked e) entries.Free (in-use (unpacked_all ps) end i p table.free used above))
      ∙ table.free p above;
}

-- what stands behind the pages that were written
behind : (pages front : List Entry) (n p : ℕ) → length front ≡ n → n ≤ p → entry_at (front ++ drop n pages) p ≡ entry_at pages p
behind pages front n p long above =
    get_or-append_right front (drop n pages) p entries.Free (omega arith)
    ∙ get_or-drop n pages (p - length front) entries.Free
    ∙ ap (entry_at pages) (omega arith)

-- the first n pages are written
pub table-run : (ps qs : List Packed) (end n now : ℕ) (front : List Entry) → IsTable ps end → length qs ≡ length ps
    → unpacked_all qs ≡ front ++ drop n (unpacked_all ps) → length front ≡ n → n ≤ now → end ≤ now → now ≤ length ps → IsTable qs now
table-run ps qs end n now front table same is long least more inside = record {
  least = rw same table.least;
  most = rw same table.most;
  inside = rw same inside;
  free = λ p above.
      ap (λ (l : List Entry). is_free (entry_at l p)) is
      ∙ ap is_free (behind (unpacked_all ps) front n p long (omega arith))
      ∙ table.free p (omega arith);
}

-- a page becomes free
freed-one : (pages : List Entry) (end i p : ℕ) → IsFreeFrom pages end → i < length pages → end ≤ p → is_free (entry_at (set pages i entries.Free) p) ≡ true
freed-one pages end i p free inside above = elim (cases_eq p i) [
  | inl same ↦ rw same (ap is_free (get_or-set_same pages i entries.Free entries.Free inside))
  | inr other ↦ ap is_free (get_or-set_other pages i p entries.Free entries.Free other) ∙ free p above
]

pub table-freed : (ps : List Packed) (end i now : ℕ) (e : Packed) → IsTable ps end → unpacked e ≡ entries.Free → i < length (unpacked_all ps) → now ≤ end
    → ((p : ℕ) → now ≤ p → p < end → is_free (entry_at (unpacked_all (set ps i e)) p) ≡ true) → IsTable (set ps i e) now
table-freed ps end i now e table none inside low below = record {
  least = rw length-set table.least;
  most = rw length-set table.most;
  inside = rw length-set (omega (arith, table.inside));
  free = λ p above. ⊎_elim
      (λ lt. below p above lt)
      (λ (ge : end ≤ p).
      ap (λ (l : List Entry). is_free (entry_at l p)) (map-set unpacked ps i e ∙ ap (λ (x : Entry). set (unpacked_all ps) i x) none)
      ∙ freed-one (unpacked_all ps) end i p table.free inside ge)
      (cases_lt p end);
}

-- of pages that are all free none is in use
free-none : (n p : ℕ) → is_free (entry_at (replicate n entries.Free) p) ≡ true
free-none zero p = refl
free-none (suc n) zero = refl
free-none (suc n) (suc p) = free-none n p

pub table-new : (ps : List Packed) (n : ℕ) → 1 ≤ n → n ≤ 1024 → unpacked_all ps ≡ replicate n entries.Free → IsTable ps 0
table-new ps n least most is =
    let long : length ps ≡ n = sym (length-map ps unpacked) ∙ ap length is ∙ length-replicate n entries.Free in
    record {
      least = rw long least;
      most = rw long most;
      inside = omega arith;
      free = λ p above. ap (λ (l : List Entry). is_free (entry_at l p)) is ∙ free-none n p;
    }

-- one page more is free
pub free-more : (pages : List Entry) (end below now : ℕ) → ((p : ℕ) → below ≤ p → p < end → is_free (entry_at pages p) ≡ true) → now + 1 ≡ below
    → is_free (entry_at pages now) ≡ true → (p : ℕ) → now ≤ p → p < end → is_free (entry_at pages p) ≡ true
free-more pages end below now free next here p above inside = elim (cases_eq p now) [
  | inl same ↦ rw same here
  | inr other ↦ free p (omega arith) inside
]

-- the first n pages are written, through a slice of the vector of so many entries
pub table-put : (items ps qs : List Packed) (len end n now : ℕ) (front : List Entry) → IsTable items end → ps ≡ items → length ps ≡ len → n ≤ length ps
    → length front ≡ n → unpacked_all qs ≡ front ++ drop n (unpacked_all ps) → now ≡ max end n → IsTable (take len (qs ++ drop (length qs) items)) now
table-put items ps qs len end n now front table same long inside front_long is now_is =
    let of_pages : length (unpacked_all ps) ≡ length ps = length-map ps unpacked in
    let of_new : length (unpacked_all qs) ≡ length qs = length-map qs unpacked in
    let of_rest : length (drop n (unpacked_all ps)) ≡ length (unpacked_all ps) - n = length-drop n (unpacked_all ps) in
    let whole : length (unpacked_all qs) ≡ length front + length (drop n (unpacked_all ps)) = ap length is ∙ length-append front (drop n (unpacked_all ps)) in
    let as_long : length qs ≡ length ps = omega arith in
    let as_items : length ps ≡ length items = ap length same in
    let all : take len (qs ++ drop (length qs) items) ≡ qs = take_at qs (drop (length qs) items) len (as_long ∙ long) in
    let least : n ≤ now = rw now_is (le-max_right end n) in
    let more : end ≤ now = rw now_is (le-max_left end n) in
    let most : now ≤ length items = rw now_is (max-le table.inside (omega arith)) in
    let there : unpacked_all qs ≡ front ++ drop n (unpacked_all items) = is ∙ ap (λ (l : List Packed). front ++ drop n (unpacked_all l)) same in
    rw all (table-run items qs end n now front table (as_long ∙ as_items) there front_long least more most)

-- a run of k pages is taken
pub table-taken : (items ps qs : List Packed) (len end first k now : ℕ) (x : Entry) → IsTable items end → ps ≡ items → length ps ≡ len → first + k ≤ length ps
    → unpacked_all qs ≡ take first (unpacked_all ps) ++ replicate k x ++ drop (first + k) (unpacked_all ps) → now ≡ max end (first + k)
    → IsTable (take len (qs ++ drop (length qs) items)) now
table-taken items ps qs len end first k now x table same long inside is now_is =
    let of_pages : length (unpacked_all ps) ≡ length ps = length-map ps unpacked in
    let front_long : length (take first (unpacked_all ps) ++ replicate k x) ≡ first + k =
    length-append (take first (unpacked_all ps)) (replicate k x)
    ∙ ap (λ (n : ℕ). n + length (replicate k x)) (length-take-le first (unpacked_all ps) (omega arith))
    ∙ ap (λ (n : ℕ). first + n) (length-replicate k x) in
    table-put items ps qs len end (first + k) now (take first (unpacked_all ps) ++ replicate k x) table same long inside front_long is now_is

-- a run is filled whose last page has another entry
pub table-filled : (items ps qs : List Packed) (len end first k now : ℕ) (x y : Entry) → IsTable items end → ps ≡ items → length ps ≡ len → first + k < length ps
    → unpacked_all qs ≡ take first (unpacked_all ps) ++ replicate k x ++ y ∷ drop (first + k + 1) (unpacked_all ps) → now ≡ max end (first + k + 1)
    → IsTable (take len (qs ++ drop (length qs) items)) now
table-filled items ps qs len end first k now x y table same long inside is now_is =
    let of_pages : length (unpacked_all ps) ≡ length ps = length-map ps unpacked in
    let start_long : length (take first (unpacked_all ps) ++ replicate k x) ≡ first + k =
    length-append (take first (unpacked_all ps)) (replicate k x)
    ∙ ap (λ (n : ℕ). n + length (replicate k x)) (length-take-le first (unpacked_all ps) (omega arith))
    ∙ ap (λ (n : ℕ). first + n) (length-replicate k x) in
    let front_long : length (take first (unpacked_all ps) ++ replicate k x ++ y ∷ []) ≡ first + k + 1 =
    length-append (take first (unpacked_all ps) ++ replicate k x) (y ∷ []) ∙ ap (λ (n : ℕ). n + 1) start_long in
    let there = is ∙ sym (append_assoc (take first (unpacked_all ps) ++ replicate k x) (y ∷ []) (drop (first + k + 1) (unpacked_all ps))) in
    table-put items ps qs len end (first + k + 1) now (take first (unpacked_all ps) ++ replicate k x ++ y ∷ []) table same long (omega arith) front_long there now_is
