-- Sweeping one page after another.
use Rattle.std.proofs.Common.{◌≡◌, ℕ, zero, suc, ◌+◌, ◌*◌, ◌/◌, ◌<◌, ◌≤◌, List, [], ◌∷◌, ◌++◌, length, get_or, set, map, Bool, true, inl, inr, refl, sym, ◌∙◌, ap, subst, cond, arith}
use Rattle.std.proofs.lemmas.Bool.{cases_lt, cases_eq, cases_Bool, false≢true}
use Rattle.std.proofs.lemmas.List.{length-set, get_or-set_same, get_or-set_other, get_or-map, length-map, get_or_past, ext_get_or, append-nil}
use Rattle.std.proofs.lemmas.List.Elements.{filter-append}
use Rattle.std.proofs.lemmas.List.Sums.{length-filter, count_by-le-length}
use Rattle.std.proofs.lemmas.List.FromFn.{length-range_with_len}
use Rattle.std.specs.List.{range_with_len}
use Rattle.std.specs.Prelude.{slice_index, filter}
use Rattle.heap_terms.specs.declared.pages.Entry.{Entry}
use Rattle.heap_terms.specs.declared.pages.Entry.TheVariants.{Free, Used}
use Rattle.heap_terms.specs.Heap.{entry_at, fill_of}
use Rattle.heap_terms.specs.Regions.{is_free}
use Rattle.copy_space.specs.Moved.{new_of}
use Rattle.copy_space.proofs.Referents.{its}
use Rattle.page_sweep.specs.declared.sweeping.Traced.{Traced}
use Rattle.page_sweep.specs.Held.{is_freed, swept_entry}
use Rattle.page_sweep.specs.Swept.{IsSwept}
use Rattle.page_sweep.specs.Sweeping.{CanSweep, CanSweepPage, IsPageSwept}
use Rattle.page_sweep.specs.Wiping.{Tracing, KeepsSettled, IsClean}

range_step : (a n : ℕ) → range_with_len a (suc n) ≡ range_with_len a n ++ (a + n) ∷ []
range_step a zero = (let same : a ≡ a + 0 = omega arith in ap (λ (x : ℕ). x ∷ []) same)
range_step a (suc n) =
    let same : a + 1 + n ≡ a + suc n = omega arith in
    ap (λ (xs : List ℕ). a ∷ xs) (range_step (a + 1) n ∙ ap (λ (x : ℕ). range_with_len (a + 1) n ++ x ∷ []) same)

-- how far the pages are swept
pub record IsSweptUpTo (at : Tracing) (target : ℕ) (words : List ℕ) (pages : List Entry) (freed : List ℕ) (page : ℕ) : Type 0 where
  pub keeps : KeepsSettled at words
  pub behind : (i : ℕ) → 512 * page ≤ i → slice_index words i ≡ slice_index at.state.words i
  pub clean : (p : ℕ) → p < page → IsClean at words p (fill_of (swept_entry at.state.pins at.state.moves at.state.pass.generation target (entry_at at.state.pages p)))
  pub long : length pages ≡ length at.state.pages
  pub done : (p : ℕ) → p < page → entry_at pages p ≡ swept_entry at.state.pins at.state.moves at.state.pass.generation target (entry_at at.state.pages p)
  pub rest : (p : ℕ) → page ≤ p → entry_at pages p ≡ entry_at at.state.pages p
  pub freed_are : freed ≡ filter (λ p. is_freed at.state.pins at.state.moves at.state.pass.generation (entry_at at.state.pages p)) (range_with_len 0 page)

module _ (at : Tracing) (t : Traced) (words : List ℕ) (pages : List Entry) (can : CanSweep at words pages t) where
  abbrev swept : Entry → Entry
  swept e = swept_entry at.state.pins at.state.moves at.state.pass.generation t.target e

  abbrev freed : ℕ → Bool
  freed p = is_freed at.state.pins at.state.moves at.state.pass.generation (entry_at at.state.pages p)

  pub none-swept : IsSweptUpTo at t.target words pages [] 0
  none-swept = record {
    keeps = record { long = ap length can.words_are; kept = λ x o there lives i less. ap (λ (ws : List ℕ). slice_index ws (new_of at.state.moves o.place + i)) can.words_are };
    behind = λ i from. ap (λ (ws : List ℕ). slice_index ws i) can.words_are;
    clean = λ p none. absurd (omega arith);
    long = ap length can.pages_are;
    done = λ p none. absurd (omega arith);
    rest = λ p from. ap (λ (es : List Entry). entry_at es p) can.pages_are;
    freed_are = refl;
  }

  -- the next page can be swept
  pub next-can : (now : List ℕ) (table : List Entry) (list : List ℕ) (page : ℕ) → IsSweptUpTo at t.target now table list page → page < length pages → CanSweepPage at now table t page
  next-can now table list page u below = record {
    tells = can.tells;
    long = u.long;
    inside = (let a = u.long in let b = ap length can.pages_are in omega arith);
    entry = u.rest page (omega arith);
    keeps = u.keeps;
    same = λ i on. u.behind i (omega arith);
  }

  swept_fill : (e : Entry) → fill_of (swept e) ≤ fill_of e
  swept_fill Free = omega arith
  swept_fill (Used ty g fill first k) = elim (cases_Bool (is_freed at.state.pins at.state.moves at.state.pass.generation (Used ty g fill first k))) [
    | inl free ↦ rw free (omega arith)
    | inr held ↦ rw held (omega arith)
  ]

  page_most : (p : ℕ) → fill_of (swept (entry_at at.state.pages p)) ≤ 512
  page_most p =
      let less = swept_fill (entry_at at.state.pages p) in
      let most = (its at.heap at.state can.tells.places).most p in
      omega arith

  range_more : (p : ℕ) → filter freed (range_with_len 0 (p + 1)) ≡ filter freed (range_with_len 0 p) ++ cond (freed p) (p ∷ []) []
  range_more p =
      let one : p + 1 ≡ suc p = omega arith in
      ap (λ (n : ℕ). filter freed (range_with_len 0 n)) one ∙ ap (filter freed) (range_step 0 p) ∙ filter-append freed (range_with_len 0 p) ((0 + p) ∷ [])
      ∙ (let same : 0 + p ≡ p = omega arith in ap (λ (n : ℕ). filter freed (range_with_len 0 p) ++ cond (freed n) (n ∷ []) []) same)

  module _ (now : List ℕ) (table : List Entry) (list : List ℕ) (page : ℕ) (u : IsSweptUpTo at t.target now table list page) (below : page < length pages)
      (new : List ℕ) (after : List Entry) (it : IsPageSwept at now new page t.target) (entry : after ≡ set table page (swept (entry_at at.state.pages page))) where
    in_table : page < length table
    in_table = (let a = u.long in let b = ap length can.pages_are in omega arith)

    pub one-more : (more : List ℕ) → more ≡ list ++ cond (freed page) (page ∷ []) [] → IsSweptUpTo at t.target new after more (page + 1)
    one-more more more_is = record {
      keeps = it.keeps;
      behind = λ i from. it.others i (λ on. omega (arith, on)) ∙ u.behind i (omega arith);
      clean = λ p less. (elim (cases_eq p page) [
        | inl same ↦ subst (λ (q : ℕ). IsClean at new q (fill_of (swept (entry_at at.state.pages q)))) (sym same) it.clean
        | inr apart ↦ (λ i within free.
            (let most = page_most p in
            it.others (512 * p + i) (λ on. apart (let own : (512 * p + i) / 512 ≡ p = omega arith in sym own ∙ on)) ∙ u.clean p (omega arith) i within free))
      ]);
      long = ap length entry ∙ length-set table page (swept (entry_at at.state.pages page)) ∙ u.long;
      done = λ p less. ap (λ (es : List Entry). entry_at es p) entry ∙ (elim (cases_eq p page) [
        | inl same ↦ ap (λ (q : ℕ). get_or (set table page (swept (entry_at at.state.pages page))) q Free) same ∙ get_or-set_same table page (swept (entry_at at.state.pages page)) Free in_table
            ∙ ap (λ (q : ℕ). swept (entry_at at.state.pages q)) (sym same)
        | inr apart ↦ get_or-set_other table page p (swept (entry_at at.state.pages page)) Free apart ∙ u.done p (omega arith)
      ]);
      rest = λ p from. ap (λ (es : List Entry). entry_at es p) entry ∙ get_or-set_other table page p (swept (entry_at at.state.pages page)) Free (λ same. omega (arith, same)) ∙ u.rest p (omega arith);
      freed_are = more_is ∙ ap (λ (xs : List ℕ). xs ++ cond (freed page) (page ∷ []) []) u.freed_are ∙ sym (range_more page);
    }

  -- a free page is swept as it is
  free-swept : (e : Entry) → is_free e ≡ true → swept e ≡ Free
  free-swept Free free = refl
  free-swept (Used ty g fill first k) free = absurd (false≢true free)

  free-kept : (e : Entry) → is_free e ≡ true → e ≡ Free
  free-kept Free free = refl
  free-kept (Used ty g fill first k) free = absurd (false≢true free)

  one-free : (now : List ℕ) (table : List Entry) (list : List ℕ) (page : ℕ) → IsSweptUpTo at t.target now table list page → is_free (entry_at at.state.pages page) ≡ true →
      IsSweptUpTo at t.target now table list (page + 1)
  one-free now table list page u free =
      let is : entry_at at.state.pages page ≡ Free = free-kept (entry_at at.state.pages page) free in
      let after : swept (entry_at at.state.pages page) ≡ Free = free-swept (entry_at at.state.pages page) free in
      record {
        keeps = u.keeps;
        behind = λ i from. u.behind i (omega arith);
        clean = λ p less. (elim (cases_eq p page) [
          | inl same ↦ (λ i within open_word. absurd (let none : i < 0 = subst (λ (e : Entry). i < fill_of e) (ap (λ (q : ℕ). swept (entry_at at.state.pages q)) same ∙ after) within in omega (arith, none)))
          | inr apart ↦ u.clean p (omega (arith, less, apart))
        ]);
        long = u.long;
        done = λ p less. (elim (cases_eq p page) [
          | inl same ↦ u.rest p (omega (arith, same)) ∙ ap (entry_at at.state.pages) same ∙ is ∙ sym (ap (λ (q : ℕ). swept (entry_at at.state.pages q)) same ∙ after)
          | inr apart ↦ u.done p (omega (arith, less, apart))
        ]);
        rest = λ p from. u.rest p (omega arith);
        freed_are = u.freed_are ∙ sym (range_more page ∙ ap (λ (b : Bool). filter freed (range_with_len 0 page) ++ cond b (page ∷ []) []) (ap (λ (e : Entry). is_freed at.state.pins at.state.moves at.state.pass.generation e) is)
            ∙ append-nil (filter freed (range_with_len 0 page)));
      }

  pub swept-beyond : (now : List ℕ) (table : List Entry) (list : List ℕ) (end : ℕ) → ((p : ℕ) → end ≤ p → is_free (entry_at at.state.pages p) ≡ true) →
      IsSweptUpTo at t.target now table list end → (k : ℕ) → IsSweptUpTo at t.target now table list (end + k)
  swept-beyond now table list end free u zero = (let same : end ≡ end + 0 = omega arith in subst (IsSweptUpTo at t.target now table list) same u)
  swept-beyond now table list end free u (suc k) =
      let same : end + k + 1 ≡ end + suc k = omega arith in
      subst (IsSweptUpTo at t.target now table list) same (one-free now table list (end + k) (swept-beyond now table list end free u k) (free (end + k) (omega arith)))

  -- no more pages are listed than were swept
  pub listed-most : (now : List ℕ) (table : List Entry) (list : List ℕ) (page : ℕ) → IsSweptUpTo at t.target now table list page → length list ≤ page
  listed-most now table list page u =
      let same = ap length u.freed_are in
      let filtered = length-filter freed (range_with_len 0 page) in
      let most = count_by-le-length freed (range_with_len 0 page) in
      let long = length-range_with_len 0 page in
      omega arith

  pub all-swept : (now : List ℕ) (table : List Entry) (list : List ℕ) (page : ℕ) → IsSweptUpTo at t.target now table list page → page ≡ length pages →
      IsSwept at.heap at.state t.target now table list
  all-swept now table list page u end = record {
    long = u.keeps.long;
    pages_are = ext_get_or Free table (map swept at.state.pages) (u.long ∙ sym (length-map at.state.pages swept))
        (λ p less. u.done p (let a = u.long in let b = ap length can.pages_are in omega arith) ∙ sym (get_or-map swept at.state.pages p Free Free (let a = u.long in omega arith)));
    freed_are = u.freed_are ∙ ap (λ (n : ℕ). filter freed (range_with_len 0 n)) (end ∙ ap length can.pages_are);
    kept = u.keeps.kept;
    fillers = λ p i within free. (elim (cases_lt p (length pages)) [
      | inl less ↦ u.clean p (omega arith) i (subst (λ (e : Entry). i < fill_of e) (u.done p (omega arith)) within) free
      | inr past ↦ (let none : entry_at table p ≡ Free = get_or_past table p Free (let a = u.long in let b = ap length can.pages_are in omega arith) in
          let zero_fill : i < 0 = subst (λ (e : Entry). i < fill_of e) none within in
          absurd (omega arith))
    ]);
  }
