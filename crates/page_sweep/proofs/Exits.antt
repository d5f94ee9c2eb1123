-- The ways in which a page is swept.
use Rattle.std.proofs.Common.{◌≡◌, ◌≢◌, ℕ, ◌+◌, ◌*◌, ◌/◌, ◌<◌, ◌≤◌, List, length, set, Bool, true, false, refl, sym, ◌∙◌, ap, subst, arith}
use Rattle.std.proofs.lemmas.Bool.{eq-eqb, ne_eqb}
use Rattle.std.proofs.lemmas.List.{set-get_or}
use Rattle.std.specs.Prelude.{slice_index, ◌==◌}
use Rattle.heap_terms.specs.declared.kinds.PageType.{PageType}
use Rattle.heap_terms.specs.declared.pages.Entry.{Entry}
use Rattle.heap_terms.specs.declared.pages.Entry.TheVariants.{Free, Used}
use Rattle.heap_terms.specs.Heap.{entry_at, fill_of}
use Rattle.heap_terms.specs.Layout.{filler_word}
use Rattle.heap_terms.specs.OnPages.{IsOwned, IsInRun}
use Rattle.heap_terms.specs.PageRuns.{with_generation}
use Rattle.copy_space.specs.declared.notes.Move.{Move}
use Rattle.copy_space.specs.declared.notes.Pass.{Pass}
use Rattle.copy_space.specs.Midway.{IsPlacedSoFar}
use Rattle.copy_space.proofs.Referents.{its}
use Rattle.page_sweep.specs.declared.sweeping.Traced.{Traced}
use Rattle.page_sweep.specs.Held.{is_held, is_freed, swept_entry}
use Rattle.page_sweep.specs.Swept.{remaining_now}
use Rattle.page_sweep.specs.Sweeping.{CanSweepPage, IsPageSwept}
use Rattle.page_sweep.specs.Wiping.{Tracing, IsClean, CanWipe, IsWiped}
use Rattle.page_sweep.proofs.Clean.{taken-owned, other-clean, run-owned}

-- what a sweep of a page ensures
pub record Exit (at : Tracing) (old new : List ℕ) (before after : List Entry) (page target : ℕ) (result : Bool) : Type 0 where
  pub words : IsPageSwept at old new page target
  pub entry : after ≡ set before page (swept_entry at.state.pins at.state.moves at.state.pass.generation target (entry_at at.state.pages page))
  pub freed : result ≡ is_freed at.state.pins at.state.moves at.state.pass.generation (entry_at at.state.pages page)

-- which entries stay, become free and get the target generation
entry-other : (pins : List ℕ) (moves : List Move) (generation target : ℕ) (ty : PageType) (g fill first k : ℕ) → g ≢ generation → g ≢ 7 →
    (swept_entry pins moves generation target (Used ty g fill first k) ≡ Used ty g fill first k) × (is_freed pins moves generation (Used ty g fill first k) ≡ false)
entry-other pins moves generation target ty g fill first k other not_taken =
    let miss : (g == generation) ≡ false = ne_eqb g generation other in
    let miss' : (g == 7) ≡ false = ne_eqb g 7 not_taken in
    (rw (miss, miss') refl, rw miss refl)

entry-taken : (pins : List ℕ) (moves : List Move) (generation target : ℕ) (ty : PageType) (fill first k : ℕ) → 7 ≢ generation →
    (swept_entry pins moves generation target (Used ty 7 fill first k) ≡ Used ty target fill first k) × (is_freed pins moves generation (Used ty 7 fill first k) ≡ false)
entry-taken pins moves generation target ty fill first k other =
    let miss : (7 == generation) ≡ false = ne_eqb 7 generation other in
    (rw miss refl, rw miss refl)

entry-freed : (pins : List ℕ) (moves : List Move) (generation target : ℕ) (ty : PageType) (fill first k : ℕ) → is_held pins moves first ≡ false →
    (swept_entry pins moves generation target (Used ty generation fill first k) ≡ Free) × (is_freed pins moves generation (Used ty generation fill first k) ≡ true)
entry-freed pins moves generation target ty fill first k free =
    let hit : (generation == generation) ≡ true = eq-eqb generation generation refl in
    (rw (hit, free) refl, rw (hit, free) refl)

entry-held : (pins : List ℕ) (moves : List Move) (generation target : ℕ) (ty : PageType) (fill first k : ℕ) → is_held pins moves first ≡ true →
    (swept_entry pins moves generation target (Used ty generation fill first k) ≡ Used ty target fill first k) × (is_freed pins moves generation (Used ty generation fill first k) ≡ false)
entry-held pins moves generation target ty fill first k held =
    let hit : (generation == generation) ≡ true = eq-eqb generation generation refl in
    (rw (hit, held) refl, rw (hit, held) refl)

module _ (at : Tracing) (words : List ℕ) (pages : List Entry) (t : Traced) (page : ℕ) (can : CanSweepPage at words pages t page) where
  abbrev g : ℕ
  g = at.state.pass.generation

  abbrev swept : Entry → Entry
  swept e = swept_entry at.state.pins at.state.moves g t.target e

  pass_is : t.pass.generation ≡ at.state.pass.generation
  pass_is = ap (λ (p : Pass). p.generation) can.tells.pass

  p : IsPlacedSoFar at.heap at.state
  p = can.tells.places

  -- a run begins inside the table
  pub first-inside : (ty : PageType) (h fill first k : ℕ) → entry_at pages page ≡ Used ty h fill first k → first < length at.state.pages
  first-inside ty h fill first k is =
      let run : IsInRun at.state.pages page (Used ty h fill first k) = subst (λ (e : Entry). IsInRun at.state.pages page e) (sym can.entry ∙ is) ((its at.heap at.state p).placing.runs page) in
      let low = run.0 in
      let inside = can.inside in
      let long = can.long in
      omega arith

  -- words that are as they were at the end of tracing
  as_were : (fill : ℕ) → fill ≤ 512 → ((i : ℕ) → i < fill → ¬ IsOwned (remaining_now at.heap at.state) (512 * page + i) → slice_index at.state.words (512 * page + i) ≡ filler_word) →
      IsClean at words page fill
  as_were fill most clean i less free =
      let on : (512 * page + i) / 512 ≡ page = omega arith in
      can.same (512 * page + i) on ∙ clean i less free

  fill_most : (e : Entry) → entry_at at.state.pages page ≡ e → fill_of e ≤ 512
  fill_most e is = subst (λ (t : Entry). fill_of t ≤ 512) is ((its at.heap at.state p).most page)

  -- the words stay
  words-stay : (e : Entry) → swept (entry_at at.state.pages page) ≡ e → IsClean at words page (fill_of e) → IsPageSwept at words words page t.target
  words-stay e is clean = record {
    keeps = can.keeps;
    others = λ i apart. refl;
    clean = subst (λ (e : Entry). IsClean at words page (fill_of e)) (sym is) clean;
  }

  -- the table stays where the entry does
  same_table : (e : Entry) → entry_at at.state.pages page ≡ e → swept (entry_at at.state.pages page) ≡ e → pages ≡ set pages page (swept (entry_at at.state.pages page))
  same_table e is stays = sym (set-get_or pages page Free) ∙ ap (set pages page) (can.entry ∙ is ∙ sym stays)

  pub free-exit : entry_at pages page ≡ Free → Exit at words words pages pages page t.target false
  free-exit is =
      let free : entry_at at.state.pages page ≡ Free = sym can.entry ∙ is in
      let stays : swept (entry_at at.state.pages page) ≡ Free = ap swept free in
      record {
        words = words-stay Free stays (λ i less free. absurd (omega arith));
        entry = same_table Free free stays;
        freed = ap (is_freed at.state.pins at.state.moves g) (sym free);
      }

  pub taken-exit : (ty : PageType) (fill first k : ℕ) (after : List Entry) → entry_at pages page ≡ Used ty 7 fill first k →
      after ≡ set pages page (with_generation (entry_at pages page) t.target) → Exit at words words pages after page t.target false
  taken-exit ty fill first k after is after_is =
      let e : entry_at at.state.pages page ≡ Used ty 7 fill first k = sym can.entry ∙ is in
      let bound = p.generation in
      let both = entry-taken at.state.pins at.state.moves g t.target ty fill first k (λ same. omega (arith, same)) in
      let now : swept (entry_at at.state.pages page) ≡ Used ty t.target fill first k = ap swept e ∙ both.0 in
      record {
        words = words-stay (Used ty t.target fill first k) now (as_were fill (fill_most (Used ty 7 fill first k) e) (λ i less free. absurd (free (taken-owned at.heap at.state p page ty 7 fill first k e refl i less))));
        entry = after_is ∙ ap (λ (e : Entry). set pages page (with_generation e t.target)) is ∙ ap (set pages page) (sym now);
        freed = sym (ap (is_freed at.state.pins at.state.moves g) e ∙ both.1);
      }

  pub other-exit : (ty : PageType) (h fill first k : ℕ) → entry_at pages page ≡ Used ty h fill first k → h ≢ 7 → h ≢ t.pass.generation → Exit at words words pages pages page t.target false
  other-exit ty h fill first k is not_taken other =
      let e : entry_at at.state.pages page ≡ Used ty h fill first k = sym can.entry ∙ is in
      let other' : h ≢ g = λ same. other (same ∙ sym pass_is) in
      let both = entry-other at.state.pins at.state.moves g t.target ty h fill first k other' not_taken in
      let now : swept (entry_at at.state.pages page) ≡ Used ty h fill first k = ap swept e ∙ both.0 in
      record {
        words = words-stay (Used ty h fill first k) now (as_were fill (fill_most (Used ty h fill first k) e) (other-clean at.heap at.state p page ty h fill first k e not_taken other'));
        entry = same_table (Used ty h fill first k) e now;
        freed = sym (ap (is_freed at.state.pins at.state.moves g) e ∙ both.1);
      }

  abbrev own : PageType → ℕ → ℕ → ℕ → Entry
  own ty fill first k = Used ty g fill first k

  own_entry : (ty : PageType) (h fill first k : ℕ) → entry_at pages page ≡ Used ty h fill first k → h ≡ t.pass.generation → entry_at at.state.pages page ≡ own ty fill first k
  own_entry ty h fill first k is same = sym can.entry ∙ is ∙ ap (λ (n : ℕ). Used ty n fill first k) (same ∙ pass_is)

  pub freed-exit : (ty : PageType) (h fill first k : ℕ) (after : List Entry) → entry_at pages page ≡ Used ty h fill first k → h ≡ t.pass.generation →
      is_held at.state.pins at.state.moves first ≡ false → after ≡ set pages page Free → Exit at words words pages after page t.target true
  freed-exit ty h fill first k after is same free after_is =
      let e = own_entry ty h fill first k is same in
      let both = entry-freed at.state.pins at.state.moves g t.target ty fill first k free in
      let now : swept (entry_at at.state.pages page) ≡ Free = ap swept e ∙ both.0 in
      record {
        words = words-stay Free now (λ i less free. absurd (omega arith));
        entry = after_is ∙ ap (set pages page) (sym now);
        freed = sym (ap (is_freed at.state.pins at.state.moves g) e ∙ both.1);
      }

  module _ (ty : PageType) (h fill first k : ℕ) (after : List Entry) (is : entry_at pages page ≡ Used ty h fill first k) (same : h ≡ t.pass.generation) where
    pub can-wipe : k ≡ 1 → CanWipe at words page ty fill
    can-wipe one = record {
      places = can.tells.places;
      headed = can.tells.headed;
      keeps = can.keeps;
      first = first;
      entry = own_entry ty h fill first k is same ∙ ap (λ (n : ℕ). own ty fill first n) one;
    }

    module _ (held : is_held at.state.pins at.state.moves first ≡ true) (after_is : after ≡ set pages page (with_generation (entry_at pages page) t.target)) where
      held-now : swept (entry_at at.state.pages page) ≡ Used ty t.target fill first k
      held-now = ap swept (own_entry ty h fill first k is same) ∙ (entry-held at.state.pins at.state.moves g t.target ty fill first k held).0

      after-held : after ≡ set pages page (swept (entry_at at.state.pages page))
      after-held = after_is ∙ ap (λ (e : Entry). set pages page (with_generation e t.target)) is ∙ ap (set pages page) (sym held-now)

      not-freed : false ≡ is_freed at.state.pins at.state.moves g (entry_at at.state.pages page)
      not-freed = sym (ap (is_freed at.state.pins at.state.moves g) (own_entry ty h fill first k is same) ∙ (entry-held at.state.pins at.state.moves g t.target ty fill first k held).1)

      pub wiped-exit : (new : List ℕ) → IsWiped at words new page fill → Exit at words new pages after page t.target false
      wiped-exit new w = record {
        words = record {
          keeps = w.keeps;
          others = w.others;
          clean = subst (λ (e : Entry). IsClean at new page (fill_of e)) (sym held-now) w.clean;
        };
        entry = after-held;
        freed = not-freed;
      }

      pub run-exit : k ≢ 1 → Exit at words words pages after page t.target false
      run-exit several =
          let e = own_entry ty h fill first k is same in
          record {
            words = words-stay (Used ty t.target fill first k) held-now
                (as_were fill (fill_most (own ty fill first k) e) (λ i less free. absurd (free (run-owned at.heap at.state p page ty g fill first k e held several i less))));
            entry = after-held;
            freed = not-freed;
          }
