-- The flags are set, the pages swept, and the flags cleared.
use Rattle.std.proofs.Common.{◌≡◌, ℕ, ◌/◌, ◌<◌, List, length, Bool, true, false, replicate, sym, ◌∙◌, ap, subst}
use Rattle.std.proofs.lemmas.List.{length-replicate}
use Rattle.std.specs.Prelude.{All, if◌then◌else◌}
use Rattle.heap_terms.specs.declared.pages.Entry.{Entry}
use Rattle.copy_space.specs.declared.notes.Move.{Move}
use Rattle.page_sweep.specs.declared.sweeping.Traced.{Traced}
use Rattle.page_sweep.specs.Flags.{held_at, is_pinned_on, is_stay_on}
use Rattle.page_sweep.specs.Sweeping.{CanSweep, AreHeld}
use Rattle.page_sweep.specs.Wiping.{Tracing}
use Rattle.page_sweep.proofs.Holding.{pins-inside, stays-inside, all-set, all-clear}
use Rattle.page_sweep.proofs.sweeping.sweep.Goals as goal

module _ (at : Tracing) (words : List ℕ) (pages : List Entry) (t : Traced) (can : CanSweep at words pages t) where
  pins_are : (n : ℕ) → n ≡ length pages → All (λ (index : ℕ). index / 512 < n) t.pins.now.listed
  pins_are n long =
      subst (λ (pins : List ℕ). All (λ (index : ℕ). index / 512 < n) pins) (sym can.tells.pins)
      (pins-inside at.heap at.state can.tells.places n (long ∙ ap length can.pages_are))

  stays_are : (n : ℕ) → n ≡ length pages → All (λ (m : Move). m.old / 512 < n) t.moves.now
  stays_are n long =
      subst (λ (moves : List Move). All (λ (m : Move). m.old / 512 < n) moves) (sym can.tells.moves)
      (stays-inside at.heap at.state can.tells.places n (long ∙ ap length can.pages_are))

  -- the pages are held
  held_are : (held first second : List Bool) → held ≡ replicate (length pages) false →
      ((page : ℕ) → held_at first page ≡ (if is_pinned_on t.pins.now.listed page then true else held_at held page)) → length first ≡ length held →
      ((page : ℕ) → held_at second page ≡ (if is_stay_on t.moves.now page then true else held_at first page)) → length second ≡ length first → AreHeld at second
  held_are held first second clear one long two long' = record {
    long = long' ∙ long ∙ ap length clear ∙ length-replicate (length pages) false ∙ ap length can.pages_are;
    flags = all-set at.state.pins at.state.moves (length pages) first second
        (λ page. one page ∙ ap (λ (pins : List ℕ). if is_pinned_on pins page then true else held_at held page) can.tells.pins ∙
        ap (λ (hs : List Bool). if is_pinned_on at.state.pins page then true else held_at hs page) clear)
        (λ page. two page ∙ ap (λ (moves : List Move). if is_stay_on moves page then true else held_at first page) can.tells.moves);
  }

  -- and clear again
  clear_are : (held second third fourth : List Bool) → held ≡ replicate (length pages) false → AreHeld at second →
      ((page : ℕ) → held_at third page ≡ (if is_pinned_on t.pins.now.listed page then false else held_at second page)) → length third ≡ length second →
      ((page : ℕ) → held_at fourth page ≡ (if is_stay_on t.moves.now page then false else held_at third page)) → length fourth ≡ length third → fourth ≡ held
  clear_are held second third fourth clear set one long two long' =
      all-clear at.state.pins at.state.moves (length pages) second third fourth set.flags
      (λ page. one page ∙ ap (λ (pins : List ℕ). if is_pinned_on pins page then false else held_at second page) can.tells.pins)
      (λ page. two page ∙ ap (λ (moves : List Move). if is_stay_on moves page then false else held_at third page) can.tells.moves)
      (long' ∙ long ∙ set.long ∙ sym (ap length can.pages_are)) ∙ sym clear

  long_is : (held : List Bool) → held ≡ replicate (length pages) false → length held ≡ length pages
  long_is held clear = ap length clear ∙ length-replicate (length pages) false

pub flag_pins-requires : goal.flag_pins-requires
flag_pins-requires g c =
    pins_are g.at c.args.space.now c.args.pages.now c.args.traced.now c.requires.0 (length c.args.held.now) (long_is g.at c.args.space.now c.args.pages.now c.args.traced.now c.requires.0 c.args.held.now c.requires.1.0)

pub flag_stays-requires : goal.flag_stays-requires
flag_stays-requires g c =
    stays_are g.at c.args.space.now c.args.pages.now c.args.traced.now c.requires.0 (length c.flag_pins.new.held)
    (c.flag_pins.ensures.long ∙ long_is g.at c.args.space.now c.args.pages.now c.args.traced.now c.requires.0 c.args.held.now c.requires.1.0)

pub sweep_pages-requires : goal.sweep_pages-requires
sweep_pages-requires g c = (
  c.requires.0,
  (
    held_are g.at c.args.space.now c.args.pages.now c.args.traced.now c.requires.0 c.args.held.now c.flag_pins.new.held c.flag_stays.new.held c.requires.1.0
        c.flag_pins.ensures.flagged c.flag_pins.ensures.long c.flag_stays.ensures.flagged c.flag_stays.ensures.long,
    c.requires.1.1,
  ),
)

pub flag_pins-requires-2 : goal.flag_pins-requires-2
flag_pins-requires-2 g c =
    pins_are g.at c.args.space.now c.args.pages.now c.args.traced.now c.requires.0 (length c.flag_stays.new.held)
    (c.flag_stays.ensures.long ∙ c.flag_pins.ensures.long ∙ long_is g.at c.args.space.now c.args.pages.now c.args.traced.now c.requires.0 c.args.held.now c.requires.1.0)

pub flag_stays-requires-2 : goal.flag_stays-requires-2
flag_stays-requires-2 g c =
    stays_are g.at c.args.space.now c.args.pages.now c.args.traced.now c.requires.0 (length c.flag_pins-2.new.held)
    (c.flag_pins-2.ensures.long ∙ c.flag_stays.ensures.long ∙ c.flag_pins.ensures.long
    ∙ long_is g.at c.args.space.now c.args.pages.now c.args.traced.now c.requires.0 c.args.held.now c.requires.1.0)

pub returns-clause-held : goal.returns-clause-held
returns-clause-held g c =
    clear_are g.at c.args.space.now c.args.pages.now c.args.traced.now c.requires.0 c.args.held.now c.flag_stays.new.held c.flag_pins-2.new.held c.flag_stays-2.new.held c.requires.1.0
    (held_are g.at c.args.space.now c.args.pages.now c.args.traced.now c.requires.0 c.args.held.now c.flag_pins.new.held c.flag_stays.new.held c.requires.1.0
    c.flag_pins.ensures.flagged c.flag_pins.ensures.long c.flag_stays.ensures.flagged c.flag_stays.ensures.long)
    c.flag_pins-2.ensures.flagged c.flag_pins-2.ensures.long c.flag_stays-2.ensures.flagged c.flag_stays-2.ensures.long
