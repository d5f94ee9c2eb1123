-- Each way in which a page is swept.
use Rattle.std.proofs.Common.{◌≡◌, ℕ, List, Bool, true, false, sym, ◌∙◌, ap, subst, arith}
use Rattle.heap_terms.specs.declared.pages.Entry.TheVariants.{Used}
use Rattle.heap_terms.specs.Heap.{entry_at}
use Rattle.copy_space.specs.declared.notes.Move.{Move}
use Rattle.page_sweep.specs.Flags.{held_at}
use Rattle.page_sweep.specs.Held.{is_held}
use Rattle.page_sweep.specs.Sweeping.{IsPageSwept}
use Rattle.page_sweep.proofs.Exits.{first-inside, free-exit, taken-exit, other-exit, freed-exit, can-wipe, wiped-exit, run-exit}
use Rattle.page_sweep.proofs.sweeping.sweep_page.Goals as goal
use Rattle.page_sweep.proofs.sweeping.sweep_page.Goals.{then-run_pages-eq1, else-run_pages-eq1}

pub at-requires : goal.at-requires
at-requires g c =
    let u = c.in-Used in
    let inside = first-inside g.at c.args.space.now c.args.pages.now c.args.traced.now c.args.page c.requires.0 u.ty u.generation u.fill u.run_first u.run_pages (sym c.entry.ensures ∙ u.is) in
    let long = c.requires.1.long in
    omega arith

pub returns-in_default-clause-words : goal.returns-in_default-clause-words
returns-in_default-clause-words g c = (free-exit g.at c.args.space.now c.args.pages.now c.args.traced.now c.args.page c.requires.0 (sym c.entry.ensures ∙ c.in_default.is)).words

pub returns-then-generation-eq-SCRATCH_GENERATION : goal.returns-then-generation-eq-SCRATCH_GENERATION
returns-then-generation-eq-SCRATCH_GENERATION g c =
    let u = c.in-Used in
    let is : entry_at c.args.pages.now c.args.page ≡ Used u.ty 7 u.fill u.run_first u.run_pages =
    sym c.entry.ensures ∙ u.is ∙ ap (λ (n : ℕ). Used u.ty n u.fill u.run_first u.run_pages) c.if-generation-eq-SCRATCH_GENERATION.true in
    let x = taken-exit g.at c.args.space.now c.args.pages.now c.args.traced.now c.args.page c.requires.0 u.ty u.fill u.run_first u.run_pages c.set_gen.new.self is c.set_gen.ensures in
    record { words = x.words; entry = x.entry; freed = x.freed }

pub returns-then-generation-traced : goal.returns-then-generation-traced
returns-then-generation-traced g c =
    let u = c.in-Used in
    let x = other-exit g.at c.args.space.now c.args.pages.now c.args.traced.now c.args.page c.requires.0 u.ty u.generation u.fill u.run_first u.run_pages (sym c.entry.ensures ∙ u.is)
    c.if-generation-eq-SCRATCH_GENERATION.false c.if-generation-traced.true in
    record { words = x.words; entry = x.entry; freed = x.freed }

-- the flag of the run
flag : (held : List Bool) (pins : List ℕ) (moves : List Move) (first : ℕ) (it b : Bool) → ((page : ℕ) → held_at held page ≡ is_held pins moves page) → it ≡ held_at held first → it ≡ b →
    is_held pins moves first ≡ b
flag held pins moves first it b all at is = sym (all first) ∙ sym at ∙ is

pub returns-then-not-at : goal.returns-then-not-at
returns-then-not-at g c =
    let u = c.in-Used in
    let free = flag c.args.held.now g.at.state.pins g.at.state.moves u.run_first c.at.result false c.requires.1.flags c.at.ensures c.if-not-at.true in
    let x = freed-exit g.at c.args.space.now c.args.pages.now c.args.traced.now c.args.page c.requires.0 u.ty u.generation u.fill u.run_first u.run_pages c.free_page.new.self
    (sym c.entry.ensures ∙ u.is) c.if-generation-traced.false free c.free_page.ensures in
    record { words = x.words; entry = x.entry; freed = x.freed }

pub wipe-requires : goal.wipe-requires
wipe-requires g c =
    let u = c.in-Used in (
      c.requires.0.tells.marks,
      can-wipe g.at c.args.space.now c.args.pages.now c.args.traced.now c.args.page c.requires.0 u.ty u.generation u.fill u.run_first u.run_pages c.args.pages.now
          (sym c.entry.ensures ∙ u.is) c.if-generation-traced.false c.if-run_pages-eq1.true,
    )

pub returns : goal.returns
returns g c =
    let u = c.in-Used in
    let held = flag c.args.held.now g.at.state.pins g.at.state.moves u.run_first c.at.result true c.requires.1.flags c.at.ensures c.if-not-at.false in
    elim c.if-run_pages-eq1.branch [
      | then-run_pages-eq1 w ↦ (let x = wiped-exit g.at c.args.space.now c.args.pages.now c.args.traced.now c.args.page c.requires.0 u.ty u.generation u.fill u.run_first u.run_pages c.set_gen-2.new.self
          (sym c.entry.ensures ∙ u.is) c.if-generation-traced.false held c.set_gen-2.ensures w.wipe.new.space w.wipe.ensures in
          record { words = subst (λ (ws : List ℕ). IsPageSwept g.at c.args.space.now ws c.args.page c.args.traced.now.target) (sym w.space-is) x.words; entry = x.entry; freed = x.freed })
      | else-run_pages-eq1 w ↦ (let x = run-exit g.at c.args.space.now c.args.pages.now c.args.traced.now c.args.page c.requires.0 u.ty u.generation u.fill u.run_first u.run_pages c.set_gen-2.new.self
          (sym c.entry.ensures ∙ u.is) c.if-generation-traced.false held c.set_gen-2.ensures w.if-run_pages-eq1.false in
          record { words = subst (λ (ws : List ℕ). IsPageSwept g.at c.args.space.now ws c.args.page c.args.traced.now.target) (sym w.space-is) x.words; entry = x.entry; freed = x.freed })
    ]
