-- The World at the start.
use Rattle.std.proofs.Common.{ℕ, List, [], ap, ◌∙◌, refl, replicate, None}
use Rattle.lisp_heap.specs.State.{fresh_state}
use Rattle.lisp_heap.specs.declared.world.World.TheInside.{Inside}
use Rattle.lisp_heap.specs.CellsView.{zero_cells}
use Rattle.lisp_heap.proofs.Starting.{starts_sound, fresh_is}
use Rattle.lisp_heap.proofs.world.World.new.Goals as goal

pub invariant_of-world : goal.invariant_of-world
invariant_of-world c =
    let s : Inside = record {
      alloc = c.args.alloc;
      program = c.args.program;
      space = c.in_ok-space.space;
      pages = c.in_ok-pages.pages;
      labels = c.in_ok-labels.labels;
      cells = c.in_ok-cells.cells;
      states = c.in_ok-states.states;
      pins = c.in_ok-pins.pins;
      commits = 0;
      stats = c.new-stats.result;
      counted = 0;
      triggered = 0;
      finalizers = c.new-finalizers.result;
      history = c.in_ok-history.history;
      scratch = None;
    } in
    starts_sound s c.requires c.in_ok-history.ensures.items
    (fresh_is s c.in_ok-space.ensures c.in_ok-pages.ensures c.in_ok-labels.ensures
    (c.in_ok-cells.ensures ∙ ap zero_cells c.len-threads.ensures)
    (c.in_ok-states.ensures ∙ ap (λ (n : ℕ). replicate n fresh_state) c.len-threads.ensures)
    (c.in_ok-pins.ensures ∙ ap (λ (n : ℕ). replicate {A = List ℕ} n []) c.len-threads.ensures) refl c.new-stats.ensures.fresh refl refl c.new-finalizers.ensures) refl
