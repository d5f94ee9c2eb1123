use Rattle.std.proofs.Common.{◌≡◌, ℕ, sym, ◌∙◌, arith}
use Rattle.heap_terms.specs.Heap.{thread_at}
use Rattle.lisp_heap.specs.View.{heap_of}
use Rattle.thread_scripts.proofs.Ends.{below_next, inhibiting_goes, none_inhibits, not_above}
use Rattle.thread_scripts.proofs.finishing.lowest_inhibiting.Goals as goal

pub loop-t-preserved : goal.loop-t-preserved
loop-t-preserved c = λ u l. below_next (λ (k : ℕ). (thread_at (heap_of c.args.world.now) k).inhibits ≡ 0) c.loop-t.t u c.loop-t.invariant
    (not_above (thread_at (heap_of c.args.world.now) c.loop-t.t).inhibits (sym c.inhibits.ensures ∙ c.if-inhibits.false)) l

pub returns-then-inhibits : goal.returns-then-inhibits
returns-then-inhibits c =
    inhibiting_goes c.args.world.now c.loop-t.t c.history-history.ensures.well_formed (omega arith) (sym c.inhibits.ensures ∙ c.if-inhibits.true)

pub returns : goal.returns
returns c = none_inhibits c.args.world.now c.history-history.ensures.well_formed (λ t l. c.loop-t.invariant t (omega arith))
