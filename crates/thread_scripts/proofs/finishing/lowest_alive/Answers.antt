use Rattle.std.proofs.Common.{◌≡◌, ℕ, true, sym, ◌∙◌, arith}
use Rattle.heap_terms.specs.Heap.{thread_at}
use Rattle.lisp_heap.specs.View.{heap_of}
use Rattle.thread_scripts.proofs.Ends.{alive_goes, all_done, below_next}
use Rattle.thread_scripts.proofs.finishing.lowest_alive.Goals as goal

pub loop-t-preserved : goal.loop-t-preserved
loop-t-preserved c = λ u l. below_next (λ (k : ℕ). (thread_at (heap_of c.args.world.now) k).ended ≡ true) c.loop-t.t u c.loop-t.invariant
    (sym c.has_ended.ensures ∙ c.if-not-has_ended.false) l

pub returns-then-not-has_ended : goal.returns-then-not-has_ended
returns-then-not-has_ended c = alive_goes c.args.world.now c.loop-t.t (omega arith) (sym c.has_ended.ensures ∙ c.if-not-has_ended.true) c.requires

pub returns : goal.returns
returns c = all_done c.args.world.now c.history-history.ensures.well_formed (λ t l. c.loop-t.invariant t (omega arith))
