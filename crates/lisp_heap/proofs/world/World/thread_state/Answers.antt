-- The open pages and the open run of a thread's state are pages.
use Rattle.std.proofs.Common.{arith}
use Rattle.lisp_heap.proofs.PageReading.{state_seen, pages_in, run_in}
use Rattle.lisp_heap.proofs.world.World.thread_state.Goals as goal

pub returns-then-t-len-clause-pages : goal.returns-then-t-len-clause-pages
returns-then-t-len-clause-pages c = λ ty. (
    let s = c.self.inside in
    let w = c.args.self.now in
    let is = state_seen s w c.self.invariant c.self.view_is c.args.t c.at.result (omega arith) c.at.ensures in
    pages_in s w c.self.invariant c.self.view_is c.args.t c.at.result ty is)

pub returns-then-t-len-clause-run : goal.returns-then-t-len-clause-run
returns-then-t-len-clause-run c =
    let s = c.self.inside in
    let w = c.args.self.now in
    let is = state_seen s w c.self.invariant c.self.view_is c.args.t c.at.result (omega arith) c.at.ensures in
    run_in s w c.self.invariant c.self.view_is c.args.t c.at.result is
