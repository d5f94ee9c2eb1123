use Rattle.std.proofs.Common.{sym, ◌∙◌, arith}
use Rattle.thread_scripts.proofs.Ends.{alive_goes, calm_goes}
use Rattle.lispheap.proofs.tests.threads.may_go.Goals as goal

pub returns-then-is_due : goal.returns-then-is_due
returns-then-is_due c = λ yes. alive_goes c.args.world.now c.args.t (omega arith) (sym c.has_ended.ensures ∙ c.if-has_ended.false) (c.none_inhibits.ensures yes)

pub returns : goal.returns
returns c = λ yes. calm_goes c.args.world.now c.args.t (omega arith) (sym c.has_ended.ensures ∙ c.if-has_ended.false) (sym c.is_due.ensures ∙ c.if-is_due.false)
