use Rattle.std.proofs.Common.{arith, refl}
use Rattle.script_gen.specs.Drawing.{progress_of}
use Rattle.script_gen.proofs.Making.{drawn_command, drawn_progress, no_gc, one_gc_more}
use Rattle.script_gen.proofs.generating.Generation.command.Goals as goal

pub returns-in-Collect-clause-command : goal.returns-in-Collect-clause-command
returns-in-Collect-clause-command c =
    drawn_command (progress_of c.args.self.now) _ _ _ _ c.below-number.ensures.drawn c.below-number.ensures.state c.command-command.ensures

pub returns-in-Collect-clause-progress : goal.returns-in-Collect-clause-progress
returns-in-Collect-clause-progress c =
    drawn_progress (progress_of c.args.self.now) _ _ _ _ c.command-command.result c.below-number.ensures.drawn c.below-number.ensures.state c.command-command.ensures
    (rw c.in-Collect.is refl)

pub returns-in-Collect-clause-gcs : goal.returns-in-Collect-clause-gcs
returns-in-Collect-clause-gcs c =
    one_gc_more (progress_of c.args.self.now) _ _ _ _ _ c.requires c.command-command.ensures c.in-Collect.is

pub returns-in_default : goal.returns-in_default
returns-in_default c = record {
  command = drawn_command (progress_of c.args.self.now) _ _ _ _ c.below-number.ensures.drawn c.below-number.ensures.state c.command-command.ensures;
  progress =
      drawn_progress (progress_of c.args.self.now) _ _ _ _ c.command-command.result c.below-number.ensures.drawn c.below-number.ensures.state c.command-command.ensures
      (rw (no_gc c.command-command.result c.in_default.not-Collect) (omega arith));
  gcs = c.requires;
}
