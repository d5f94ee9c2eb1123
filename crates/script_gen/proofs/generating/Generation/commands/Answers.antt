use Rattle.std.proofs.Common.{rules, refl}
use Rattle.script_gen.specs.Drawing.{progress_of}
use Rattle.script_gen.proofs.Making.{all_commands, all_progress, progressed_on, pushed_command}
use Rattle.script_gen.proofs.generating.Generation.commands.Goals as goal

pub loop-init : goal.loop-init
loop-init c = record {
  commands = rw c.new-commands.ensures refl;
  progress = refl;
  gcs = c.requires;
}

pub loop-preserved : goal.loop-preserved
loop-preserved c = record {
  commands = pushed_command 400 c.loop.counter (progress_of c.loop.self) _ c.loop.commands _ _ c.command.result c.loop-test.true c.loop.invariant.commands
      c.command.ensures.command c.command.ensures.progress (search rules);
  progress = progressed_on 400 c.loop.counter (progress_of c.loop.self) _ _ c.loop-test.true c.loop.invariant.progress c.command.ensures.progress;
  gcs = c.command.ensures.gcs;
}

pub returns-clause-commands : goal.returns-clause-commands
returns-clause-commands c = all_commands 400 c.loop.counter (progress_of c.loop.self) c.loop.commands _ c.loop-test.false c.loop.invariant.commands

pub returns-clause-progress : goal.returns-clause-progress
returns-clause-progress c = all_progress 400 c.loop.counter (progress_of c.loop.self) _ c.loop-test.false c.loop.invariant.progress
