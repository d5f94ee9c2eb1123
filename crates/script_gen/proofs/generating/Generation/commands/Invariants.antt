use Rattle.std.proofs.Common.{◌≡◌, ◌≤◌, ◌-◌, ◌++◌}
use Rattle.heap_terms.specs.Generated.{commands_from, progress_after}
use Rattle.script_gen.specs.Drawing.{progress_of}
use Rattle.script_gen.proofs.generating.Generation.commands.Given as goal

abbrev pub invariant-loop : goal.invariant-loop
invariant-loop l = record {
  commands : l.commands ++ commands_from (400 - l.counter) (progress_of l.self) ≡ commands_from 400 (progress_of l.fn.self);
  progress : progress_after (400 - l.counter) (progress_of l.self) ≡ progress_after 400 (progress_of l.fn.self);
  gcs : l.self.gcs ≤ 16;
}
