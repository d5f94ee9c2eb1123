use Rattle.std.proofs.Common.{◌≡◌, ◌≤◌, ◌-◌, ◌++◌}
use Rattle.heap_terms.specs.Generated.{threads_from}
use Rattle.script_gen.specs.Drawing.{progress_of}
use Rattle.script_gen.proofs.generating.Generation.threads.Given as goal

abbrev pub invariant-loop : goal.invariant-loop
invariant-loop l = record {
  threads : l.threads ++ threads_from (4 - l.counter) (progress_of l.self) ≡ threads_from 4 (progress_of l.fn.self);
  gcs : l.self.gcs ≤ 16;
}
