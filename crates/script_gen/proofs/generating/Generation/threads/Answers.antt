use Rattle.std.proofs.Common.{rules, refl}
use Rattle.script_gen.specs.Drawing.{progress_of}
use Rattle.script_gen.proofs.Making.{all_threads, pushed_thread}
use Rattle.script_gen.proofs.generating.Generation.threads.Goals as goal

pub loop-init : goal.loop-init
loop-init c = record { threads = rw c.new-threads.ensures refl; gcs = c.requires }

pub loop-preserved : goal.loop-preserved
loop-preserved c = record {
  threads = pushed_thread 4 c.loop.counter (progress_of c.loop.self) _ c.loop.threads _ _ c.in_ok-commands.field-0 c.loop-test.true c.loop.invariant.threads
      (search rules) (search rules) (search rules);
  gcs = search rules;
}

pub returns : goal.returns
returns c = all_threads 4 c.loop.counter (progress_of c.loop.self) c.loop.threads _ c.loop-test.false c.loop.invariant.threads
