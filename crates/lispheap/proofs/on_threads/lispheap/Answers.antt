use Rattle.std.proofs.Common.{map}
use Rattle.std.specs.String.{string_bytes}
use Rattle.lispheap.proofs.Ending.{run_apart}
use Rattle.lispheap.proofs.on_threads.lispheap.Goals as goal

pub returns-then-is_run-clause-generator : goal.returns-then-is_run-clause-generator
returns-then-is_run-clause-generator g c = λ generate. absurd (run_apart (map string_bytes c.args.words.now) (c.is_run.ensures.0 c.if-is_run.true) generate)
