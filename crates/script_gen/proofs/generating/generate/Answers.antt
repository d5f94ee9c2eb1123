use Rattle.std.proofs.Common.{refl}
use Rattle.heap_terms.specs.Generated.{generated}
use Rattle.script_gen.proofs.Validity.{is_valid}
use Rattle.script_gen.proofs.generating.generate.Goals as goal

pub returns-clause-made : goal.returns-clause-made
unfolding generated
returns-clause-made c = rw (c.new.ensures, c.in_ok-threads.ensures) refl

pub returns-clause-valid : goal.returns-clause-valid
unfolding generated
returns-clause-valid c = rw (c.new.ensures, c.in_ok-threads.ensures) (is_valid c.args.seed)
