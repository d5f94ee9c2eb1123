use Rattle.lispheap.proofs.Ending.{exact_of, generator_of, usage_of}
use Rattle.lispheap.proofs.still.lispheap_still.Goals as goal

pub returns-clause-usage : goal.returns-clause-usage
returns-clause-usage g c = usage_of _ _ _ _ _ c.answer.ensures

pub returns-clause-exact : goal.returns-clause-exact
returns-clause-exact g c = exact_of _ _ _ _ _ c.answer.ensures

pub returns-clause-generator : goal.returns-clause-generator
returns-clause-generator g c = generator_of _ _ _ _ _ c.answer.ensures
