use Rattle.pass_laws.proofs.FreeRuns.{lowest_is, lowest_none}
use Rattle.pass_laws.proofs.passes.runs_are_lowest.Goals as goal

pub returns : goal.returns
returns c = λ pages k least. (λ first e. lowest_is pages k first least e, lowest_none pages k least)
