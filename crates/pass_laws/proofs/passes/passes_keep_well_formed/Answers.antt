use Rattle.std.proofs.Common.{ℕ, ◌≤◌, sym, subst}
use Rattle.pass_laws.proofs.AfterRoots.{pass_well_formed}
use Rattle.pass_laws.proofs.passes.passes_keep_well_formed.Goals as goal

pub returns : goal.returns
returns c = λ p a g h r w none pass low. pass_well_formed p a g h r w pass none (subst (λ (n : ℕ). n ≤ 5) (sym pass.target) low)
