use Rattle.std.proofs.Common.{ℕ, ◌≤◌, sym, subst}
use Rattle.pass_laws.proofs.AfterPass.{pass_sound}
use Rattle.pass_laws.proofs.passes.passes_keep_sound.Goals as goal

pub returns : goal.returns
returns c = λ a g h r sound pass high. pass_sound a g h r sound pass (subst (λ (n : ℕ). n ≤ 6) (sym pass.target) high)
