-- The loop filled every page but the last; filling that one gives the pages of the definition.
use Rattle.std.proofs.Common.{◌≡◌, ℕ, ◌+◌, ◌-◌, ◌≤◌, sym, ◌∙◌, subst, arith}
use Rattle.pass_laws.proofs.Sizes.{needs_least}
use Rattle.copy_space.proofs.Filling.{IsFilling, filling-end}
use Rattle.copy_space.proofs.placing.take_filled.Goals as goal

pub returns : goal.returns
returns c =
    let a = c.args in
    let least : 1 ≤ a.k = subst (λ (n : ℕ). 1 ≤ n) (sym c.requires.needs) (needs_least a.size) in
    let inside = c.requires.free.inside in
    let at : c.loop-page.page ≡ a.first + a.k - 1 = omega arith in
    let filling : IsFilling a.pages.now c.loop-page.pages a.ty a.first a.k (a.first + a.k - 1) =
    subst (λ (p : ℕ). IsFilling a.pages.now c.loop-page.pages a.ty a.first a.k p) at c.loop-page.invariant in
    c.set_fill-2.ensures ∙ filling-end a.pages.now c.loop-page.pages a.ty a.first a.k a.size least inside filling
