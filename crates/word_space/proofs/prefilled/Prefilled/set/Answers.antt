use Rattle.std.proofs.Common.{set, ap, ◌∙◌, arith}
use Rattle.word_space.proofs.Filling.{set_filled}
use Rattle.word_space.proofs.prefilled.Prefilled.set.Goals as goal

pub returns-then-i-len : goal.returns-then-i-len
returns-then-i-len g c =
    set_filled c.self.inside.kept.items c.self.inside.len c.self.inside.blank c.args.i c.args.value (omega arith)
    ∙ ap (λ k. set k c.args.i c.args.value) c.self.view_is
