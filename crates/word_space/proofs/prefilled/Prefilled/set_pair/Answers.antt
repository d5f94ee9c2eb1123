use Rattle.std.proofs.Common.{◌+◌, ◌<◌, length, length-set, set, ap, ◌∙◌, arith}
use Rattle.word_space.proofs.Filling.{set_filled}
use Rattle.word_space.proofs.prefilled.Prefilled.set_pair.Goals as goal

pub returns-then-i-len : goal.returns-then-i-len
returns-then-i-len g c =
    let kept = c.self.inside.kept.items in
    let inside : c.args.i + 1 < length (set kept c.args.i c.args.first) = omega (arith, length-set kept c.args.i c.args.first) in
    set_filled (set kept c.args.i c.args.first) c.self.inside.len c.self.inside.blank (c.args.i + 1) c.args.second inside
    ∙ ap (λ k. set k (c.args.i + 1) c.args.second)
    (set_filled kept c.self.inside.len c.self.inside.blank c.args.i c.args.first (omega arith) ∙ ap (λ k. set k c.args.i c.args.first) c.self.view_is)
