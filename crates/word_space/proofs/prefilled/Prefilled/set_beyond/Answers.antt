use Rattle.std.proofs.Common.{set, ap, ◌∙◌, arith}
use Rattle.word_space.proofs.Filling.{filled_more, set_filled}
use Rattle.word_space.proofs.prefilled.Prefilled.set_beyond.Goals as goal

pub returns : goal.returns
returns g c =
    let kept = c.fill_up.new.kept.items in
    set_filled kept c.self.inside.len c.self.inside.blank c.args.i c.args.value (omega (arith, c.fill_up.ensures.least))
    ∙ ap (λ k. set k c.args.i c.args.value)
    (filled_more c.self.inside.kept.items kept c.self.inside.len c.self.inside.blank c.fill_up.ensures.items c.fill_up.ensures.more c.fill_up.ensures.most
    ∙ c.self.view_is)
