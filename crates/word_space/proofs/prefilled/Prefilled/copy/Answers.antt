use Rattle.std.proofs.Common.{length, ap, ◌∙◌, arith}
use Rattle.std.proofs.lemmas.List.{with_items_is}
use Rattle.word_space.specs.Space.{copied, filled}
use Rattle.word_space.proofs.Filling.{filled_more, copied_filled, length_copied}
use Rattle.word_space.proofs.prefilled.Prefilled.copy.Goals as goal

-- src/prefilled.rt:106:5
pub returns-clause-items : goal.returns-clause-items
returns-clause-items g c =
    let kept = c.fill_up.new.kept.items in
    ap (λ k. filled k c.self.inside.len c.self.inside.blank)
    (with_items_is c.fill_up.new.kept c.copy_within.new.items (c.copy_within.ensures.len ∙ c.as_mut_slice.ensures.len) ∙ c.copy_within.ensures.items ∙ ap (λ k. copied k c.args.from c.args.to c.args.n) c.as_mut_slice.ensures.value)
    ∙ copied_filled kept c.self.inside.len c.self.inside.blank c.args.from c.args.to c.args.n (omega (arith, c.fill_up.ensures.least)) (omega (arith, c.fill_up.ensures.least))
    ∙ ap (λ k. copied k c.args.from c.args.to c.args.n)
    (filled_more c.self.inside.kept.items kept c.self.inside.len c.self.inside.blank c.fill_up.ensures.items c.fill_up.ensures.more c.fill_up.ensures.most
    ∙ c.self.view_is)

pub returns-clause-len : goal.returns-clause-len
returns-clause-len g c =
    ap (λ k. length k) (returns-clause-items g c) ∙ length_copied c.args.self.now c.args.from c.args.to c.args.n c.requires.from_within c.requires.to_within
