-- The elements are written into what is kept.
use Rattle.std.proofs.Common.{◌+◌, ◌≤◌, length, ap, sym, ◌∙◌, arith}
use Rattle.std.proofs.lemmas.List.{with_items_is}
use Rattle.word_space.specs.Space.{filled, written}
use Rattle.word_space.proofs.Filling.{filled_more, put_written, written_filled, length_written}
use Rattle.word_space.proofs.prefilled.Prefilled.write_all.Goals as goal

pub returns-clause-items : goal.returns-clause-items
returns-clause-items g c =
    let kept = c.fill_up.new.kept.items in
    let part = c.deref_mut.result.now in
    let at = c.args.at in
    let values = c.args.values.now in
    let within : at + length values ≤ length kept = omega (arith, c.fill_up.ensures.least) in
    let in_part : at + length values ≤ length part = omega (arith, within, ap length c.deref_mut.ensures.value) in
    let now = put_written part at c.copy_from_slice.new.self values c.copy_from_slice.ensures.after in
    ap (λ k. filled k c.self.inside.len c.self.inside.blank)
    (with_items_is c.fill_up.new.kept _ (ap (λ k. length k) now ∙ length_written part at values in_part ∙ c.deref_mut.ensures.len)
    ∙ now ∙ ap (λ k. written k at values) c.deref_mut.ensures.value)
    ∙ written_filled kept c.self.inside.len c.self.inside.blank at values within
    ∙ ap (λ k. written k at values)
    (filled_more c.self.inside.kept.items kept c.self.inside.len c.self.inside.blank c.fill_up.ensures.items c.fill_up.ensures.more c.fill_up.ensures.most
    ∙ c.self.view_is)

pub returns-clause-len : goal.returns-clause-len
returns-clause-len g c =
    ap (λ k. length k) (returns-clause-items g c) ∙ length_written c.args.self.now c.args.at c.args.values.now c.requires
