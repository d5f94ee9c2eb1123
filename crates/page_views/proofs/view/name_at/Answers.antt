use Rattle.std.proofs.Common.{◌≡◌, ℕ, ◌+◌, ◌*◌, ◌/◌, ◌<◌, length, Some, refl, sym, ◌∙◌, ap, arith}
use Rattle.std.proofs.lemmas.List.{get_or_default}
use Rattle.page_views.proofs.Viewing.{laid, found_name, none_name}
use Rattle.page_views.proofs.view.name_at.Goals as goal

pub start_at-requires-clause-laid : goal.start_at-requires-clause-laid
start_at-requires-clause-laid g c = laid g.a c.args.space.now c.args.pages.now c.args.labels.now c.requires.0 (c.args.index / 512)

pub returns-in-Some : goal.returns-in-Some
returns-in-Some g c =
    let h = c.requires.0 in
    let f = c.in-Some.found in
    let below : f.index / 2 < length c.args.labels.now = (let here = c.in-Some.ensures.found.here in let index = ap (λ (x : _). x.index) c.in-Some.ensures.found.is in omega (arith, h.labels_long, h.stand.long, c.requires.1)) in
    ap Some (c.at.ensures ∙ get_or_default c.args.labels.now (f.index / 2) c.at.result 0 below)
    ∙ sym (found_name g.a c.args.space.now c.args.pages.now c.args.labels.now h c.args.index f c.in-Some.ensures.found)

pub returns-in-None : goal.returns-in-None
returns-in-None g c =
    sym (none_name g.a c.args.space.now c.args.pages.now c.args.labels.now c.requires.0 c.args.index (c.in-None.ensures.none refl))
