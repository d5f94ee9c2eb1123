-- Where nothing can be hit, none is pinned.
use Rattle.std.proofs.Common.{◌≡◌, ◌++◌, List, [], map, sym, ◌∙◌, ap}
use Rattle.std.proofs.lemmas.List.{append-nil}
use Rattle.object_walk.specs.Walks.{found_at}
use Rattle.ambiguous_roots.specs.Pinning.{referred}
use Rattle.ambiguous_roots.proofs.ConsPages.{unhinted-unreferred}
use Rattle.ambiguous_roots.proofs.pins.pin_page.Goals as goal

pub returns-in-Some-clause-pins : goal.returns-in-Some-clause-pins
returns-in-Some-clause-pins c = λ starts on.
    (let none : referred c.args.ambiguous.now (map found_at starts) ≡ [] =
    unhinted-unreferred c.args.ambiguous.now c.args.hints.now c.args.pins.now starts (c.requires.can starts on) (c.in-Some.ensures.unhinted starts on) in
    sym (append-nil c.args.pins.now.listed) ∙ ap (λ (xs : List _). c.args.pins.now.listed ++ xs) (sym none))
