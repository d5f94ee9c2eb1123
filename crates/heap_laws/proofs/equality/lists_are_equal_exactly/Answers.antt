use Rattle.std.proofs.Common.{◌≡◌, sym, ◌∙◌}
use Rattle.std.specs.Cmp.Lexicographic.{pointwise, pointwise_decides}
use Rattle.heap_laws.proofs.equality.lists_are_equal_exactly.Goals as goal

pub returns : goal.returns
returns g c = λ decides.
    let same : c.eq.result ≡ pointwise g.T.PartialEq.eq c.args.list.now c.args.other.now = c.eq.ensures in
    let d = pointwise_decides decides c.args.list.now c.args.other.now in
    (λ told. d.0 (sym same ∙ told), λ is. same ∙ d.1 is)
