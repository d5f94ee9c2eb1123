use Rattle.std.proofs.Common.{◌+◌, ◌*◌, ◌∙◌, arith}
use Rattle.heap_terms.specs.declared.kinds.Kind.TheVariants as kinds
use Rattle.eq_index.proofs.tables.capacity.Goals as goal

pub unreachable-requires : goal.unreachable-requires
unreachable-requires c =
    let t = c.requires.is in
    let found = c.read_header.ensures.only kinds.Table (3 + 4 * c.requires.b) (record { headed = λ e. absurd cc; below = omega (arith, t.most); word_is = c.read.ensures ∙ t.header }) in
    absurd cc
