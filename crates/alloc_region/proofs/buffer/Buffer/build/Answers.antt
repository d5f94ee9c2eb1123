use Rattle.std.proofs.Common.{ap, ◌∙◌, List, ℕ}
use Rattle.alloc_region.specs.View.{BufferView}
use Rattle.alloc_region.proofs.Fresh.{spelling-plain}
use Rattle.alloc_region.proofs.buffer.Buffer.build.Goals as goal

pub returns-in-Vector : goal.returns-in-Vector
returns-in-Vector c =
    let with_built : List ℕ → BufferView = λ ws. record { built = ws; room = c.args.self.now.room } in
    c.build_even.ensures ∙ ap with_built (spelling-plain _ _ _ c.requires.buildable c.in-Vector.is)
