-- One move more is cleared.
use Rattle.std.proofs.Common.{ℕ, ◌/◌, ◌<◌, length, get_or, ◌∙◌, refl, arith}
use Rattle.std.proofs.lemmas.List.{length-set}
use Rattle.copy_space.specs.declared.marks.Mark.TheVariants.{Fresh}
use Rattle.copy_space.specs.declared.notes.Move.{Move}
use Rattle.copy_space.proofs.Marking.{cleared-more}
use Rattle.copy_space.proofs.marks.clear_moves.Goals as goal

pub loop-m-preserved : goal.loop-m-preserved
loop-m-preserved c =
    let moves = c.args.moves.now in
    let i = c.loop-m.m-index in
    let none : Move = record { old = 0; new = 0 } in
    let old : ℕ = (get_or moves i none).old in
    let its = c.requires i none c.loop-m-test.true in
    let within : old / 2 < length c.loop-m.marks = omega (arith, c.loop-m.invariant.long, its.inside) in
    rw c.set.ensures (record {
      long = length-set c.loop-m.marks (old / 2) Fresh ∙ c.loop-m.invariant.long;
      marked = cleared-more c.args.marks.now c.loop-m.marks moves i old c.loop-m-test.true refl its.even within c.loop-m.invariant.marked;
    })
