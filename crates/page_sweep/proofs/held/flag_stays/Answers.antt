-- One move more has its flag, or none where it is no stay.
use Rattle.std.proofs.Common.{◌/◌, ◌<◌, length, get_or, refl, ◌∙◌, arith}
use Rattle.std.proofs.lemmas.List.{length-set}
use Rattle.copy_space.specs.declared.notes.Move.{Move}
use Rattle.page_sweep.proofs.Flagged.{stay-flagged, move-not_flagged}
use Rattle.page_sweep.proofs.held.flag_stays.Goals as goal
use Rattle.page_sweep.proofs.held.flag_stays.Goals.{then-m, else-m}

pub loop-m-preserved : goal.loop-m-preserved
loop-m-preserved c =
    let first : Move = record { old = 0; new = 0 } in
    let m : Move = get_or c.args.moves.now c.loop-m.m-index first in
    let inside = c.loop-m-test.true in
    let within : m.old / 512 < length c.loop-m.held = omega (arith, c.loop-m.invariant.long, c.requires c.loop-m.m-index first inside) in
    elim c.if-m.branch [
      | then-m w ↦ rw (w.held-is, w.set.ensures) (record {
        long = length-set c.loop-m.held (m.old / 512) c.args.flag ∙ c.loop-m.invariant.long;
        flagged = stay-flagged c.args.flag c.args.held.now c.loop-m.held c.args.moves.now c.loop-m.m-index m inside refl w.if-m.true within c.loop-m.invariant.flagged;
      })
      | else-m w ↦ rw w.held-is (record {
        long = c.loop-m.invariant.long;
        flagged = move-not_flagged c.args.flag c.args.held.now c.loop-m.held c.args.moves.now c.loop-m.m-index m inside refl w.if-m.false c.loop-m.invariant.flagged;
      })
    ]
