-- One start more has its flag.
use Rattle.std.proofs.Common.{◌/◌, ◌<◌, length, ◌∙◌, arith}
use Rattle.std.proofs.lemmas.List.{length-set}
use Rattle.page_sweep.proofs.Flagged.{pin-flagged}
use Rattle.page_sweep.proofs.held.flag_pins.Goals as goal

pub set-requires : goal.set-requires
set-requires c =
    let inside : c.loop-i.i < length c.args.pins.now.listed = omega arith in
    omega (arith, c.loop-i.invariant.long, c.requires c.loop-i.i 0 inside, c.at.ensures)

pub loop-i-preserved : goal.loop-i-preserved
loop-i-preserved c =
    let inside : c.loop-i.i < length c.args.pins.now.listed = omega arith in
    let within : c.at.result / 512 < length c.loop-i.held = omega (arith, c.loop-i.invariant.long, c.requires c.loop-i.i 0 inside, c.at.ensures) in
    rw c.set.ensures (record {
      long = length-set c.loop-i.held (c.at.result / 512) c.args.flag ∙ c.loop-i.invariant.long;
      flagged = pin-flagged c.args.flag c.args.held.now c.loop-i.held c.args.pins.now.listed c.loop-i.i c.at.result inside c.at.ensures within c.loop-i.invariant.flagged;
    })
