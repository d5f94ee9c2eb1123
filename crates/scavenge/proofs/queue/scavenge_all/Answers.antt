-- The pins are scanned, and then the moves.
use Rattle.std.proofs.Common.{length, sym, ◌∙◌, ap}
use Rattle.copy_space.specs.State.{state}
use Rattle.scavenge.proofs.Frames.{scans-on}
use Rattle.scavenge.proofs.NotedStarts.{notes-over}
use Rattle.scavenge.proofs.QueueLaws.{all-scanned}
use Rattle.scavenge.proofs.queue.scavenge_all.Goals as goal

pub returns-clause-scans : goal.returns-clause-scans
returns-clause-scans g c =
    scans-on g.a (state c.args.copier.now) (state c.scan_pins-done.new.copier) (state c.scan_moves.new.copier) c.scan_pins-done.ensures.scans c.scan_moves.ensures.scans

pub returns-clause-all : goal.returns-clause-all
returns-clause-all g c =
    all-scanned g.a (state c.scan_moves.new.copier) c.scan_moves.new.weak.listed c.scan_moves.result c.scan_moves.ensures.scans.midway c.scan_moves.ensures.scanned
    (record {
      pins = c.scan_moves.ensures.pins ∙ c.scan_pins-done.ensures.pins ∙ ap length (sym c.scan_moves.ensures.scans.follows.grows.pins);
      moves = c.scan_moves.ensures.moves;
    })

pub returns-clause-noting : goal.returns-clause-noting
returns-clause-noting g c =
    notes-over g.a (state c.scan_pins-done.new.copier) (state c.scan_moves.new.copier) c.args.weak.now c.scan_pins-done.new.weak c.scan_moves.new.weak c.scan_pins-done.ensures.noting c.scan_moves.ensures.noting
