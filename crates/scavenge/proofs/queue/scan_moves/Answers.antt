-- One move more is scanned.
use Rattle.std.proofs.Common.{◌≡◌, ◌<◌, ◌+◌, length, get_or, refl, sym, subst, arith}
use Rattle.copy_space.specs.declared.notes.Move.{Move}
use Rattle.copy_space.specs.State.{state}
use Rattle.scavenge.specs.Fields.{CanScanObject, IsObjectScanned}
use Rattle.scavenge.proofs.Frames.{scans-on, same-on}
use Rattle.scavenge.proofs.NotedStarts.{notes-over}
use Rattle.scavenge.proofs.QueueLaws.{move-can, move-scanned}
use Rattle.scavenge.proofs.queue.scan_moves.Goals as goal

pub scan_object-requires : goal.scan_object-requires
scan_object-requires g c =
    let s = state c.loop-moves.copier in
    let d = c.index.result.now in
    let is : d ≡ get_or s.moves c.loop-moves.moves d = rw c.notes-in-loop-moves.ensures at c.index.ensures in
    let test = rw (c.len.ensures, c.notes.ensures) at c.loop-moves-test.true in
    let inside : c.loop-moves.moves < length s.moves = omega (arith, test, c.loop-moves.copier.notes.now.moves.ok.0) in
    (subst (λ (m : Move). CanScanObject g.a s m.new) (sym is) (move-can g.a s c.loop-moves.moves d c.loop-moves.invariant.scans.midway inside), c.loop-moves.invariant.noting.can)

pub loop-moves-preserved : goal.loop-moves-preserved
loop-moves-preserved g c =
    let s = state c.loop-moves.copier in
    let t = state c.scan_object.new.copier in
    let d = c.index.result.now in
    let is : d ≡ get_or s.moves c.loop-moves.moves d = rw c.notes-in-loop-moves.ensures at c.index.ensures in
    let test = rw (c.len.ensures, c.notes.ensures) at c.loop-moves-test.true in
    let inside : c.loop-moves.moves < length s.moves = omega (arith, test, c.loop-moves.copier.notes.now.moves.ok.0) in
    let one : IsObjectScanned g.a s t c.scan_object.new.weak.listed (get_or s.moves c.loop-moves.moves d).new =
    subst (λ (m : Move). IsObjectScanned g.a s t c.scan_object.new.weak.listed m.new) is c.scan_object.ensures.scanned in
    record {
      scans = scans-on g.a (state c.args.copier.now) s t c.loop-moves.invariant.scans c.scan_object.ensures.scans;
      scanned = move-scanned g.a s t c.loop-moves.weak.listed c.scan_object.new.weak.listed (record { pins = c.args.done.pins; moves = c.loop-moves.moves }) c.loop-moves.invariant.scans.midway c.scan_object.ensures.scans.follows
          c.scan_object.ensures.noting.stays c.loop-moves.invariant.scanned (record { pins = c.args.done.pins; moves = c.loop-moves.moves + 1 }) d refl refl inside one;
      noting = notes-over g.a s t c.args.weak.now c.loop-moves.weak c.scan_object.new.weak c.loop-moves.invariant.noting c.scan_object.ensures.noting;
      same = same-on c.args.copier.now c.loop-moves.copier c.scan_object.new.copier c.loop-moves.invariant.same c.scan_object.ensures.same;
    }
