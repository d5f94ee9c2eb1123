-- One piece more of a page is scanned.
use Rattle.std.proofs.Common.{arith}
use Rattle.copy_space.specs.State.{state}
use Rattle.scavenge.proofs.Frames.{scans-same, scans-on, same-self, same-on}
use Rattle.scavenge.proofs.NotedStarts.{notes-none, notes-over}
use Rattle.scavenge.proofs.OlderPages.{page-edge, pieces-on}
use Rattle.scavenge.proofs.older.scan_pieces.Goals as goal

pub loop-index-init : goal.loop-index-init
loop-index-init g c = record {
  scans = scans-same g.a (state c.args.copier.now) c.requires.0.midway;
  from = omega arith;
  edge = page-edge g.a (state c.args.copier.now) c.args.page c.args.words c.requires.0;
  scanned = λ name o there low high. absurd (omega arith);
  noting = notes-none g.a (state c.args.copier.now) c.args.weak.now c.requires.1;
  same = same-self c.args.copier.now;
}

pub loop-index-preserved : goal.loop-index-preserved
loop-index-preserved g c =
    let s = state c.args.copier.now in
    let t = state c.loop-index.copier in
    let u = state c.scan_piece-index.new.copier in
    let i = c.loop-index.invariant in
    let piece = c.scan_piece-index.ensures.piece in
    record {
      scans = scans-on g.a s t u i.scans c.scan_piece-index.ensures.scans;
      from = (let from = i.from in let more = piece.more in omega arith);
      edge = λ below. piece.edge;
      scanned = pieces-on g.a s c.args.page c.args.words c.requires.0 t i.scans c.loop-index.index i.from c.loop-index-test.true u c.loop-index.weak.listed
          c.scan_piece-index.new.weak.listed c.scan_piece-index.result c.scan_piece-index.ensures.scans c.scan_piece-index.ensures.noting.stays i.scanned piece;
      noting = notes-over g.a t u c.args.weak.now c.loop-index.weak c.scan_piece-index.new.weak i.noting c.scan_piece-index.ensures.noting;
      same = same-on c.args.copier.now c.loop-index.copier c.scan_piece-index.new.copier i.same c.scan_piece-index.ensures.same;
    }

pub returns-clause-scanned : goal.returns-clause-scanned
returns-clause-scanned g c = λ name o there low high. c.loop-index.invariant.scanned name o there low (let past = c.loop-index-test.false in omega arith)
