use Rattle.journal_text.specs.declared.parsing.pieces.Piece.TheVariants as pieces
use Rattle.journal_text.proofs.PlainLines.{piece_stops, piece_took}
use Rattle.journal_text.proofs.parsing.reader.Reader.take_move.Goals as goal

pub returns-in-Ok-clause-taken : goal.returns-in-Ok-clause-taken
returns-in-Ok-clause-taken c =
    piece_took c.args.self.now c.moved-2.new.self c.args.bytes.now c.in-Some.after.now (pieces.Move c.in-Some.placing) c.in-Some.ensures.text c.in-Some.ensures.within c.in-Ok.ensures

pub returns-in-Err-clause-stopped : goal.returns-in-Err-clause-stopped
returns-in-Err-clause-stopped c =
    piece_stops c.args.self.now c.moved-2.new.self c.args.bytes.now c.in-Some.after.now (pieces.Move c.in-Some.placing) c.in-Err.fault c.in-Some.ensures.text c.in-Some.ensures.within c.in-Err.ensures
