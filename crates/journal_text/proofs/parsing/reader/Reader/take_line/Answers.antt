use Rattle.journal_text.specs.declared.parsing.pieces.Piece.TheVariants as pieces
use Rattle.journal_text.proofs.PlainLines.{deed_piece, piece_stops, piece_took}
use Rattle.journal_text.proofs.parsing.reader.Reader.take_line.Goals as goal

pub returns-in-Ok-clause-taken : goal.returns-in-Ok-clause-taken
returns-in-Ok-clause-taken c =
    piece_took c.args.self.now c.event-2.new.self c.args.bytes.now c.in-Some.after.now (pieces.Event c.in-Some.event) c.in-Some.ensures.text (deed_piece c.in-Some.event c.in-Some.ensures.within)
    c.in-Ok.ensures

pub returns-in-Err-clause-stopped : goal.returns-in-Err-clause-stopped
returns-in-Err-clause-stopped c =
    piece_stops c.args.self.now c.event-2.new.self c.args.bytes.now c.in-Some.after.now (pieces.Event c.in-Some.event) c.in-Err.fault c.in-Some.ensures.text
    (deed_piece c.in-Some.event c.in-Some.ensures.within) c.in-Err.ensures
