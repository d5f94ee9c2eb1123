-- The text of one line.
use Rattle.std.specs.Prelude.{ℕ, List, ◌++◌, codes, decimal}
use Rattle.heap_terms.specs.Text.{event_text, field, index_text, line, name_text, number_field, placing_text, value_text}
use Rattle.journal_text.specs.declared.parsing.pieces.Piece.{Piece}
use Rattle.journal_text.specs.declared.parsing.pieces.Piece.TheVariants as pieces

abbrev pub piece_text : Piece → List ℕ
piece_text (pieces.Event e) = event_text e
piece_text (pieces.Collect t last) = line (decimal t ++ codes " collect" ++ number_field last)
piece_text (pieces.Pass g target) = line (codes "pass" ++ number_field g ++ number_field target)
piece_text (pieces.Move m) = line (placing_text m.name m.old m.new)
piece_text (pieces.Pin q) = line (codes "pin" ++ field (name_text q.name) ++ field (index_text q.index))
piece_text (pieces.Cull k) = line (codes "cull" ++ field (name_text k.table) ++ field (value_text k.key) ++ field (value_text k.value))
piece_text (pieces.Break name) = line (codes "break" ++ field (name_text name))
piece_text (pieces.Queue id) = line (codes "queue" ++ number_field id)
piece_text (pieces.Free page) = line (codes "free" ++ number_field page)
piece_text (pieces.Swept dead kept) = line (codes "swept" ++ number_field dead ++ number_field kept)
piece_text (pieces.Done n) = line (codes "done" ++ number_field n)
