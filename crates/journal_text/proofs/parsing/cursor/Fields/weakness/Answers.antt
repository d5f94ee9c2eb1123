use Rattle.heap_terms.specs.Text.{weakness_text}
use Rattle.journal_text.specs.FieldReading.{a_weakness}
use Rattle.journal_text.proofs.Words.{found, first_found, weakness_again}
use Rattle.journal_text.proofs.parsing.cursor.Fields.weakness.Goals as goal

pub returns : goal.returns
returns c =
    first_found a_weakness c.in_ok-field.field.now c.args.self.now c.next.new.self c.weakness.result c.in_ok-field.ensures
    (found a_weakness weakness_text weakness_again c.in_ok-field.field.now c.weakness.result c.weakness.ensures)
