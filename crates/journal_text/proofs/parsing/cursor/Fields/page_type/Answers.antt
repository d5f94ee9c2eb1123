use Rattle.heap_terms.specs.Text.{type_text}
use Rattle.journal_text.specs.FieldReading.{a_type}
use Rattle.journal_text.proofs.Words.{found, first_found, type_again}
use Rattle.journal_text.proofs.parsing.cursor.Fields.page_type.Goals as goal

pub returns : goal.returns
returns c =
    first_found a_type c.in_ok-field.field.now c.args.self.now c.next.new.self c.page_type.result c.in_ok-field.ensures
    (found a_type type_text type_again c.in_ok-field.field.now c.page_type.result c.page_type.ensures)
