use Rattle.journal_text.specs.AnswerReading.{a_filling, filling_text}
use Rattle.journal_text.proofs.Words.{found, first_found, filling_again}
use Rattle.journal_text.proofs.parsing.cursor.Fields.filling.Goals as goal

pub returns : goal.returns
returns c =
    first_found a_filling c.in_ok-field.field.now c.args.self.now c.next.new.self c.filling_word.result c.in_ok-field.ensures
    (found a_filling filling_text filling_again c.in_ok-field.field.now c.filling_word.result c.filling_word.ensures)
