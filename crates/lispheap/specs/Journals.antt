-- What the program writes for a script.
use Rattle.std.specs.Prelude.{◌≡◌, ℕ, List, Ok, Bool, true, false}
use Rattle.heap_terms.specs.declared.events.Event.{Event}
use Rattle.heap_terms.specs.declared.programs.Program.{Program}
use Rattle.heap_terms.specs.declared.steps.ReplayLine.{ReplayLine}
use Rattle.heap_terms.specs.Complete.{IsComplete}
use Rattle.heap_terms.specs.ScriptReading.{read_script}
use Rattle.heap_terms.specs.Runs.{IsRun}
use Rattle.heap_terms.specs.Text.{journal_text}
use Rattle.heap_terms.specs.WordText.{run_text}

-- the text of a run: its journal, with or without its word steps
abbrev pub text_of : Bool → List Event → List ReplayLine → List ℕ
text_of true history lines = run_text history lines
text_of false history lines = journal_text history

-- The text is the journal of one complete history of a program, which is what the program's schedule does; with its word
-- steps where they are asked for. That a schedule decides is this project's own.
pub record IsJournalOf (words : Bool) (p : Program) (text : List ℕ) : Type 0 where
  pub lines : List ReplayLine
  pub history : List Event
  pub run : IsRun p lines history
  pub complete : IsComplete p history
  pub journal : text ≡ text_of words history lines

-- The bytes are read as a program, and the text is its journal.
pub record IsJournal (words : Bool) (bytes text : List ℕ) : Type 0 where
  pub program : Program
  pub read : read_script bytes ≡ Ok program
  pub replayed : IsJournalOf words program text
