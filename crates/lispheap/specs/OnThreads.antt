-- What the call does that may wait: the form of words that runs a script on threads. This project's own.
use Rattle.std.specs.Prelude.{◌≡◌, ℕ, ◌⊎◌, List, [], ◌∷◌, Option, Some, Ok, codes}
use Rattle.heap_terms.specs.declared.events.Event.{Event}
use Rattle.heap_terms.specs.declared.programs.Program.{Program}
use Rattle.heap_terms.specs.Complete.{IsComplete}
use Rattle.heap_terms.specs.ScriptReading.{read_script}
use Rattle.heap_terms.specs.Text.{journal_text}
use Rattle.lispheap.specs.declared.faults.Fault.{Fault}
use Rattle.lispheap.specs.Answers.{Change, Failed, Replays, Reports, status_for}
use Rattle.lispheap.specs.Texts.{status_of}

-- the words are the form that runs a script on threads
abbrev pub IsRun : List (List ℕ) → Type 0
IsRun words = words ≡ codes "run" ∷ []

-- The text is the journal of some complete history of a program. Which one it is the threads decide.
pub record IsSomeJournalOf (p : Program) (text : List ℕ) : Type 0 where
  pub history : List Event
  pub complete : IsComplete p history
  pub journal : text ≡ journal_text history

-- The bytes are read as a program, and the text is the journal of some complete history of it.
pub record IsSomeJournal (bytes text : List ℕ) : Type 0 where
  pub program : Program
  pub read : read_script bytes ≡ Ok program
  pub some : IsSomeJournalOf program text

-- What a run on threads answers: something went wrong or nothing did, and that tells the status, what was taken and
-- written, and what was said.
pub record AnswersRun (source out err : Change) (status : ℕ) : Type 0 where
  pub fault : Option Fault
  pub ended : status ≡ status_of fault
  pub ran : Replays IsSomeJournal fault source out
  pub reports : Reports fault err

-- Where the source tells its bytes, and neither it nor the output failed, the status is that of the bytes, or memory
-- ran out.
abbrev pub IsExactRun : Change → Change → ℕ → Type 0
IsExactRun source out status =
    (bytes : List ℕ) → source.old.contents ≡ Some bytes → (¬ Failed source) → (¬ Failed out)
    → (status ≡ status_for bytes) ⊎ (status ≡ 7)
