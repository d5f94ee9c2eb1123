-- What the program writes for the words of the generator.
use Rattle.std.specs.Prelude.{◌≡◌, ℕ, ◌⊎◌, List, Option, Some, None, Bool, true, false, is_some}
use Rattle.command_words.specs.Forms.{Generate, wanted}
use Rattle.heap_terms.specs.declared.events.Event.{Event}
use Rattle.heap_terms.specs.declared.programs.Program.{Program}
use Rattle.heap_terms.specs.declared.steps.ReplayLine.{ReplayLine}
use Rattle.heap_terms.specs.Complete.{IsComplete}
use Rattle.heap_terms.specs.Generated.{generated}
use Rattle.heap_terms.specs.Runs.{IsRun}
use Rattle.heap_terms.specs.ScriptPrinting.{program_text}
use Rattle.heap_terms.specs.Summary.{summary_text}
use Rattle.lispheap.specs.declared.faults.Fault.{Fault}
use Rattle.lispheap.specs.declared.faults.Fault.TheVariants as faults
use Rattle.lispheap.specs.Streams.{Change, Failed, IsUntouched, SaysAll, StopsWithin}

-- the words are a form of the generator
abbrev pub IsGenerate : List (List ℕ) → Type 0
IsGenerate words = is_some (wanted words) ≡ true

-- The text is the summary of one complete history of a program, which is what the program's schedule does.
pub record IsSummaryOf (p : Program) (text : List ℕ) : Type 0 where
  pub lines : List ReplayLine
  pub history : List Event
  pub run : IsRun p lines history
  pub complete : IsComplete p history
  pub summary : text ≡ summary_text p history

-- the text for a seed: the printed script, or the summary of its run
abbrev pub IsTextOf : Bool → ℕ → List ℕ → Type 0
IsTextOf true seed text = text ≡ program_text (generated seed)
IsTextOf false seed text = IsSummaryOf (generated seed) text

-- the text is what the words ask for
pub record IsGenerated (words : List (List ℕ)) (text : List ℕ) : Type 0 where
  pub asked : Generate
  pub words_ask : wanted words ≡ Some asked
  pub made : IsTextOf asked.script asked.seed text

-- it was appended, all of it
pub record WritesGenerated (words : List (List ℕ)) (out : Change) : Type 0 where
  pub text : List ℕ
  pub generated : IsGenerated words text
  pub written : SaysAll text out

-- the output stopped within it
pub record StopsGenerated (words : List (List ℕ)) (out : Change) : Type 0 where
  pub text : List ℕ
  pub generated : IsGenerated words text
  pub written : StopsWithin text out

-- how the generator ended, by what went wrong, if anything
abbrev pub Generates : List (List ℕ) → Option Fault → Change → Type 0
Generates words None out = WritesGenerated words out
Generates words (Some faults.Usage) out = ⊥
Generates words (Some (faults.Line n why)) out = ⊥
Generates words (Some faults.Read) out = ⊥
Generates words (Some faults.Write) out = StopsGenerated words out
Generates words (Some faults.TooLong) out = ⊥
Generates words (Some (faults.Limit kind)) out = ⊥
Generates words (Some faults.Memory) out = IsGenerate words × IsUntouched out

-- What a call with words of the generator leaves: nothing was taken from the source, and the status is 0, 5 or 7; where
-- the output did not fail, it is 0, or memory ran out.
pub record EndsGenerating (source out : Change) (status : ℕ) : Type 0 where
  pub unread : IsUntouched source
  pub status_is : (status ≡ 0) ⊎ (status ≡ 5) ⊎ (status ≡ 7)
  pub exact : (¬ Failed out) → (status ≡ 0) ⊎ (status ≡ 7)
