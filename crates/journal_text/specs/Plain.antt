-- Lines in their usual spelling, as they stand at the front of the bytes that are left.
use Rattle.std.specs.Prelude.{◌≡◌, ℕ, List, ◌++◌, codes, decimal}
use Rattle.heap_terms.specs.declared.answers.Answer.{Answer}
use Rattle.heap_terms.specs.declared.events.Event.{Event}
use Rattle.heap_terms.specs.declared.events.Event.TheVariants.{Did, Opened, Collected, Ended}
use Rattle.heap_terms.specs.Text.{answer_text, event_text}
use Rattle.journal_text.specs.Ranges.{IsAnswer, IsEvent}

-- an answer behind its arrow, and the LF after it
pub record Answers (bytes : List ℕ) (answer : Answer) (after : List ℕ) : Type 0 where
  pub text : bytes ≡ codes " -> " ++ answer_text answer ++ codes "\n" ++ after
  pub within : IsAnswer answer

-- a command with its answer, within the ranges
abbrev pub IsDeed : Event → Type 0
IsDeed (Did t c answer) = IsEvent (Did t c answer)
IsDeed (Opened t ty first k) = ⊥
IsDeed (Collected t last passes) = ⊥
IsDeed (Ended t) = ⊥

-- a whole line behind the thread's number
pub record Acts (t : ℕ) (bytes : List ℕ) (e : Event) (after : List ℕ) : Type 0 where
  pub text : decimal t ++ bytes ≡ event_text e ++ after
  pub within : IsDeed e
