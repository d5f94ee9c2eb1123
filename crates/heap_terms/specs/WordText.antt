-- The text of a run with its word steps: the lines of the journal, and between them a line for each word step. The form
-- is this project's own.
use Rattle.std.specs.Prelude.{ℕ, List, [], ◌++◌, length, flat_map, slice_get, Option, Some, None, codes, decimal}
use Rattle.heap_terms.specs.declared.events.Event.{Event}
use Rattle.heap_terms.specs.declared.steps.ReplayLine.{ReplayLine}
use Rattle.heap_terms.specs.declared.steps.ReplayLine.TheVariants as replay_lines
use Rattle.heap_terms.specs.declared.steps.StepAnswer.{StepAnswer}
use Rattle.heap_terms.specs.declared.steps.StepAnswer.TheVariants.{Went, Inside, StopFound, Taken, NotYet}
use Rattle.heap_terms.specs.declared.steps.WordStep.{WordStep}
use Rattle.heap_terms.specs.declared.steps.WordStep.TheVariants.{Resume, Enter, Leave, Park, Claim, Post, Look, Release, Return}
use Rattle.heap_terms.specs.Text.{line, number_field, event_text}

-- the word of a step, and the thread that it is done to
abbrev pub step_text : WordStep → List ℕ
step_text Resume = codes "resume"
step_text Enter = codes "enter"
step_text Leave = codes "leave"
step_text Park = codes "park"
step_text Claim = codes "claim"
step_text (Post u) = codes "post" ++ number_field u
step_text (Look u) = codes "look" ++ number_field u
step_text (Release u) = codes "release" ++ number_field u
step_text Return = codes "return"

-- what a step found, after its word; one that waits has no line
abbrev pub found_text : StepAnswer → List ℕ
found_text Went = []
found_text Inside = codes " inside"
found_text StopFound = codes " stop"
found_text (Taken holder) = codes " taken" ++ number_field holder
found_text NotYet = []

-- the line of a word step of thread t
abbrev pub word_text : ℕ → WordStep → StepAnswer → List ℕ
word_text t step found = line (decimal t ++ codes " : " ++ step_text step ++ found_text found)

-- the lines of an event that is there
abbrev pub event_there : Option Event → List ℕ
event_there None = []
event_there (Some event) = event_text event

-- a line of a run: a word step, or the event of that number of the history
unfoldable pub replay_line_text : List Event → ReplayLine → List ℕ
replay_line_text h (replay_lines.Word w) = word_text w.thread w.step w.answer
replay_line_text h (replay_lines.Event number) = event_there (slice_get h number)

-- a run of this history with its word steps, and how many events there are
abbrev pub run_text : List Event → List ReplayLine → List ℕ
run_text h lines = flat_map (replay_line_text h) lines ++ line (codes "done" ++ number_field (length h))
