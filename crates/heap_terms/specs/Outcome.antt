-- What a command comes to: its answer and the heap after it, but for the thread's place in its script. The answers and
-- the order of the refusals are this project's own. Nothing is left free: the heap and the command decide both.
use Rattle.std.specs.Prelude.{ℕ, List, length, Option, Some, None, if◌then◌else◌, nat_lt, slice_index_or}
use Rattle.heap_terms.specs.declared.answers.Answer.{Answer}
use Rattle.heap_terms.specs.declared.answers.Answer.TheVariants.{Done, Refused}
use Rattle.heap_terms.specs.declared.answers.Refusal.{Refusal}
use Rattle.heap_terms.specs.declared.answers.Refusal.TheVariants.{NotType, OutOfRange}
use Rattle.heap_terms.specs.Heap.{NamedHeap}

-- an answer, and the heap that it leaves
pub record Outcome : Type 0 where
  pub answer : Answer
  pub heap : NamedHeap

-- the command is done, and the heap is this
abbrev pub done : NamedHeap → Outcome
done a = record { answer = Done; heap = a }

-- the command has this answer, and leaves this heap
abbrev pub answering : Answer → NamedHeap → Outcome
answering answer a = record { answer = answer; heap = a }

-- a refusal changes nothing
abbrev pub refused : Refusal → NamedHeap → Outcome
refused why a = record { answer = Refused why; heap = a }

-- `!type` where there is not what the command needs
abbrev pub needing : {A : Type 0} → Option A → NamedHeap → (A → Outcome) → Outcome
needing None a go = refused NotType a
needing (Some x) a go = go x

-- `!range` where a list has no place i
abbrev pub indexing : {A : Type 0} → List A → ℕ → A → NamedHeap → (A → Outcome) → Outcome
indexing xs i default a go = if nat_lt i (length xs) then go (slice_index_or xs i default) else refused OutOfRange a
