-- The phases of a thread in the word machine: what it does at each of them, and at which it is afterwards. They are this
-- project's own. The tables ask three things of the heap: whether a collection is due for the thread, whether it has
-- ended there, and whether its section goes on after an event.
use Rattle.std.specs.Prelude.{ℕ, ◌+◌, ◌==◌, Bool, true, false, if◌then◌else◌, nat_lt}
use Rattle.heap_terms.specs.declared.pages.Next.{Next}
use Rattle.heap_terms.specs.declared.pages.Next.TheVariants as nexts
use Rattle.heap_terms.specs.declared.phases.Phase.{Phase}
use Rattle.heap_terms.specs.declared.phases.Phase.TheVariants.{Parked, Outside, Inside, Leaving, Parking, Posting, Looking, Collecting, Releasing, Returning, Ended}
use Rattle.heap_terms.specs.declared.phases.Task.{Task}
use Rattle.heap_terms.specs.declared.phases.Task.TheVariants.{Walk, Happen, Rest}
use Rattle.heap_terms.specs.declared.steps.StepAnswer.{StepAnswer}
use Rattle.heap_terms.specs.declared.steps.StepAnswer.TheVariants as answers
use Rattle.heap_terms.specs.declared.steps.WordStep.{WordStep}
use Rattle.heap_terms.specs.declared.steps.WordStep.TheVariants as steps

-- a collection comes next
abbrev pub collects : Next → Bool
collects nexts.Simple = false
collects nexts.Open = false
collects (nexts.Build kind n seed) = false
collects (nexts.Collect last) = true
collects nexts.End = false
collects nexts.Done = false

-- nothing comes next: the thread has had its end
abbrev pub is_over : Next → Bool
is_over nexts.Simple = false
is_over nexts.Open = false
is_over (nexts.Build kind n seed) = false
is_over (nexts.Collect last) = false
is_over nexts.End = false
is_over nexts.Done = true

-- what a thread does at a phase; outside it claims the turn where a collection is due, and else enters a section
abbrev pub task_at : Phase → Bool → Task
task_at Parked due = Walk steps.Resume
task_at Outside due = Walk (if due then steps.Claim else steps.Enter)
task_at Inside due = Happen
task_at Leaving due = Walk steps.Leave
task_at Parking due = Walk steps.Park
task_at (Posting u) due = Walk (steps.Post u)
task_at (Looking u) due = Walk (steps.Look u)
task_at Collecting due = Happen
task_at (Releasing u) due = Walk (steps.Release u)
task_at Returning due = Walk steps.Return
task_at Ended due = Rest

-- a word step went: it found nothing that keeps its thread; one that posts goes whatever it finds
abbrev pub went : StepAnswer → Bool
went answers.Went = true
went answers.Inside = true
went answers.StopFound = false
went (answers.Taken holder) = false
went answers.NotYet = false

-- the lowest thread from u on that is not thread t
abbrev pub other_from : ℕ → ℕ → ℕ
other_from t u = if u == t then u + 1 else u

-- Among n threads, thread t looks at the lowest other one from u on; after the last it collects.
abbrev pub looking_from : ℕ → ℕ → ℕ → Phase
looking_from n t u = if nat_lt (other_from t u) n then Looking (other_from t u) else Collecting

-- it posts to the lowest other one from u on; after the last it looks at them all
abbrev pub posting_from : ℕ → ℕ → ℕ → Phase
posting_from n t u = if nat_lt (other_from t u) n then Posting (other_from t u) else looking_from n t 0

-- it releases the lowest other one from u on; after the last it gives the turn back
abbrev pub releasing_from : ℕ → ℕ → ℕ → Phase
releasing_from n t u = if nat_lt (other_from t u) n then Releasing (other_from t u) else Returning

-- The phase after a word step of thread t, one of n, by whether a collection is due for it, whether it has ended in the
-- heap, and whether the step went. A stop that it finds, or a turn that is taken, makes it park.
abbrev pub walked : ℕ → ℕ → Phase → Bool → Bool → Bool → Phase
walked n t Parked due over went = if went then Outside else Parked
walked n t Outside due over went = if went then (if due then posting_from n t 0 else Inside) else Parking
walked n t Inside due over went = Inside
walked n t Leaving due over went = if went then (if over then Parking else Outside) else Parking
walked n t Parking due over went = if over then Ended else Parked
walked n t (Posting u) due over went = posting_from n t (u + 1)
walked n t (Looking u) due over went = if went then looking_from n t (u + 1) else Looking u
walked n t Collecting due over went = Collecting
walked n t (Releasing u) due over went = releasing_from n t (u + 1)
walked n t Returning due over went = Outside
walked n t Ended due over went = Ended

-- The phase after an event of thread t, by whether its section goes on. Events come inside a section, and a collection
-- where its thread is at Collecting.
abbrev pub happened : ℕ → ℕ → Phase → Bool → Phase
happened n t Parked stays = Parked
happened n t Outside stays = Outside
happened n t Inside stays = if stays then Inside else Leaving
happened n t Leaving stays = Leaving
happened n t Parking stays = Parking
happened n t (Posting u) stays = Posting u
happened n t (Looking u) stays = Looking u
happened n t Collecting stays = releasing_from n t 0
happened n t (Releasing u) stays = Releasing u
happened n t Returning stays = Returning
happened n t Ended stays = Ended
