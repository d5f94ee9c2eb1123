-- What a command on finalizers answers, and what it makes of list and queue.
use Rattle.std.specs.Prelude.{◌≡◌, ℕ, List, [], ◌∷◌, ◌++◌, count_by, filter, not}
use Rattle.finalizers.specs.Lists.{Lists, is_of}
use Rattle.finalizers.specs.Standing.{FinalizersStand}
use Rattle.heap_terms.specs.declared.answers.Answer.{Answer}
use Rattle.heap_terms.specs.declared.commands.Command.{Command}
use Rattle.heap_terms.specs.Heap.{NamedHeap}
use Rattle.heap_terms.specs.Outcomes.{outcome_of}

-- one more is registered
abbrev pub with_one_more : Lists → ℕ → ℕ → Lists
with_one_more f word id = record { registered = f.registered ++ record { object = word; id = id } ∷ []; queue = f.queue }

-- how many are registered for the object of a word, and all the others
abbrev pub count_for : Lists → ℕ → ℕ
count_for f word = count_by (is_of word) f.registered

abbrev pub without : Lists → ℕ → Lists
without f word = record { registered = filter (λ r. not (is_of word r)) f.registered; queue = f.queue }

-- the queue was run
abbrev pub without_queue : Lists → Lists
without_queue f = record { registered = f.registered; queue = [] }

-- the answer of thread t's command, which changes nothing but finalizers, and what stands for these after it
pub record IsFinalizerPlan (a : NamedHeap) (t : ℕ) (c : Command) (answer : Answer) (f : Lists) : Type 0 where
  pub list : List (ℕ × ℕ)
  pub queue : List ℕ
  pub answers : answer ≡ (outcome_of a t c).answer
  pub effect : (outcome_of a t c).heap ≡ record a { finalizers = list; queue = queue }
  pub stand : FinalizersStand (record a { finalizers = list; queue = queue }) f
