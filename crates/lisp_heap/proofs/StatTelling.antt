-- The command `stat`: its plan.
use Rattle.std.proofs.Common.{◌≡◌, ℕ, refl}
use Rattle.heap_terms.specs.declared.answers.Answer.{Answer}
use Rattle.heap_terms.specs.declared.answers.Answer.TheVariants as answers
use Rattle.heap_terms.specs.declared.commands.Command.TheVariants as commands
use Rattle.heap_terms.specs.Generations.{allocated}
use Rattle.heap_terms.specs.Heap.{NamedHeap}
use Rattle.heap_terms.specs.Outcomes.{outcome_of}
use Rattle.heap_terms.specs.Outcomes.CollectionCommands.{counting_words}
use Rattle.heap_terms.specs.Policy.{cum_of, num_of}
use Rattle.lisp_heap.specs.Plan.{IsPlan}
use Rattle.lisp_heap.specs.declared.plan.Change.TheVariants as changes
use Rattle.lisp_heap.proofs.Plans.{planned}

stat_outcome : (a : NamedHeap) (t g : ℕ) → outcome_of a t (commands.Stat g) ≡ counting_words a g
unfolding outcome_of
stat_outcome a t g = refl

pub told_is : (a : NamedHeap) (t g : ℕ) (answer : Answer) → answer ≡ answers.Stat (allocated a g) (cum_of a g) (num_of a g) →
    IsPlan a t (commands.Stat g) answer changes.Nothing
told_is a t g answer said = planned a t (commands.Stat g) (counting_words a g) answer changes.Nothing (stat_outcome a t g) said refl
