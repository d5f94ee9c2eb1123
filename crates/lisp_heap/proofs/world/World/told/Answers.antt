-- `stat` tells the numbers of a generation.
use Rattle.std.proofs.Common.{ℕ, ◌∙◌, ap, ap₂, subst, get_or}
use Rattle.heap_terms.specs.declared.answers.Answer.TheVariants as answers
use Rattle.heap_terms.specs.declared.commands.Command.TheVariants as commands
use Rattle.heap_terms.specs.Generations.{allocated}
use Rattle.lisp_heap.specs.Plan.{IsPlan}
use Rattle.lisp_heap.specs.View.{View, heap_of}
use Rattle.lisp_heap.specs.declared.plan.Change.TheVariants as changes
use Rattle.lisp_heap.proofs.Soundness.{heap}
use Rattle.lisp_heap.proofs.StatTelling.{told_is}
use Rattle.lisp_heap.proofs.world.World.told.Goals as goal

pub returns : goal.returns
returns c =
    let s = c.self.inside in
    let stand = c.self.invariant.holds.stats in
    let answer = answers.Stat (get_or s.stats.allocated c.args.g 0) (get_or s.stats.cum c.args.g 0) (get_or s.stats.num c.args.g 0) in
    subst (λ (w : View). IsPlan (heap_of w) c.args.t (commands.Stat c.args.g) answer changes.Nothing) c.self.view_is
    (told_is (heap s) c.args.t c.args.g answer
    (ap (λ (n : ℕ). answers.Stat n (get_or s.stats.cum c.args.g 0) (get_or s.stats.num c.args.g 0)) (stand.allocated_is c.args.g c.requires)
    ∙ ap₂ (λ (xs ys : _). answers.Stat (allocated (heap s) c.args.g) (get_or xs c.args.g 0) (get_or ys c.args.g 0)) stand.cum_is stand.num_is))
