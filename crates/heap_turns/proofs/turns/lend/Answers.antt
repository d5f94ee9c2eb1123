use Rattle.std.proofs.Common.{ℕ, ◌∙◌, subst, ap}
use Rattle.std.specs.Prelude.{◌==◌, not}
use Rattle.heap_terms.specs.Heap.{thread_at}
use Rattle.lisp_heap.specs.declared.allocating.Lent.{Lent}
use Rattle.lisp_heap.specs.declared.allocating.Lent.TheVariants as lents
use Rattle.lisp_heap.specs.Agreement.{Lends}
use Rattle.lisp_heap.specs.View.{heap_of}
use Rattle.heap_turns.proofs.Sections.{inside_opened, inside_exhausted}
use Rattle.heap_turns.proofs.turns.lend.Goals as goal

pub returns-in-Opened-clause-ok : goal.returns-in-Opened-clause-ok
returns-in-Opened-clause-ok c =
    let t = c.args.parcel.now.owner in
    let old = c.args.world.now in
    let run : Lends old t lents.Opened = subst (λ (l : Lent). Lends old t l) c.in-Opened.is c.in_ok-lend.ensures.lent in
    inside_opened t old c.lend.new.self c.in_ok-lend.ensures.ok c.requires.opens run

pub returns-in-Exhausted-clause-ok : goal.returns-in-Exhausted-clause-ok
returns-in-Exhausted-clause-ok c =
    let t = c.args.parcel.now.owner in
    let old = c.args.world.now in
    let none : Lends old t lents.Exhausted = subst (λ (l : Lent). Lends old t l) c.in-Exhausted.is c.in_ok-lend.ensures.lent in
    inside_exhausted t old c.lend.new.self c.inhibits.result c.in_ok-lend.ensures.ok none
    (c.inhibits.ensures ∙ ap (λ (u : ℕ). not ((thread_at (heap_of c.lend.new.self) u).inhibits == 0)) (c.owner.ensures ∙ c.lend.ensures.owner))
