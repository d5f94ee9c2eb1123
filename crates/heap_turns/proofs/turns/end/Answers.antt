use Rattle.std.proofs.Common.{◌≡◌, ℕ, sym, ◌∙◌, ap}
use Rattle.std.specs.Prelude.{◌==◌, not}
use Rattle.heap_terms.specs.declared.pages.Next.TheVariants as nexts
use Rattle.heap_terms.specs.Heap.{thread_at}
use Rattle.lisp_heap.specs.View.{heap_of}
use Rattle.heap_turns.proofs.Sections.{inside_unless_open}
use Rattle.heap_turns.proofs.turns.end.Goals as goal

pub returns-clause-ok : goal.returns-clause-ok
returns-clause-ok c =
    let old = c.args.world.now in
    let new = c.end.new.self in
    inside_unless_open c.args.parcel.now.owner old new c.inhibits.result c.in_ok-end.ensures.ok
    (λ opens. let never : nexts.End ≡ nexts.Open = sym c.requires.ends ∙ opens in cc)
    (c.inhibits.ensures ∙ ap (λ (t : ℕ). not ((thread_at (heap_of new) t).inhibits == 0)) (c.owner.ensures ∙ c.end.ensures.owner))
