use Rattle.std.proofs.Common.{◌≡◌, ℕ, sym, ◌∙◌, subst, ap}
use Rattle.std.specs.Prelude.{◌==◌, not}
use Rattle.heap_terms.specs.declared.pages.Next.TheVariants as nexts
use Rattle.heap_terms.specs.Heap.{thread_at}
use Rattle.lisp_heap.specs.Events.{Happens}
use Rattle.lisp_heap.specs.View.{heap_of}
use Rattle.heap_turns.proofs.Sections.{inside_unless_open}
use Rattle.heap_turns.proofs.turns.perform.Goals as goal

pub returns-clause-ok : goal.returns-clause-ok
returns-clause-ok c =
    let old = c.args.world.now in
    let new = c.perform.new.self in
    let h : Happens c.args.parcel.now.owner old new = subst (λ (t : ℕ). Happens t old new) c.owner-t.ensures c.in_ok-perform.ensures.ok in
    inside_unless_open c.args.parcel.now.owner old new c.inhibits.result h
    (λ opens. let never : nexts.Simple ≡ nexts.Open = sym c.requires.simple ∙ opens in cc)
    (c.inhibits.ensures ∙ ap (λ (t : ℕ). not ((thread_at (heap_of new) t).inhibits == 0)) c.owner-t.ensures)
