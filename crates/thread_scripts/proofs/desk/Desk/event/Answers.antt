use Rattle.std.proofs.Common.{ℕ, sym, ◌∙◌, ap}
use Rattle.heap_terms.specs.Heap.{thread_at}
use Rattle.lisp_heap.specs.View.{heap_of}
use Rattle.machine_laws.proofs.EventFacts.{over_is}
use Rattle.thread_scripts.proofs.desk.Desk.event.Goals as goal

pub event-requires-clause-alive : goal.event-requires-clause-alive
event-requires-clause-alive g c =
    let w = c.args.self.now.world in
    over_is w.program (heap_of w) c.args.parcel.now.owner ∙ ap (λ (t : ℕ). (thread_at (heap_of w) t).ended) (sym c.owner-t.ensures) ∙ sym c.has_ended.ensures ∙ c.if-has_ended.false
