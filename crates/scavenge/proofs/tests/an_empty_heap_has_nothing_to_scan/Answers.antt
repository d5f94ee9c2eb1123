-- The parts stand for an empty heap.
use Rattle.std.proofs.Common.{ap, vec_capacity, arith}
use Rattle.scavenge.proofs.EmptyHeap.{empty-begins}
use Rattle.scavenge.proofs.tests.an_empty_heap_has_nothing_to_scan.Goals as goal

pub trace-done-requires : goal.trace-done-requires
trace-done-requires g c = (
  empty-begins c.in_ok-space.space c.in_ok-pages.pages c.in_ok-marks.marks c.in_ok-pins.pins.listed (vec_capacity c.in_ok-with_capacity.field-0)
      c.in_ok-space.ensures c.in_ok-pages.ensures c.in_ok-marks.ensures (ap (λ p. p.listed) c.in_ok-pins.ensures) (omega (arith, c.in_ok-with_capacity.ensures.capacity)),
  (c.in_ok-with_capacity.ensures.items, (ap (λ p. p.listed) c.in_ok-weak.ensures, omega arith)),
)
