-- The parts stand for an empty heap.
use Rattle.std.proofs.Common.{ap, vec_capacity, arith}
use Rattle.scavenge.proofs.EmptyHeap.{empty-begins}
use Rattle.weak_refs.proofs.tests.nothing_is_culled_where_nothing_was_noted.Goals as goal

pub finish-settled-requires : goal.finish-settled-requires
finish-settled-requires g c = (
  empty-begins c.in_ok-space.space c.in_ok-pages.pages c.in_ok-marks.marks c.in_ok-pins.pins.listed (vec_capacity c.in_ok-with_capacity.field-0)
      c.in_ok-space.ensures c.in_ok-pages.ensures c.in_ok-marks.ensures (ap (λ p. p.listed) c.in_ok-pins.ensures) (omega (arith, c.in_ok-with_capacity.ensures.capacity)),
  (c.in_ok-with_capacity.ensures.items, (ap (λ p. p.listed) c.in_ok-weak.ensures, (omega (arith, c.new-7.ensures.len), omega (arith, c.new-8.ensures.len)))),
)
