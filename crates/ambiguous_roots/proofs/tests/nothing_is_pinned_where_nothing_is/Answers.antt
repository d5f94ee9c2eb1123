-- Everything is as it was made.
use Rattle.std.proofs.Common.{ap, length}
use Rattle.ambiguous_roots.proofs.Tested.{empty_can}
use Rattle.ambiguous_roots.proofs.tests.nothing_is_pinned_where_nothing_is.Goals as goal

pub find_pins-count-requires : goal.find_pins-count-requires
find_pins-count-requires g c =
    empty_can c.in_ok-space.space c.in_ok-pages.pages c.as_slice.result.now c.in_ok-hints.hints c.in_ok-pins.pins
    c.in_ok-space.ensures c.in_ok-pages.ensures c.in_ok-hints.ensures c.in_ok-pins.ensures (ap length c.as_slice.ensures)
