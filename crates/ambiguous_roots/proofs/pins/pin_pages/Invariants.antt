use Rattle.std.proofs.Common.{◌≡◌, ◌*◌, ◌≤◌}
use Rattle.ambiguous_roots.specs.Pinning.{AreHitBefore, how_many_before}
use Rattle.ambiguous_roots.proofs.pins.pin_pages.Given as goal

abbrev pub invariant-loop-page : goal.invariant-loop-page
invariant-loop-page g l = record {
  pins : AreHitBefore g.a l.generation l.ambiguous (512 * l.page) l.pins.listed;
  most : l.pins.most ≡ l.fn.pins.most;
  count : l.count ≡ how_many_before g.a l.generation (512 * l.page);
  bound : l.count ≤ 512 * l.page;
}
