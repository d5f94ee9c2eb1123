use Rattle.std.proofs.Common.{◌≡◌, ◌++◌, length}
use Rattle.ambiguous_roots.specs.Pinning.{referred}
use Rattle.ambiguous_roots.proofs.pins.pin_walked.Given as goal

abbrev pub invariant-loop-found : goal.invariant-loop-found
invariant-loop-found l = record {
  walks : (goal.iterator-loop-found).can_next l.found-iterator × (goal.iterator-loop-found).is_finite l.found-iterator;
  listed : l.pins.listed ≡ l.fn.pins.listed ++ referred l.ambiguous l.yielded;
  most : l.pins.most ≡ l.fn.pins.most;
  count : l.count ≡ length l.yielded;
}
