use Rattle.std.proofs.Common.{ℕ, ◌<◌}
use Rattle.heap_terms.specs.LaidOut.{IsLaidOut}
use Rattle.ambiguous_roots.proofs.tests.can_walk_all.Given as goal

abbrev pub invariant-loop-page : goal.invariant-loop-page
invariant-loop-page l = (k : ℕ) → k < l.page → IsLaidOut l.space l.pages k
