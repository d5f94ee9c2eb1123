use Rattle.std.proofs.Common.{◌≡◌, ℕ, ◌*◌, ◌≤◌, take}
use Rattle.std.specs.List.{sum_by}
use Rattle.std.specs.Prelude.{All}
use Rattle.heap_terms.specs.declared.events.Placing.{Placing}
use Rattle.lisp_heap.specs.Kept.{IsSizeAt, place_then}
use Rattle.lisp_heap.proofs.kept.moved_words.Given as goal

abbrev pub invariant-loop-m : goal.invariant-loop-m
invariant-loop-m l = record {
  sum : (f : Placing → ℕ) → All (λ (m : Placing). IsSizeAt l.space (place_then m) (f m)) l.moves → l.sum ≡ sum_by f (take l.m-index l.moves);
  most : l.sum ≤ l.m-index * 65536;
}
