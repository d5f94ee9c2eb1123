use Rattle.std.proofs.Common.{◌≡◌, ℕ, ◌*◌, ◌≤◌, take}
use Rattle.std.specs.List.{sum_by}
use Rattle.std.specs.Prelude.{All}
use Rattle.heap_terms.specs.declared.events.PinAt.{PinAt}
use Rattle.lisp_heap.specs.Kept.{IsSizeAt}
use Rattle.lisp_heap.proofs.kept.pinned_words.Given as goal

abbrev pub invariant-loop-q : goal.invariant-loop-q
invariant-loop-q l = record {
  sum : (f : PinAt → ℕ) → All (λ (q : PinAt). IsSizeAt l.space q.index (f q)) l.pins → l.sum ≡ sum_by f (take l.q-index l.pins);
  most : l.sum ≤ l.q-index * 65536;
}
