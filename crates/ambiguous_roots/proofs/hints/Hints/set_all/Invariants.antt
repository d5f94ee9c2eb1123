use Rattle.std.proofs.Common.{◌≡◌, ◌⊎◌, ℕ, ◌*◌, ◌<◌, length}
use Rattle.ambiguous_roots.specs.Hinted.{hint_of, IsPointedBefore}
use Rattle.ambiguous_roots.proofs.hints.Hints.set_all.Given as goal

abbrev pub invariant-loop-word : goal.invariant-loop-word
invariant-loop-word l = record {
  set : (k : ℕ) → IsPointedBefore l.words l.word-index (2 * k) → k < length l.fn.self → hint_of l.self k ≡ l.hint;
  others : (k : ℕ) → (hint_of l.self k ≡ hint_of l.fn.self k) ⊎ IsPointedBefore l.words l.word-index (2 * k);
  long : length l.self ≡ length l.fn.self;
}
