use Rattle.std.proofs.Common.{◌≡◌, ℕ, ◌+◌, ◌-◌, ◌≤◌, List, length, take, drop}
use Rattle.heap_terms.specs.LaidOut.{Piece, AreLaidOut}
use Rattle.ambiguous_roots.proofs.ConsPages.{IsCounted}
use Rattle.ambiguous_roots.proofs.conses.conses_in.Given as goal

abbrev pub invariant-loop-index : goal.invariant-loop-index
invariant-loop-index l = record {
  few : l.count ≤ l.index;
  near : l.index ≤ length l.words + 1;
  counted : (words : List ℕ) (from : ℕ) (pieces : List Piece) → l.words ≡ take (length l.words) (drop from words) → from + length l.words ≤ length words →
      AreLaidOut words from (from + length l.words) pieces → IsCounted words from (from + length l.words) pieces l.index l.count;
}

abbrev pub decreases-loop-index : goal.decreases-loop-index
decreases-loop-index l = length l.words + 2 - l.index
