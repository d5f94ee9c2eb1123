use Rattle.std.proofs.Common.{◌≡◌, ◌≤◌, ◌++◌, drop, length}
use Rattle.heap_terms.specs.Text.{hex_digits}
use Rattle.text_fields.proofs.fields.digits_of.Given as goal

abbrev pub invariant-loop-k : goal.invariant-loop-k
invariant-loop-k l = record {
  within : l.k ≤ 16;
  full : length l.digits ≡ 16;
  so_far : hex_digits 16 l.w ≡ hex_digits l.k l.left ++ drop l.k l.digits;
}

abbrev pub decreases-loop-k : goal.decreases-loop-k
decreases-loop-k l = l.k
