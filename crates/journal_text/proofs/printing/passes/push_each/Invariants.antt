use Rattle.std.proofs.Common.{◌≡◌, ◌++◌, take, ℕ}
use Rattle.std.specs.List.{flat_map}
use Rattle.heap_terms.specs.Text.{line, number_field}
use Rattle.journal_text.proofs.printing.passes.push_each.Given as goal

abbrev pub invariant-loop-n : goal.invariant-loop-n
invariant-loop-n l = l.out.text ≡ l.initial.out.text ++ flat_map (λ (n : ℕ). line (l.word ++ number_field n)) (take l.n-index l.numbers)
