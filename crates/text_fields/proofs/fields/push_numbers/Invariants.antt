use Rattle.std.proofs.Common.{◌≡◌, ◌++◌, take}
use Rattle.std.specs.List.{flat_map}
use Rattle.heap_terms.specs.Text.{number_field}
use Rattle.text_fields.proofs.fields.push_numbers.Given as goal

abbrev pub invariant-loop-n : goal.invariant-loop-n
invariant-loop-n l = l.out.text ≡ l.initial.out.text ++ flat_map number_field (take l.n-index l.numbers)
