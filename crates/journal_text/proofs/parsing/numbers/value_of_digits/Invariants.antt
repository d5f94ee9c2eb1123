use Rattle.std.proofs.Common.{◌≡◌, ◌<◌, ◌^◌, drop}
use Rattle.journal_text.specs.FieldReading.{is_decimal, value_in, value_on}
use Rattle.journal_text.proofs.parsing.numbers.value_of_digits.Given as goal

abbrev pub invariant-loop-byte : goal.invariant-loop-byte
invariant-loop-byte l = record { so_far : value_on 10 is_decimal l.value (drop l.byte-index l.digits) ≡ value_in 10 is_decimal l.digits; small : l.value < 2 ^ 64 }
