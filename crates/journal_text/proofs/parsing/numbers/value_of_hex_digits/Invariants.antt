use Rattle.std.proofs.Common.{◌≡◌, ◌<◌, ◌^◌, drop}
use Rattle.journal_text.specs.FieldReading.{is_hex, value_in, value_on}
use Rattle.journal_text.proofs.parsing.numbers.value_of_hex_digits.Given as goal

abbrev pub invariant-loop-byte : goal.invariant-loop-byte
invariant-loop-byte l = record { so_far : value_on 16 is_hex l.value (drop l.byte-index l.digits) ≡ value_in 16 is_hex l.digits; small : l.value < 2 ^ 64 }
