use Rattle.std.proofs.Common.{◌≡◌, map, vec_len}
use Rattle.stop_words.specs.Owners.{numbers_from}
use Rattle.stop_words.proofs.tests.chips.Given as goal

abbrev pub invariant-loop-thread : goal.invariant-loop-thread
invariant-loop-thread l = (map (λ chip. chip.thread) l.chips.items ≡ numbers_from 0 l.thread) × (vec_len l.chips ≡ l.thread)
