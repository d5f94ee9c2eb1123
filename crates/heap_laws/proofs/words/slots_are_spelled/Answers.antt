use Rattle.std.proofs.Common.{List, ℕ, sym, subst}
use Rattle.heap_terms.specs.Slots.{slots}
use Rattle.heap_laws.specs.WordLaws.{AreAt}
use Rattle.heap_laws.proofs.Slots.Spelled.{slots-spelled, slots_from_words, words_from_slots}
use Rattle.heap_laws.proofs.words.slots_are_spelled.Goals as goal

pub returns : goal.returns
returns c = (
  slots-spelled,
  λ objects words from contents. (
    (λ h. slots_from_words objects words from (slots contents) (subst (λ (ws : List ℕ). AreAt words from ws) (sym (slots-spelled objects contents)) h)),
    (λ both. subst (λ (ws : List ℕ). AreAt words from ws) (slots-spelled objects contents)
        (words_from_slots objects words from (slots contents) both.0 both.1)),
  ),
)
