-- How large the policy's numbers get, and the words counted for `auto`.
use Rattle.std.specs.Prelude.{ℕ, ◌+◌, ◌*◌, ◌≤◌}
use Rattle.heap_terms.specs.declared.limits.TheConstants.{MOST_COMMANDS, MOST_ELEMENTS, OLDEST_COLLECTED}
use Rattle.heap_terms.specs.Generations.{allocated}
use Rattle.heap_terms.specs.Heap.{NamedHeap}
use Rattle.heap_terms.specs.Policy.{cum_of, num_of}
use Rattle.heap_laws.specs.Remaining.{most_events}

-- an object has at most so many words: a header and 65,535 words of payload
abbrev pub most_words_each : ℕ
most_words_each = MOST_ELEMENTS + 1

-- and all objects of a heap have at most so many, as there are at most 20,000 of them
abbrev pub most_words_made : ℕ
most_words_made = MOST_COMMANDS * most_words_each

-- the passes of all collections of a history: each collection has at most six
abbrev pub most_passes : ℕ
most_passes = (OLDEST_COLLECTED + 1) * most_events

-- the policy's numbers after so many passes, and the words that were counted since `auto` last triggered
pub record HasNumbers (a : NamedHeap) (passes : ℕ) : Type 0 where
  pub words : (g : ℕ) → allocated a g ≤ most_words_made
  pub cum : (g : ℕ) → cum_of a g ≤ passes * most_words_made
  pub num : (g : ℕ) → num_of a g ≤ passes
  pub counted : a.counted ≤ most_words_made
