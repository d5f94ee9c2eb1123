-- The word machine, by which threads stop for a collection. Its bits and its steps are this project's own.
-- Word 0 is the turn to collect: 0 where it is free, and t + 1 where thread t holds it. Word t + 1 belongs to thread t, and has
-- the bits 1, the thread is inside a section, 2, a stop was posted to it, and 4, it is parked.
use Rattle.std.specs.Prelude.{◌≡◌, ◌≢◌, ◌==◌, ◌⊎◌, ◌<◌, ◌-◌, ◌^◌, ℕ, suc, Bool, true, false, not, List, length, if◌then◌else◌, slice_index, slice_set, bit_and, bit_or}
use Rattle.heap_terms.specs.declared.steps.WordStep.{WordStep}
use Rattle.heap_terms.specs.declared.steps.WordStep.TheVariants.{Resume, Enter, Leave, Park, Claim, Post, Look, Release, Return}
use Rattle.heap_terms.specs.declared.steps.StepAnswer.{StepAnswer}
use Rattle.heap_terms.specs.declared.steps.StepAnswer.TheVariants.{Went, Inside, StopFound, Taken, NotYet}

-- a word has the bit
abbrev pub has : ℕ → ℕ → Bool
has bit word = not (bit_and word bit == 0)

-- the word without the bit
abbrev pub clear : ℕ → ℕ → ℕ
clear bit word = bit_and word (2 ^ 64 - 1 - bit)

-- the number of the word that a step of thread t reads and changes
abbrev pub place_of : ℕ → WordStep → ℕ
place_of t Claim = 0
place_of t Return = 0
place_of t (Post u) = suc u
place_of t (Look u) = suc u
place_of t (Release u) = suc u
place_of t Resume = suc t
place_of t Enter = suc t
place_of t Leave = suc t
place_of t Park = suc t

-- that word after a step of thread t, from the word before it
abbrev pub becomes : ℕ → WordStep → ℕ → ℕ
becomes t Resume word = if word == 4 then 0 else word
becomes t Enter word = if word == 0 then 1 else word
becomes t Leave word = clear 1 word
becomes t Park word = bit_or word 4
becomes t Claim word = if word == 0 then suc t else word
becomes t (Post u) word = bit_or word 2
becomes t (Look u) word = word
becomes t (Release u) word = clear 2 word
becomes t Return word = 0

-- the answer of a step, from the word before it
abbrev pub answer : WordStep → ℕ → StepAnswer
answer Resume word = if word == 4 then Went else NotYet
answer Enter word = if word == 0 then Went else StopFound
answer Leave word = if has 2 word then StopFound else Went
answer Park word = Went
answer Claim word = if word == 0 then Went else Taken (word - 1)
answer (Post u) word = if has 1 word then Inside else Went
answer (Look u) word = if has 4 word then Went else NotYet
answer (Release u) word = Went
answer Return word = Went

-- the thread t may do the step where these are the turn and the threads' words
abbrev pub MayStep : ℕ → WordStep → ℕ → List ℕ → Type 0
MayStep t Resume turn words = (slice_index words t ≡ 4) ⊎ (slice_index words t ≡ 6)
MayStep t Enter turn words = (slice_index words t ≡ 0) ⊎ (slice_index words t ≡ 2)
MayStep t Leave turn words = has 1 (slice_index words t) ≡ true
MayStep t Park turn words = (has 1 (slice_index words t) ≡ false) × (has 4 (slice_index words t) ≡ false)
MayStep t Claim turn words = (slice_index words t ≡ 0) ⊎ (slice_index words t ≡ 2)
MayStep t (Post u) turn words = (u < length words) × (turn ≡ suc t) × (u ≢ t)
MayStep t (Look u) turn words = (u < length words) × (turn ≡ suc t) × (has 2 (slice_index words u) ≡ true)
MayStep t (Release u) turn words = (u < length words) × (turn ≡ suc t) × (has 2 (slice_index words u) ≡ true) × (has 4 (slice_index words u) ≡ true)
MayStep t Return turn words = (turn ≡ suc t) × ((u : ℕ) → u < length words → has 2 (slice_index words u) ≡ false)

-- all words, the turn first, after a step of thread t: the one word has changed
abbrev pub words_after : ℕ → WordStep → List ℕ → List ℕ
words_after t step all = slice_set all (place_of t step) (becomes t step (slice_index all (place_of t step)))

-- the answer of a step of thread t, from all words, the turn first
abbrev pub answer_at : ℕ → WordStep → List ℕ → StepAnswer
answer_at t step all = answer step (slice_index all (place_of t step))
