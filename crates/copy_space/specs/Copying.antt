-- What the calls of a copier need and promise.
use Rattle.std.specs.Prelude.{◌≡◌, ℕ, ◌*◌, ◌+◌, ◌≤◌, ◌⊎◌, List, length, replicate, All, Option, Some, None, true, if◌then◌else◌}
use Rattle.heap_terms.specs.declared.cells.Value.{Value}
use Rattle.heap_terms.specs.declared.cells.Value.TheVariants.{Ref}
use Rattle.heap_terms.specs.declared.limits.TheConstants.{OLDEST_COLLECTED}
use Rattle.heap_terms.specs.declared.pages.Entry.{Entry}
use Rattle.heap_terms.specs.Heap.{NamedHeap}
use Rattle.heap_terms.specs.Live.{is_live}
use Rattle.heap_terms.specs.Sound.{IsSound}
use Rattle.heap_terms.specs.Stands.{WordsStand}
use Rattle.copy_space.specs.declared.marks.Mark.{Mark}
use Rattle.copy_space.specs.declared.marks.Mark.TheVariants.{Fresh}
use Rattle.copy_space.specs.Frames.{Goes}
use Rattle.copy_space.specs.Midway.{IsPlacedSoFar, Midway, HasStart}
use Rattle.copy_space.specs.Settled.{is_settled, IsWordOf, IsNewWord, word_now}
use Rattle.copy_space.specs.State.{CopyState}

-- a pass can begin: the words and pages stand for a sound heap, nothing is marked or moved, each pinned start is that of an
-- object of the generation, and there is room for a move of every double word
pub record CanBegin (a : NamedHeap) (words : List ℕ) (pages : List Entry) (marks : List Mark) (pins : List ℕ) (g room : ℕ) : Type 0 where
  pub sound : IsSound a
  pub stand : WordsStand a words
  pub pages_are : pages ≡ a.pages
  pub marks_long : 2 * length marks ≡ length words
  pub unmarked : marks ≡ replicate (length marks) Fresh
  pub pinned : All (HasStart a g) pins
  pub generation : g ≤ OLDEST_COLLECTED
  pub enough : length marks ≤ room

-- a word can be evacuated: it is that of a value
pub record CanEvacuate (a : NamedHeap) (s : CopyState) (word : ℕ) : Type 0 where
  pub midway : Midway a s
  pub value : Value
  pub is_word : IsWordOf a s value word

-- a word can be looked up: the same, where the words of fields need not be those midway
pub record CanLookUp (a : NamedHeap) (s : CopyState) (word : ℕ) : Type 0 where
  pub places : IsPlacedSoFar a s
  pub value : Value
  pub is_word : IsWordOf a s value word

-- The word of a value was evacuated: the value is settled, its word from now on is the answer, and nothing but the value
-- itself was newly settled.
pub record IsEvacuated (a : NamedHeap) (s t : CopyState) (v : Value) (result : ℕ) : Type 0 where
  pub answer : IsNewWord a t v result
  pub only : (name : ℕ) → is_settled a t name ≡ true → (is_settled a s name ≡ true) ⊎ (v ≡ Ref name)

-- evacuation is one step at most
pub record Evacuates (a : NamedHeap) (s t : CopyState) (word result : ℕ) : Type 0 where
  pub midway : Midway a t
  pub goes : Goes a s t
  pub one : length t.moves ≤ length s.moves + 1
  pub each : (v : Value) → IsWordOf a s v word → IsEvacuated a s t v result

-- the word from now on of a value, none where it is not settled
abbrev pub settled_word : NamedHeap → CopyState → Value → Option ℕ
settled_word a s v = if is_live (is_settled a s) v then Some (word_now a s v) else None
