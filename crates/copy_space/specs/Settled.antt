-- Which names are settled while a pass works: their objects are of another generation, or pinned, or have moved or
-- stayed. What is settled at the end is what is live. And which words evacuation takes.
use Rattle.std.specs.Prelude.{◌≡◌, ℕ, ◌==◌, ◌⊎◌, ◌||◌, not, Option, Some, None, Bool, true, false}
use Rattle.heap_terms.specs.declared.cells.Value.{Value}
use Rattle.heap_terms.specs.Heap.{NamedHeap, object_at}
use Rattle.heap_terms.specs.Live.{is_live}
use Rattle.heap_terms.specs.Living.{IsLivingOrUnbound}
use Rattle.heap_terms.specs.Objects.{Object}
use Rattle.heap_terms.specs.Spelling.{word_of}
use Rattle.copy_space.specs.Marks.{mark_at, is_set}
use Rattle.copy_space.specs.Moved.{objects_now}
use Rattle.copy_space.specs.State.{CopyState}

-- whether an object is settled, by its generation and its mark
abbrev pub settles : CopyState → Option Object → Bool
settles s None = false
settles s (Some o) = not (o.generation == s.pass.generation) || is_set (mark_at s.marks o.place)

abbrev pub is_settled : NamedHeap → CopyState → ℕ → Bool
is_settled a s name = settles s (object_at a.objects name)

-- a value's word before the pass, and its word now: where the value is settled, that is its word after the pass
abbrev pub word_before : NamedHeap → Value → ℕ
word_before a v = word_of a.objects v

abbrev pub word_now : NamedHeap → CopyState → Value → ℕ
word_now a s v = word_of (objects_now a s.moves) v

-- a value is settled, and a word is the one that it has from now on
pub record IsNewWord (a : NamedHeap) (s : CopyState) (v : Value) (word : ℕ) : Type 0 where
  pub settled : is_live (is_settled a s) v ≡ true
  pub is : word ≡ word_now a s v

-- a word of a value: the one before the pass, or the one that it has from now on
abbrev pub IsEitherWord : NamedHeap → CopyState → Value → ℕ → Type 0
IsEitherWord a s v word = (word ≡ word_before a v) ⊎ IsNewWord a s v word

-- a word that evacuation takes: that of a living value, before the pass or from now on
pub record IsWordOf (a : NamedHeap) (s : CopyState) (v : Value) (word : ℕ) : Type 0 where
  pub living : IsLivingOrUnbound a.objects v
  pub either : IsEitherWord a s v word
