-- What a command that allocates nothing does to the words, and to the state of its thread.
use Rattle.std.specs.Prelude.{◌≡◌, ℕ, ◌+◌, ◌<◌, Some, List, [], ◌∷◌, ◌++◌, length, slice_set}
use Rattle.heap_terms.specs.declared.answers.Answer.{Answer}
use Rattle.heap_terms.specs.declared.cells.Cell.{Cell}
use Rattle.heap_terms.specs.declared.cells.Raw.{Raw}
use Rattle.heap_terms.specs.declared.cells.Value.{Value}
use Rattle.heap_terms.specs.declared.commands.Command.{Command}
use Rattle.heap_terms.specs.Cells.{with_cell}
use Rattle.heap_terms.specs.Heap.{NamedHeap, object_at, thread_at, with_thread}
use Rattle.heap_terms.specs.Objects.{Object, Contents, kind_of, payload_of}
use Rattle.heap_terms.specs.declared.limits.TheConstants.{MOST_PINS}
use Rattle.heap_terms.specs.Outcomes.{outcome_of}
use Rattle.heap_terms.specs.Outcomes.PinCommands.{with_pins}
use Rattle.heap_terms.specs.RawCells.{with_raw}
use Rattle.heap_terms.specs.Slots.{Slot, slots}
use Rattle.heap_terms.specs.Valid.{IsCell, IsRaw}
use Rattle.heap_terms.specs.Spelling.{word_of}
use Rattle.heap_laws.specs.WordLaws.{word_of_slot}
use Rattle.lisp_heap.specs.CellsView.{CellsView, HasCells, with_cell_word, with_raw_word}
use Rattle.lisp_heap.specs.PinsView.{HasPinRoom, but_last, with_pin_popped, with_pin_pushed}
use Rattle.lisp_heap.specs.State.{with_inhibits, with_owed}
use Rattle.lisp_heap.specs.declared.states.ThreadState.{ThreadState}
use Rattle.lisp_heap.specs.declared.plan.Change.{Change}
use Rattle.lisp_heap.specs.declared.plan.Change.TheVariants as changes

-- the cells after a change
abbrev pub cells_after : CellsView → ℕ → Change → CellsView
cells_after v t changes.Nothing = v
cells_after v t (changes.InCell cell word) = with_cell_word v t cell word
cells_after v t (changes.InRaw r word) = with_raw_word v t r word
cells_after v t (changes.InSpace index word) = v
cells_after v t (changes.Inhibits count) = v
cells_after v t (changes.Owes last) = v
cells_after v t (changes.PushPin word) = v
cells_after v t changes.PopPin = v

-- the words after a change
abbrev pub words_after : List ℕ → Change → List ℕ
words_after words changes.Nothing = words
words_after words (changes.InCell cell word) = words
words_after words (changes.InRaw r word) = words
words_after words (changes.InSpace index word) = slice_set words index word
words_after words (changes.Inhibits count) = words
words_after words (changes.Owes last) = words
words_after words (changes.PushPin word) = words
words_after words changes.PopPin = words

-- the states after a change
abbrev pub states_after : List ThreadState → ℕ → Change → List ThreadState
states_after states t changes.Nothing = states
states_after states t (changes.InCell cell word) = states
states_after states t (changes.InRaw r word) = states
states_after states t (changes.InSpace index word) = states
states_after states t (changes.Inhibits count) = with_inhibits states t count
states_after states t (changes.Owes last) = with_owed states t (Some last)
states_after states t (changes.PushPin word) = states
states_after states t changes.PopPin = states

-- the pins after a change
abbrev pub pins_after : List (List ℕ) → ℕ → Change → List (List ℕ)
pins_after pins t changes.Nothing = pins
pins_after pins t (changes.InCell cell word) = pins
pins_after pins t (changes.InRaw r word) = pins
pins_after pins t (changes.InSpace index word) = pins
pins_after pins t (changes.Inhibits count) = pins
pins_after pins t (changes.Owes last) = pins
pins_after pins t (changes.PushPin word) = with_pin_pushed pins t word
pins_after pins t changes.PopPin = with_pin_popped pins t

-- a change that the cells of thread t, the words and its pins have room for
abbrev pub CanChange : CellsView → List ℕ → List (List ℕ) → ℕ → Change → Type 0
CanChange v words pins t changes.Nothing = Unit {0}
CanChange v words pins t (changes.InCell cell word) = IsCell cell × HasCells v t
CanChange v words pins t (changes.InRaw r word) = IsRaw r × HasCells v t
CanChange v words pins t (changes.InSpace index word) = index < length words
CanChange v words pins t (changes.Inhibits count) = Unit {0}
CanChange v words pins t (changes.Owes last) = Unit {0}
CanChange v words pins t (changes.PushPin word) = HasPinRoom pins t
CanChange v words pins t changes.PopPin = Unit {0}

-- a value goes into a cell
pub record PutsInCell (a new : NamedHeap) (t : ℕ) (cell : Cell) (word : ℕ) : Type 0 where
  pub value : Value
  pub is_cell : IsCell cell
  pub word_is : word ≡ word_of a.objects value
  pub effect : new ≡ with_cell a t cell value

-- a word goes into a raw cell
pub record PutsInRaw (a new : NamedHeap) (t : ℕ) (r : Raw) (word : ℕ) : Type 0 where
  pub is_raw : IsRaw r
  pub effect : new ≡ with_raw a t r word

-- one slot of an object becomes another, and its word with it: a field, or a raw word
pub record PutsInSlot (a new : NamedHeap) (index word : ℕ) : Type 0 where
  pub name : ℕ
  pub object : Object
  pub there : object_at a.objects name ≡ Some object
  pub contents : Contents
  pub kind : kind_of contents ≡ kind_of object.contents
  pub payload : payload_of contents ≡ payload_of object.contents
  pub i : ℕ
  pub slot : Slot
  pub within : i < length (slots object.contents)
  pub slots_are : slots contents ≡ slice_set (slots object.contents) i slot
  pub at_index : index ≡ object.place + i
  pub word_is : word ≡ word_of_slot a.objects slot
  pub effect : new ≡ record a { objects = slice_set a.objects name (Some (record object { contents = contents })) }

-- a word goes on the pins of a thread, which have room for it
pub record PushesPin (a new : NamedHeap) (t word : ℕ) : Type 0 where
  pub room : length (thread_at a t).pins < MOST_PINS
  pub effect : new ≡ with_pins a t ((thread_at a t).pins ++ word ∷ [])

-- a change of the words that makes a heap of another one
abbrev pub Makes : NamedHeap → ℕ → NamedHeap → Change → Type 0
Makes a t new changes.Nothing = new ≡ a
Makes a t new (changes.InCell cell word) = PutsInCell a new t cell word
Makes a t new (changes.InRaw r word) = PutsInRaw a new t r word
Makes a t new (changes.InSpace index word) = PutsInSlot a new index word
Makes a t new (changes.Inhibits count) = new ≡ with_thread a t (record (thread_at a t) { inhibits = count })
Makes a t new (changes.Owes last) = new ≡ with_thread a t (record (thread_at a t) { owed = Some last })
Makes a t new (changes.PushPin word) = PushesPin a new t word
Makes a t new changes.PopPin = new ≡ with_pins a t (but_last (thread_at a t).pins)

-- the answer of thread t's command, and what changes with it
pub record IsPlan (a : NamedHeap) (t : ℕ) (c : Command) (answer : Answer) (change : Change) : Type 0 where
  pub answers : answer ≡ (outcome_of a t c).answer
  pub makes : Makes a t (outcome_of a t c).heap change
