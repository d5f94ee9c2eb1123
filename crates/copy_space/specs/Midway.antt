-- What holds in the middle of a pass, of the heap before it and of what the copier has done so far. Two parts: where the
-- objects are, and what stands in them. That moved objects leave forwarding words is SBCL's; the rest is this project's
-- own. Left free is in which order objects are met.
use Rattle.std.specs.Prelude.{◌≡◌, ◌≢◌, ℕ, ◌+◌, ◌*◌, ◌<◌, ◌≤◌, List, [], length, map, count_by, All, AllPairs, Some, true, false, nat_eq, slice_index}
use Rattle.std.specs.List.{list_any}
use Rattle.heap_terms.specs.declared.cells.Value.TheVariants.{Ref}
use Rattle.heap_terms.specs.declared.limits.TheConstants.{OLDEST_COLLECTED, MOST_PAGES}
use Rattle.heap_terms.specs.declared.pages.Entry.TheVariants.{Free}
use Rattle.heap_terms.specs.Generations.{is_of}
use Rattle.heap_terms.specs.Heap.{NamedHeap, object_at, entry_at, fill_of}
use Rattle.heap_terms.specs.Layout.{page_words, filler_word}
use Rattle.heap_terms.specs.Objects.{Object, Contents}
use Rattle.heap_terms.specs.OnPages.{IsOwned}
use Rattle.heap_terms.specs.Placement.{placement}
use Rattle.heap_terms.specs.Slots.{Slot, Raw, Val, Side, Kept, slot_at}
use Rattle.heap_terms.specs.Sound.{IsSound}
use Rattle.heap_terms.specs.Stands.{KeptStand}
use Rattle.copy_space.specs.declared.marks.Mark.TheVariants.{Moved}
use Rattle.copy_space.specs.declared.notes.Move.{Move}
use Rattle.copy_space.specs.Marks.{mark_at, is_set}
use Rattle.copy_space.specs.Moved.{new_of, objects_now, mark_for, noted}
use Rattle.copy_space.specs.Settled.{word_before, word_now, IsEitherWord}
use Rattle.copy_space.specs.State.{CopyState, placing_on}

-- the word with which a moved object's old place begins; no object begins with it
abbrev pub forwarding_word : ℕ
forwarding_word = 1

-- the name of an object of generation g that was at an index before the pass
pub record IsStartOf (a : NamedHeap) (g index name : ℕ) : Type 0 where
  pub of_it : is_of a g name ≡ true
  pub o : Object
  pub there : object_at a.objects name ≡ Some o
  pub here : o.place ≡ index

-- an object of generation g was at an index before the pass
abbrev pub HasStart : NamedHeap → ℕ → ℕ → Type 0
HasStart a g index = (name : ℕ) × IsStartOf a g index name

-- what the copier has of a placement of names: its pages, its pages in use, and its moves in indices
pub record IsPlacement (a : NamedHeap) (s : CopyState) (order : List ℕ) : Type 0 where
  pub on_pages : placing_on s.pages s.in_use ≡ record (placement a order) { moves = [] }
  pub moves : s.moves ≡ map noted (placement a order).moves

-- Where the objects are. The heap before the pass was sound, and the lists are as long as they have to be. The pages and
-- moves are the placement of the names that were met, each once, of the generation, and none pinned. Marks tell the pins
-- and moves. A moved object's old place has the forwarding word and then the word that refers to it now. Each used word
-- of a page that was taken belongs to an object that lies there now. Fillers stand where no object was.
pub record IsPlacedSoFar (a : NamedHeap) (s : CopyState) : Type 0 where
  pub sound : IsSound a
  pub generation : s.pass.generation ≤ OLDEST_COLLECTED
  pub most : length a.pages ≤ MOST_PAGES
  pub long : length s.words ≡ page_words * length a.pages
  pub marks_long : 2 * length s.marks ≡ length s.words
  pub room : length s.marks ≤ s.room
  pub order : List ℕ
  pub once : AllPairs (λ (x y : ℕ). x ≢ y) order
  pub met : All (λ name. is_of a s.pass.generation name ≡ true) order
  pub placed : IsPlacement a s order
  pub pins : All (HasStart a s.pass.generation) s.pins
  pub unpinned : All (λ (m : Move). list_any (nat_eq m.old) s.pins ≡ false) s.moves
  pub marks : (i : ℕ) → mark_at s.marks (2 * i) ≡ mark_for s.pins s.moves (2 * i)
  pub counted : length s.moves ≤ count_by is_set s.marks
  pub forwards : (name : ℕ) (o : Object) → object_at a.objects name ≡ Some o → mark_at s.marks o.place ≡ Moved →
      (slice_index s.words o.place ≡ forwarding_word) × (slice_index s.words (o.place + 1) ≡ word_now a s (Ref name))
  pub owned : (page i : ℕ) → entry_at a.pages page ≡ Free → i < fill_of (entry_at s.pages page) →
      IsOwned (objects_now a s.moves) (page_words * page + i)
  pub fillers : (page i : ℕ) → i < fill_of (entry_at a.pages page) → ¬ IsOwned a.objects (page_words * page + i) →
      slice_index s.words (page_words * page + i) ≡ filler_word

-- The word that stands for a slot: a field has its word before the pass or from now on; a side of a pair, and what a
-- weak pointer points to, has the word before the pass until pairs are culled and weak pointers broken. Nothing is said
-- here of a word that look-up keeps.
abbrev pub StandsMidway : NamedHeap → CopyState → Slot → ℕ → Type 0
StandsMidway a s (Raw w) word = word ≡ w
StandsMidway a s (Val v) word = IsEitherWord a s v word
StandsMidway a s (Side v) word = word ≡ word_before a v
StandsMidway a s Kept word = Unit {0}

-- from an index on the words stand so for the slots of an object that holds this
abbrev pub SlotsMidway : NamedHeap → CopyState → ℕ → Contents → Type 0
SlotsMidway a s from contents = (i : ℕ) (slot : Slot) → slot_at contents i ≡ Some slot → StandsMidway a s slot (slice_index s.words (from + i))

-- What stands in them: each object's words at its place now, those that look-up keeps as it wants them.
pub record IsSpelledSoFar (a : NamedHeap) (s : CopyState) : Type 0 where
  pub slots : (name : ℕ) (o : Object) → object_at a.objects name ≡ Some o → SlotsMidway a s (new_of s.moves o.place) o.contents
  pub kept : (name : ℕ) (o : Object) → object_at a.objects name ≡ Some o → KeptStand s.words (new_of s.moves o.place) o.contents

-- both
pub record Midway (a : NamedHeap) (s : CopyState) : Type 0 where
  pub places : IsPlacedSoFar a s
  pub spelled : IsSpelledSoFar a s
