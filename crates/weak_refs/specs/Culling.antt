-- Pairs of which a side that they hang on is not settled are taken out of their tables. A pair is taken out by the rule of
-- its table's weakness; what is said here of one table holds where every pair keeps what its weakness says.
use Rattle.std.specs.Prelude.{◌≡◌, ℕ, ◌+◌, ◌*◌, ◌<◌, ◌≤◌, ◌⊎◌, ◌&&◌, List, [], ◌∷◌, ◌++◌, map, filter, take, length, slice_index, slice_set, vec_len, vec_capacity, Some, Bool, false, not, if◌then◌else◌}
use Rattle.heap_terms.specs.declared.cells.Value.{Value}
use Rattle.heap_terms.specs.declared.kinds.Kind.TheVariants as kinds
use Rattle.heap_terms.specs.declared.kinds.Weakness.{Weakness}
use Rattle.heap_terms.specs.Heap.{NamedHeap, object_at}
use Rattle.heap_terms.specs.Layout.{unbound_word}
use Rattle.heap_terms.specs.Live.{is_live, Keeps, KeepPairs}
use Rattle.heap_terms.specs.Objects.{Object, words_of_object}
use Rattle.heap_terms.specs.Survival.{is_kept}
use Rattle.copy_space.specs.declared.notes.CullNote.{CullNote}
use Rattle.copy_space.specs.declared.notes.PassNotes.{PassNotes}
use Rattle.copy_space.specs.Midway.{IsPlacedSoFar}
use Rattle.copy_space.specs.Moved.{new_of}
use Rattle.copy_space.specs.Notes.{SameRest}
use Rattle.copy_space.specs.Settled.{is_settled, word_before, word_now, IsWordOf}
use Rattle.copy_space.specs.State.{CopyState}
use Rattle.copy_space.specs.CullNotes.{culled_of}
use Rattle.copy_space.specs.WeakNames.{AreNamed}
use Rattle.weak_refs.specs.Rewriting.{AreWeakStarts, IsWeakStart}
use Rattle.weak_refs.specs.Tables.{IsTableNow, pair_at}

-- the notes have room for some more culls
abbrev pub HasRoomForCulls : PassNotes → List CullNote → Type 0
HasRoomForCulls notes more = vec_len notes.culls + length more ≤ vec_capacity notes.culls

-- Tables can be culled: the starts are those of weak pointers and tables, the tables stand as the moves left them, each
-- pair keeps what its weakness says, and the notes have room for all culled pairs.
pub record CanCull (a : NamedHeap) (s : CopyState) (starts : List ℕ) (notes : PassNotes) : Type 0 where
  pub starts_are : AreWeakStarts a s kinds.Table starts
  pub names : List ℕ
  pub named : AreNamed a s starts names
  pub ready : (k : ℕ) (o : Object) → k < length starts → object_at a.objects (slice_index names k) ≡ Some o → Keeps (is_settled a s) o.contents
  pub room : HasRoomForCulls notes (culled_of a (is_settled a s) names)

-- the same of one start
pub record CanCullAt (a : NamedHeap) (s : CopyState) (start : ℕ) (notes : PassNotes) : Type 0 where
  pub places : IsPlacedSoFar a s
  pub start_is : IsWeakStart a s kinds.Table start
  pub ready : Keeps (is_settled a s) start_is.at.o.contents
  pub room : HasRoomForCulls notes (culled_of a (is_settled a s) (start_is.name ∷ []))

-- of the first n pairs of a table those that are kept, and the notes of the others
abbrev pub kept_of : (ℕ → Bool) → Weakness → List (Value × Value) → ℕ → List (Value × Value)
kept_of live w pairs n = filter (is_kept live w) (take n pairs)

abbrev pub note_of : NamedHeap → ℕ → Value × Value → CullNote
note_of a place pair = record { table = place; key = word_before a pair.0; value = word_before a pair.1 }

abbrev pub notes_of : NamedHeap → (ℕ → Bool) → ℕ → Weakness → List (Value × Value) → ℕ → List CullNote
notes_of a live place w pairs n = map (note_of a place) (filter (λ pair. not (is_kept live w pair)) (take n pairs))

-- one table can be culled
pub record CanCullTable (a : NamedHeap) (s : CopyState) (start : ℕ) (notes : PassNotes) : Type 0 where
  pub places : IsPlacedSoFar a s
  pub table : IsTableNow a s start
  pub ready : KeepPairs (is_settled a s) table.w table.pairs
  pub room : HasRoomForCulls notes (notes_of a (is_settled a s) table.o.place table.w table.pairs (length table.pairs))

-- and its pairs, so many, can be gone through
pub record CanKeepPairs (a : NamedHeap) (s : CopyState) (start place count : ℕ) (notes : PassNotes) : Type 0 where
  pub can : CanCullTable a s start notes
  pub place_is : place ≡ can.table.o.place
  pub count_is : count ≡ length can.table.pairs

-- So many pairs of a table are gone through: those of them that are kept stand one after the other, with the words that
-- they have after the pass, up to an index; the others are noted.
pub record ArePairsKept (a : NamedHeap) (s t : CopyState) (start : ℕ) (q : IsTableNow a s start) (n to : ℕ) : Type 0 where
  pub same : t ≡ record s { words = t.words }
  pub places : IsPlacedSoFar a t
  pub to_is : to ≡ start + 4 + 2 * length (kept_of (is_settled a s) q.w q.pairs n)
  pub keys : (k : ℕ) → k < length (kept_of (is_settled a s) q.w q.pairs n) → slice_index t.words (start + 4 + 2 * k) ≡ word_now a s (pair_at (kept_of (is_settled a s) q.w q.pairs n) k).0
  pub values : (k : ℕ) → k < length (kept_of (is_settled a s) q.w q.pairs n) → slice_index t.words (start + 5 + 2 * k) ≡ word_now a s (pair_at (kept_of (is_settled a s) q.w q.pairs n) k).1
  pub others : (i : ℕ) → (i < start + 4) ⊎ (to ≤ i) → slice_index t.words i ≡ slice_index s.words i

abbrev pub AreCullsNoted : (a : NamedHeap) (s : CopyState) (start : ℕ) → IsTableNow a s start → ℕ → PassNotes → PassNotes → Type 0
AreCullsNoted a s start q n old new = new.culls.items ≡ old.culls.items ++ notes_of a (is_settled a s) q.o.place q.w q.pairs n

-- whether both sides of a pair are settled
abbrev pub both_live : NamedHeap → CopyState → Value → Value → Bool
both_live a s u v = is_live (is_settled a s) u && is_live (is_settled a s) v

-- a pair stands at an index, and can be kept at another one
pub record CanKeepPair (a : NamedHeap) (s : CopyState) (at to : ℕ) (notes : PassNotes) : Type 0 where
  pub places : IsPlacedSoFar a s
  pub u : Value
  pub v : Value
  pub key : IsWordOf a s u (slice_index s.words at)
  pub value : IsWordOf a s v (slice_index s.words (at + 1))
  pub at_inside : at + 2 ≤ length s.words
  pub to_inside : to + 2 ≤ length s.words
  pub room : both_live a s u v ≡ false → vec_len notes.culls + 1 ≤ vec_capacity notes.culls

-- the words after a pair was put at an index
abbrev pub with_pair : List ℕ → ℕ → ℕ → ℕ → List ℕ
with_pair words to key value = slice_set (slice_set words to key) (to + 1) value

-- a pair of which both sides are settled stands at an index, and the next one goes behind it; another pair is noted
pub record IsPairKept (a : NamedHeap) (s t : CopyState) (place at to : ℕ) (u v : Value) (next : ℕ) (old new : PassNotes) : Type 0 where
  pub next_is : next ≡ (if both_live a s u v then to + 2 else to)
  pub is : t ≡ (if both_live a s u v then record s { words = with_pair s.words to (word_now a s u) (word_now a s v) } else s)
  pub noted : new.culls.items ≡ old.culls.items ++ (if both_live a s u v then [] else record { table = place; key = slice_index s.words at; value = slice_index s.words (at + 1) } ∷ [])

-- a stretch of words of an object
pub record CanClear (a : NamedHeap) (s : CopyState) (from to : ℕ) : Type 0 where
  pub places : IsPlacedSoFar a s
  pub name : ℕ
  pub o : Object
  pub there : object_at a.objects name ≡ Some o
  pub order : from ≤ to
  pub low : new_of s.moves o.place ≤ from
  pub high : to ≤ new_of s.moves o.place + words_of_object o

-- the words of a stretch are unbound, and no other word has changed
pub record IsCleared (a : NamedHeap) (s t : CopyState) (from to : ℕ) : Type 0 where
  pub same : t ≡ record s { words = t.words }
  pub places : IsPlacedSoFar a t
  pub cleared : (i : ℕ) → from ≤ i → i < to → slice_index t.words i ≡ unbound_word
  pub others : (i : ℕ) → (i < from) ⊎ (to ≤ i) → slice_index t.words i ≡ slice_index s.words i

-- of the notes only the culls and the moves may be others
pub record SameButCulled (old new : PassNotes) : Type 0 where
  pub rest : SameRest old new
  pub breaks : new.breaks ≡ old.breaks
  pub queued : new.queued ≡ old.queued
