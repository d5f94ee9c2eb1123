-- What a pass does to finalizers. That an object is finalized once nothing else refers to it is SBCL's.
use Rattle.std.specs.Prelude.{◌≡◌, ℕ, ◌+◌, ◌<◌, ◌≤◌, not, List, [], ◌∷◌, ◌++◌, length, map, filter, Option, Some, None, Bool, slice_index_or, slice_set, vec_len, vec_capacity}
use Rattle.std.specs.Global.{Vec}
use Rattle.heap_terms.specs.declared.cells.Value.{Value}
use Rattle.heap_terms.specs.declared.cells.Value.TheVariants.{Ref}
use Rattle.heap_terms.specs.Heap.{NamedHeap}
use Rattle.copy_space.specs.declared.copier.Copier.{Copier}
use Rattle.copy_space.specs.declared.notes.PassNotes.{PassNotes}
use Rattle.copy_space.specs.Midway.{IsPlacedSoFar}
use Rattle.copy_space.specs.Settled.{is_settled, IsWordOf, word_now}
use Rattle.copy_space.specs.State.{CopyState}
use Rattle.finalizers.specs.declared.lists.Registration.{Registration}
use Rattle.finalizers.specs.Lists.{Lists, registration_at}
use Rattle.finalizers.specs.Standing.{registrations}

-- of pairs (name, id) those of live names, and the ids of the others, in their order
abbrev pub living : (ℕ → Bool) → List (ℕ × ℕ) → List (ℕ × ℕ)
living live list = filter (λ entry. live entry.0) list

abbrev pub dead_ids : (ℕ → Bool) → List (ℕ × ℕ) → List ℕ
dead_ids live list = map (λ entry. entry.1) (filter (λ entry. not (live entry.0)) list)

-- a name that stands for one past the list's end
abbrev pub pair_at : List (ℕ × ℕ) → ℕ → ℕ × ℕ
pair_at list i = slice_index_or list i (0, 0)

-- place by place, registrations are of these names, each by a word that evacuation takes, and have these ids
pub record AreWordsOf (a : NamedHeap) (s : CopyState) (list : List (ℕ × ℕ)) (registered : List Registration) : Type 0 where
  pub long : length registered ≡ length list
  pub words : (i : ℕ) → i < length list → IsWordOf a s (Ref (pair_at list i).0) (registration_at registered i).object
  pub ids : (i : ℕ) → i < length list → (registration_at registered i).id ≡ (pair_at list i).1

-- the list can be swept: its objects are words that evacuation takes, and the notes have room for all ids
pub record CanSweep (a : NamedHeap) (s : CopyState) (registered : List Registration) (notes : PassNotes) : Type 0 where
  pub places : IsPlacedSoFar a s
  pub list : List (ℕ × ℕ)
  pub named : AreWordsOf a s list registered
  pub room : vec_len notes.queued + length registered ≤ vec_capacity notes.queued

-- it was: those of settled names remain with the words that they have from now on, and the ids of the others are queued
pub record IsSwept (a : NamedHeap) (s : CopyState) (list : List (ℕ × ℕ)) (old new : Lists) : Type 0 where
  pub registered : new.registered ≡ registrations (λ name. word_now a s (Ref name)) (living (is_settled a s) list)
  pub queue : new.queue ≡ old.queue ++ dead_ids (is_settled a s) list

-- one registration can be gone over
pub record CanSweepAt (a : NamedHeap) (s : CopyState) (registered : Vec Registration) (queue : Vec ℕ) (i kept : ℕ) (notes : PassNotes) : Type 0 where
  pub places : IsPlacedSoFar a s
  pub value : Value
  pub is_word : IsWordOf a s value (registration_at registered.items i).object
  pub inside : i < vec_len registered
  pub behind : kept ≤ i
  pub queue_room : vec_len queue < vec_capacity queue
  pub notes_room : vec_len notes.queued < vec_capacity notes.queued

-- It was: the registration has moved to the end of those that are kept, with a word, or its id is queued and noted.
abbrev pub IsSweptAt : Option ℕ → ℕ → ℕ → List Registration → List Registration → List ℕ → List ℕ → List ℕ → List ℕ → ℕ → Type 0
IsSweptAt (Some word) id kept old new queue_old queue_new noted_old noted_new end =
    (new ≡ slice_set old kept (record { object = word; id = id })) × (queue_new ≡ queue_old) × (noted_new ≡ noted_old) × (end ≡ kept + 1)
IsSweptAt None id kept old new queue_old queue_new noted_old noted_new end =
    (new ≡ old) × (queue_new ≡ queue_old ++ id ∷ []) × (noted_new ≡ noted_old ++ id ∷ []) × (end ≡ kept)

-- a copier has the same parts as before
pub record HasSameParts (old new : Copier) : Type 0 where
  pub same_space : new.space.ghost_name ≡ old.space.ghost_name
  pub same_pages : new.pages.ghost_name ≡ old.pages.ghost_name
  pub same_marks : new.marks.ghost_name ≡ old.marks.ghost_name
  pub same_notes : new.notes.ghost_name ≡ old.notes.ghost_name
