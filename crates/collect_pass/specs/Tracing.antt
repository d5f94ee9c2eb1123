-- Tracing, from its beginning to its end.
use Rattle.std.specs.Prelude.{◌≡◌, ℕ, ◌==◌, ◌*◌, ◌≤◌, List, [], length, map, find, Option, Some, None, Bool, false, unwrap_or, vec_capacity}
use Rattle.heap_terms.specs.declared.pages.Entry.{Entry}
use Rattle.heap_terms.specs.Generations.{names}
use Rattle.heap_terms.specs.Heap.{NamedHeap, object_at}
use Rattle.heap_terms.specs.Objects.{Object}
use Rattle.heap_terms.specs.Placement.{placement}
use Rattle.copy_space.specs.declared.marks.Mark.{Mark}
use Rattle.copy_space.specs.declared.notes.Move.{Move}
use Rattle.copy_space.specs.declared.notes.Pass.{Pass}
use Rattle.copy_space.specs.declared.notes.PassNotes.{PassNotes}
use Rattle.copy_space.specs.declared.placing.PagesInUse.{PagesInUse}
use Rattle.copy_space.specs.Copying.{CanBegin}
use Rattle.copy_space.specs.CullNotes.{culled_of, broken_of}
use Rattle.copy_space.specs.Notes.{SameRest}
use Rattle.copy_space.specs.State.{CopyState}
use Rattle.copy_space.specs.WeakNames.{AreWeakNames, weak_count}
use Rattle.finalizers.specs.Lists.{Lists}
use Rattle.finalizers.specs.Standing.{FinalizersStand}
use Rattle.finalizers.specs.Sweeping.{dead_ids}
use Rattle.pin_set.specs.Starts.{Starts}
use Rattle.trace_laws.specs.Rooted.{Rooted, RootsStand}
use Rattle.trace_laws.specs.Traced.{ArePinnedStarts}

-- whether an object is there and begins at an index
abbrev pub begins_at : ℕ → Option Object → Bool
begins_at index None = false
begins_at index (Some o) = o.place == index

-- the name of the object that begins at an index
abbrev pub name_at : NamedHeap → ℕ → ℕ
name_at a index = unwrap_or (find (λ name. begins_at index (object_at a.objects name)) (names a)) 0

-- the names that some moves move, in their order
abbrev pub moved_names : NamedHeap → List Move → List ℕ
moved_names a moves = map (λ (m : Move). name_at a m.old) moves

-- the pages in use after some moves
abbrev pub in_use_after : NamedHeap → List Move → PagesInUse
in_use_after a moves = record {
  cons = (placement a (moved_names a moves)).cons_page;
  boxed = (placement a (moved_names a moves)).boxed_page;
  unboxed = (placement a (moved_names a moves)).unboxed_page;
}

-- the state of a copier of which only its parts are left
unfoldable pub end_state : NamedHeap → List ℕ → List Entry → List Mark → List ℕ → Pass → List Move → CopyState
end_state a words pages marks pins pass moves = record {
  words = words;
  pages = pages;
  marks = marks;
  pins = pins;
  pass = pass;
  moves = moves;
  room = length marks;
  in_use = in_use_after a moves;
}

-- Tracing can begin: a copier can, the pins are the pinned objects, and the exact roots are those of the heap. No culls or
-- breaks are noted yet, and no weak pointers and tables listed; and there is room for all of them.
pub record CanTrace (h : Rooted) (words : List ℕ) (pages : List Entry) (marks : List Mark) (pins : List ℕ) (pass : Pass) (exact : List ℕ) (notes : PassNotes) (weak : Starts) : Type 0 where
  pub begins : CanBegin h.heap words pages marks pins pass.generation (vec_capacity notes.moves)
  pub unmoved : notes.moves.items ≡ []
  pub pinned : ArePinnedStarts h.heap pass.generation pins
  pub ambiguous : List ℕ
  pub roots : RootsStand h exact ambiguous
  pub none : weak.listed ≡ []
  pub room : weak_count h.heap ≤ weak.most
  pub no_culls : notes.culls.items ≡ []
  pub no_breaks : notes.breaks.items ≡ []
  pub culls_room : 64 * weak_count h.heap ≤ vec_capacity notes.culls
  pub breaks_room : weak_count h.heap ≤ vec_capacity notes.breaks

-- finalizers can be swept: list and queue stand for those of the heap, nothing is queued yet, and there is room for the numbers of all
pub record CanFinalize (a : NamedHeap) (finalizers : Lists) (notes : PassNotes) : Type 0 where
  pub stand : FinalizersStand a finalizers
  pub none : notes.queued.items ≡ []
  pub room : length finalizers.registered ≤ vec_capacity notes.queued

-- The notes of tracing, of a pass that settled these names: the culls and breaks are those of the weak pointers and tables
-- that are settled, in the order in which these were met. The numbers of the finalizers of the others are queued, in the
-- order of registration, and the rest of the notes is as it was.
pub record AreTraceNotes (a : NamedHeap) (live : ℕ → Bool) (old new : PassNotes) : Type 0 where
  pub rest : SameRest old new
  pub queued : new.queued.items ≡ dead_ids live a.finalizers
  pub weak_names : List ℕ
  pub weak : AreWeakNames a live weak_names
  pub culls : new.culls.items ≡ culled_of a live weak_names
  pub breaks : new.breaks.items ≡ broken_of a live weak_names
  pub moves_room : vec_capacity new.moves ≡ vec_capacity old.moves
  pub culls_room : vec_capacity new.culls ≡ vec_capacity old.culls
  pub breaks_room : vec_capacity new.breaks ≡ vec_capacity old.breaks
  pub queued_room : vec_capacity new.queued ≡ vec_capacity old.queued
