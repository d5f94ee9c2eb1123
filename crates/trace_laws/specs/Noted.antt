-- When the notes of a pass, in indices and words, tell what a record tells in names.
use Rattle.std.specs.Prelude.{◌≡◌, ◌≢◌, ℕ, List, map, All, Some}
use Rattle.heap_terms.specs.declared.events.PassRecord.{PassRecord}
use Rattle.heap_terms.specs.declared.events.PinAt.{PinAt}
use Rattle.heap_terms.specs.declared.events.Placing.{Placing}
use Rattle.heap_terms.specs.Heap.{NamedHeap, object_at}
use Rattle.heap_terms.specs.Objects.{Object}
use Rattle.heap_terms.specs.Passes.{remains}
use Rattle.copy_space.specs.declared.notes.PassNotes.{PassNotes}
use Rattle.copy_space.specs.CullNotes.{culled_of, broken_of}
use Rattle.copy_space.specs.Moved.{noted}
use Rattle.copy_space.specs.WeakNames.{AreWeakNames}

-- a move of a record is of an object that was there before the pass, from its place, and not to that place
pub record IsMoveOf (a : NamedHeap) (m : Placing) : Type 0 where
  pub o : Object
  pub there : object_at a.objects m.name ≡ Some o
  pub old : m.old ≡ o.place
  pub away : m.new ≢ Some m.old

-- a pin of a record is of an object that was there before the pass, at its place
pub record IsPinOf (a : NamedHeap) (q : PinAt) : Type 0 where
  pub o : Object
  pub there : object_at a.objects q.name ≡ Some o
  pub index : q.index ≡ o.place

-- The notes tell the record. Culls and breaks are noted by the names of the weak pointers and tables that remain, in the
-- order in which the pass met these, which is free: table by table, the pairs of a table in their order.
pub record IsToldBy (a : NamedHeap) (r : PassRecord) (n : PassNotes) : Type 0 where
  pub generation : n.generation ≡ r.generation
  pub target : n.target ≡ r.target
  pub moves : n.moves.items ≡ map noted r.moves
  pub moved : All (IsMoveOf a) r.moves
  pub pins : n.pins.items ≡ map (λ (q : PinAt). q.index) r.pins
  pub pinned : All (IsPinOf a) r.pins
  pub weak_names : List ℕ
  pub weak : AreWeakNames a (remains a r) weak_names
  pub culls : n.culls.items ≡ culled_of a (remains a r) weak_names
  pub breaks : n.breaks.items ≡ broken_of a (remains a r) weak_names
  pub queued : n.queued.items ≡ r.queued
  pub freed : n.freed.items ≡ r.freed
  pub dead : n.dead ≡ r.dead
  pub kept : n.kept ≡ r.kept
