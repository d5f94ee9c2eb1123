use Rattle.std.proofs.Common.{◌≡◌, ℕ, List}
use Rattle.std.specs.Prelude.{vec_capacity}
use Rattle.copy_space.specs.Notes.{SameButQueued}
use Rattle.copy_space.specs.State.{state}
use Rattle.finalizers.specs.Sweeping.{AreWordsOf, HasSameParts}
use Rattle.finalizers.proofs.Progress.{Progress, Counts}
use Rattle.finalizers.proofs.lists.Finalizers.sweep.Given as goal

abbrev pub ghost-sweep_at : goal.ghost-sweep_at
ghost-sweep_at g a = g.a

abbrev pub invariant-loop-i : goal.invariant-loop-i
invariant-loop-i g l = record {
  progress : (list : List (ℕ × ℕ)) → AreWordsOf g.a (state l.fn.copier) list l.fn.self.registered →
      Progress g.a (state l.fn.copier) list l.i l.kept l.fn.self.registered l.self-inside.registered.items l.fn.self.queue l.self-inside.queue.items l.fn.copier.notes.now.queued.items l.copier.notes.now.queued.items;
  counts : Counts l.i l.kept l.fn.self.registered l.self-inside.registered.items l.fn.self.queue l.self-inside.queue.items l.fn.copier.notes.now.queued.items l.copier.notes.now.queued.items;
  queue_room : vec_capacity l.self-inside.queue ≡ vec_capacity l.initial.self-inside.queue;
  same : state l.copier ≡ state l.fn.copier;
  room : vec_capacity l.copier.notes.now.queued ≡ vec_capacity l.fn.copier.notes.now.queued;
  notes : SameButQueued l.fn.copier.notes.now l.copier.notes.now;
  parts : HasSameParts l.fn.copier l.copier;
}
