-- What an event changes of a thread beside its cells: how far it is, its regions, what it owes, and whether it has ended.
use Rattle.std.proofs.Common.{◌≡◌, ◌≢◌, ℕ, ◌+◌, ◌<◌, ◌≤◌, List, length, Option, Some, None, Bool, true, false, inl, inr, refl, ◌∙◌, set, arith}
use Rattle.std.proofs.lemmas.List.{length-set}
use Rattle.std.specs.Prelude.{if◌then◌else◌, ◌==◌}
use Rattle.heap_terms.specs.declared.cells.Cell.{Cell}
use Rattle.heap_terms.specs.declared.cells.Cell.TheVariants.{Stack, Exact, Shared}
use Rattle.heap_terms.specs.declared.cells.Value.{Value}
use Rattle.heap_terms.specs.declared.commands.Command.{Command}
use Rattle.heap_terms.specs.declared.kinds.PageType.{PageType}
use Rattle.heap_terms.specs.declared.kinds.PageType.TheVariants as types
use Rattle.heap_terms.specs.declared.limits.TheConstants.{MOST_PAGES}
use Rattle.heap_terms.specs.declared.pages.Next.TheVariants as nexts
use Rattle.heap_terms.specs.declared.programs.Program.{Program}
use Rattle.heap_terms.specs.Cells.{with_cell}
use Rattle.heap_terms.specs.Heap.{NamedHeap, Thread, thread_at, with_thread, open_page}
use Rattle.heap_terms.specs.Histories.{advance, next, next_command, due, command_at}
use Rattle.heap_terms.specs.Objects.{Object}
use Rattle.heap_terms.specs.Outcomes.{outcome_of}
use Rattle.heap_terms.specs.Valid.{IsInRange, is_gc}
use Rattle.heap_terms.specs.WellFormed.{IsWellFormed}
use Rattle.heap_laws.proofs.Outcomes.Changes.{by_outcome}
use Rattle.heap_laws.proofs.WellFormed.Threads.{thread_cases, changed_thread, other_thread}

-- the two are the same but for their cells
pub record IsSameTask (old new : Thread) : Type 0 where
  pub done : new.done ≡ old.done
  pub owed : new.owed ≡ old.owed
  pub inhibits : new.inhibits ≡ old.inhibits
  pub ended : new.ended ≡ old.ended
  pub pages : (ty : PageType) → open_page new ty ≡ open_page old ty
  pub run : new.open_run ≡ old.open_run

pub same_task : (th : Thread) → IsSameTask th th
same_task th = record { done = refl; owed = refl; inhibits = refl; ended = refl; pages = λ ty. refl; run = refl }

pub task_then : (a b c : Thread) → IsSameTask a b → IsSameTask b c → IsSameTask a c
task_then a b c h g = record {
  done = g.done ∙ h.done;
  owed = g.owed ∙ h.owed;
  inhibits = g.inhibits ∙ h.inhibits;
  ended = g.ended ∙ h.ended;
  pages = λ ty. g.pages ty ∙ h.pages ty;
  run = g.run ∙ h.run;
}

-- a change that leaves pages and tasks, and adds no object
pub record IsSameBoard (a b : NamedHeap) : Type 0 where
  pub tasks : (u : ℕ) → IsSameTask (thread_at a u) (thread_at b u)
  pub pages : b.pages ≡ a.pages
  pub objects : length b.objects ≡ length a.objects
  pub threads : length b.threads ≡ length a.threads
  pub triggered : b.triggered ≡ a.triggered

pub same_board : (a : NamedHeap) → IsSameBoard a a
same_board a = record { tasks = λ u. same_task (thread_at a u); pages = refl; objects = refl; threads = refl; triggered = refl }

pub stack-task : (th : Thread) (vs : List Value) → IsSameTask th (record th { stack = vs })
stack-task th vs = record { done = refl; owed = refl; inhibits = refl; ended = refl; pages = λ ty. same th vs ty; run = refl }
  where
    same : (th : Thread) (vs : List Value) (ty : PageType) → open_page (record th { stack = vs }) ty ≡ open_page th ty
    same th vs types.Cons = refl
    same th vs types.Boxed = refl
    same th vs types.Unboxed = refl

pub exact-task : (th : Thread) (vs : List Value) → IsSameTask th (record th { exact = vs })
exact-task th vs = record { done = refl; owed = refl; inhibits = refl; ended = refl; pages = λ ty. same th vs ty; run = refl }
  where
    same : (th : Thread) (vs : List Value) (ty : PageType) → open_page (record th { exact = vs }) ty ≡ open_page th ty
    same th vs types.Cons = refl
    same th vs types.Boxed = refl
    same th vs types.Unboxed = refl

pub with_thread-board : (a : NamedHeap) (t : ℕ) (th : Thread) → IsSameTask (thread_at a t) th → IsSameBoard a (with_thread a t th)
with_thread-board a t th same = record {
  tasks = λ u. elim (thread_cases a t u th) [
    | inl e ↦ rw e (same_task (thread_at a u))
    | inr e ↦ rw (e.2, e.0) same
  ];
  pages = refl;
  objects = refl;
  threads = length-set a.threads t th;
  triggered = refl;
}

pub with_cell-board : (a : NamedHeap) (t : ℕ) (c : Cell) (v : Value) → IsSameBoard a (with_cell a t c v)
with_cell-board a t (Stack i) v = let th = thread_at a t in with_thread-board a t (record th { stack = set th.stack i v }) (stack-task th (set th.stack i v))
with_cell-board a t (Exact i) v = let th = thread_at a t in with_thread-board a t (record th { exact = set th.exact i v }) (exact-task th (set th.exact i v))
with_cell-board a t (Shared i) v = record { tasks = λ u. same_task (thread_at a u); pages = refl; objects = refl; threads = refl; triggered = refl }

pub with_cell-objects : (a : NamedHeap) (t : ℕ) (c : Cell) (v : Value) → (with_cell a t c v).objects ≡ a.objects
with_cell-objects a t (Stack i) v = refl
with_cell-objects a t (Exact i) v = refl
with_cell-objects a t (Shared i) v = refl

-- a thread is as far as it was, inhibits once more at most, and owes what it owed unless it asks for a collection
pub record IsAsFar (asks : Bool) (old new : Thread) : Type 0 where
  pub done : new.done ≡ old.done
  pub ended : new.ended ≡ old.ended
  pub owed : asks ≡ false → new.owed ≡ old.owed
  pub inhibits : new.inhibits ≤ old.inhibits + 1

-- a change by thread t's command that leaves pages and the tasks of the others, and adds no object
pub record IsOwnChange (a b : NamedHeap) (t : ℕ) (asks : Bool) : Type 0 where
  pub own : IsAsFar asks (thread_at a t) (thread_at b t)
  pub others : (u : ℕ) → u ≢ t → IsSameTask (thread_at a u) (thread_at b u)
  pub pages : b.pages ≡ a.pages
  pub objects : length b.objects ≡ length a.objects
  pub threads : length b.threads ≡ length a.threads
  pub triggered : b.triggered ≡ a.triggered

pub board-own : (a b : NamedHeap) (t : ℕ) (asks : Bool) → IsSameBoard a b → IsOwnChange a b t asks
board-own a b t asks h = record {
  own = let task = h.tasks t in record { done = task.done; ended = task.ended; owed = λ _. task.owed; inhibits = omega (arith, task.inhibits) };
  others = λ u other. h.tasks u;
  pages = h.pages;
  objects = h.objects;
  threads = h.threads;
  triggered = h.triggered;
}

-- the heap with other objects, as many as before, and other finalizers
same_names : (a : NamedHeap) (objects : List (Option Object)) (fs : List (ℕ × ℕ)) (queue : List ℕ) → length objects ≡ length a.objects →
    IsSameBoard a (record a { objects = objects; finalizers = fs; queue = queue })
same_names a objects fs queue e = record { tasks = λ u. same_task (thread_at a u); pages = refl; objects = e; threads = refl; triggered = refl }

-- what a command that allocates nothing changes
pub outcome-board : (p : Program) (a : NamedHeap) (t : ℕ) (c : Command) → IsWellFormed p a → p.pages ≤ MOST_PAGES → t < length p.threads → (thread_at a t).ended ≡ false →
    IsInRange c → IsOwnChange a (outcome_of a t c).heap t (is_gc c)
outcome-board p a t c w few l alive in_range = by_outcome p a t (λ b. IsOwnChange a b t (is_gc c)) w few l alive (is_gc c)
    (board-own a a t (is_gc c) (same_board a))
    (λ d v living. board-own a (with_cell a t d v) t (is_gc c) (with_cell-board a t d v))
    (λ th r. record {
      own = elim (thread_cases a t t th) [
        | inl e ↦ rw e (record { done = refl; ended = refl; owed = λ _. refl; inhibits = omega arith })
        | inr e ↦ rw e.2 (record { done = r.done; ended = r.ended; owed = r.owed; inhibits = r.inhibits })
      ];
      others = λ u other. rw (other_thread a t u th other) (same_task (thread_at a u));
      pages = refl;
      objects = refl;
      threads = length-set a.threads t th;
      triggered = refl;
    })
    (λ name o q e same living shape. board-own a (record a { objects = set a.objects name (Some q) }) t (is_gc c)
    (same_names a (set a.objects name (Some q)) a.finalizers a.queue (length-set a.objects name (Some q))))
    (λ fs all. board-own a (record a { finalizers = fs }) t (is_gc c) (same_names a a.objects fs a.queue refl))
    (board-own a (record a { queue = _ }) t (is_gc c) (same_names a a.objects a.finalizers _ refl))
    c refl in_range

-- the thread that went on in its script
pub advanced_thread : (a : NamedHeap) (t : ℕ) → t < length a.threads → thread_at (advance a t) t ≡ record (thread_at a t) { done = (thread_at a t).done + 1 }
advanced_thread a t l = changed_thread a t (record (thread_at a t) { done = (thread_at a t).done + 1 }) l

pub advance_others : (a : NamedHeap) (t u : ℕ) → u ≢ t → thread_at (advance a t) u ≡ thread_at a u
advance_others a t u h = other_thread a t u (record (thread_at a t) { done = (thread_at a t).done + 1 }) h

-- nothing is due for a thread that owes nothing, nor for one that inhibits
pub due_none : (th : Thread) → th.owed ≡ None → due th ≡ None
due_none th e = go (th.inhibits == 0) th.owed e
  where
    go : (b : Bool) (o : Option ℕ) → o ≡ None → (if b then o else None) ≡ None
    go true o e = e
    go false o e = refl

-- a thread for which nothing is due goes on in its script
pub next_free-is : (p : Program) (a : NamedHeap) (t : ℕ) → due (thread_at a t) ≡ None → (thread_at a t).ended ≡ false →
    next p a t ≡ next_command a t (command_at p a t)
unfolding next
next_free-is p a t free alive = rw (alive, free) refl

pub next_alive : (p : Program) (a : NamedHeap) (t : ℕ) → (thread_at a t).owed ≡ None → (thread_at a t).ended ≡ false →
    next p a t ≡ next_command a t (command_at p a t)
next_alive p a t owed alive = next_free-is p a t (due_none (thread_at a t) owed) alive

pub next_ended : (p : Program) (a : NamedHeap) (t : ℕ) → (thread_at a t).ended ≡ true → next p a t ≡ nexts.Done
unfolding next
next_ended p a t ended = rw ended refl
