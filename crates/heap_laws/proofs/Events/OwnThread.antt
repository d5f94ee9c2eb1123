-- What an event does to the threads: its own goes on by a command, or ends, and the others are as far as they were.
use Rattle.std.proofs.Common.{◌≡◌, ◌≢◌, ℕ, ◌+◌, ◌<◌, ◌≤◌, List, [], ◌∷◌, ◌++◌, length, Option, Some, None, Bool, true, false, inl, inr, refl, sym, ◌∙◌, subst, ap, arith, get_or}
use Rattle.std.proofs.lemmas.Bool.{cases_lt, false≢true}
use Rattle.std.proofs.lemmas.List.{length-set, length_push}
use Rattle.std.proofs.lemmas.Option.{slice_get-get_or}
use Rattle.std.specs.Prelude.{slice_get, if◌then◌else◌}
use Rattle.heap_terms.specs.declared.cells.Cell.{Cell}
use Rattle.heap_terms.specs.declared.cells.Value.{Value}
use Rattle.heap_terms.specs.declared.cells.Value.TheVariants as values
use Rattle.heap_terms.specs.declared.commands.Command.{Command}
use Rattle.heap_terms.specs.declared.events.Event.{Event}
use Rattle.heap_terms.specs.declared.events.Event.TheVariants.{Did, Opened, Collected, Ended}
use Rattle.heap_terms.specs.declared.events.PassRecord.{PassRecord}
use Rattle.heap_terms.specs.declared.kinds.Kind.{Kind}
use Rattle.heap_terms.specs.declared.kinds.PageType.{PageType}
use Rattle.heap_terms.specs.declared.programs.Program.{Program}
use Rattle.heap_terms.specs.Collections.{collected}
use Rattle.heap_terms.specs.Heap.{NamedHeap, Thread, thread_at, with_thread, ended_thread}
use Rattle.heap_terms.specs.Histories.{IsNext, after, advance, command_at, script_of, thread_of}
use Rattle.heap_terms.specs.Layout.{size_of}
use Rattle.heap_laws.specs.Order.{is_end}
use Rattle.heap_laws.specs.Remaining.{owes, triggers_left}
use Rattle.heap_terms.specs.Outcomes.{outcome_of}
use Rattle.heap_terms.specs.Regions.{is_small, committed, opened, counting, destination_of, with_destination, place_for, pages_after, run_used}
use Rattle.heap_terms.specs.Valid.{is_gc}
use Rattle.heap_laws.specs.Limited.{IsLimited}
use Rattle.heap_terms.specs.WellFormed.{IsWellFormed}
use Rattle.heap_laws.proofs.Events.Causes.{Collects, by_events, alive_thread}
use Rattle.heap_laws.proofs.Events.CollectedThreads.{collected_threads}
use Rattle.heap_laws.proofs.Events.Counted.{owes_most, counts}
use Rattle.heap_laws.proofs.Events.Tasks.{IsSameTask, IsSameBoard, IsOwnChange, same_task, task_then, same_board, with_cell-board, with_cell-objects, outcome-board, advanced_thread, advance_others}
use Rattle.heap_laws.proofs.Programs.Limits.{script_in_range}
use Rattle.heap_laws.proofs.Programs.ScriptCommands.{script_place, script_thread}
use Rattle.heap_laws.proofs.WellFormed.Committed.{new_object}
use Rattle.heap_laws.proofs.WellFormed.RegionOpened.{opens_run, thread_with_run}
use Rattle.heap_laws.proofs.WellFormed.Threads.{changed_thread, other_thread, thread_cases}

-- a heap after a commit, but for the thread's place in its script
pub record IsBuilt (p : Program) (a b : NamedHeap) (t : ℕ) (c : Command) (kind : Kind) (n : ℕ) : Type 0 where
  pub others : (u : ℕ) → u ≢ t → IsSameTask (thread_at a u) (thread_at b u)
  pub done : (thread_at b t).done ≡ (thread_at a t).done
  pub ended : (thread_at b t).ended ≡ (thread_at a t).ended
  pub owed : owes (thread_at b t).owed + triggers_left p b ≤ owes (thread_at a t).owed + triggers_left p a
  pub calm : p.auto ≡ 0 → (thread_at b t).owed ≡ (thread_at a t).owed
  pub inhibits : (thread_at b t).inhibits ≡ (thread_at a t).inhibits
  pub threads : length b.threads ≡ length a.threads
  pub objects : b.objects ≡ a.objects ++ Some (new_object a t c (place_for a t kind (size_of kind n))) ∷ []
  pub pages : b.pages ≡ pages_after a t kind (size_of kind n)

with_destination-board : (b : NamedHeap) (t : ℕ) (o : Option Cell) (v : Value) → IsSameBoard b (with_destination b t o v)
with_destination-board b t None v = same_board b
with_destination-board b t (Some d) v = with_cell-board b t d v

pub with_destination-objects : (b : NamedHeap) (t : ℕ) (o : Option Cell) (v : Value) → (with_destination b t o v).objects ≡ b.objects
with_destination-objects b t None v = refl
with_destination-objects b t (Some d) v = with_cell-objects b t d v

-- a thread that uses its run up is as far as it was
run_used-far : (th : Thread) (size : ℕ) → ((run_used th size).done ≡ th.done) × ((run_used th size).ended ≡ th.ended) × ((run_used th size).owed ≡ th.owed)
    × ((run_used th size).inhibits ≡ th.inhibits)
run_used-far th size = go (is_small size)
  where
    go : (b : Bool) → ((if b then th else record th { open_run = None }).done ≡ th.done) × ((if b then th else record th { open_run = None }).ended ≡ th.ended)
        × ((if b then th else record th { open_run = None }).owed ≡ th.owed) × ((if b then th else record th { open_run = None }).inhibits ≡ th.inhibits)
    go true = (refl, refl, refl, refl)
    go false = (refl, refl, refl, refl)

pub built_heap : (p : Program) (a : NamedHeap) (t : ℕ) (c : Command) (kind : Kind) (n : ℕ) → IsBuilt p a (committed p a t c kind n) t c kind n
unfolding committed
built_heap p a t c kind n =
    let size = size_of kind n in
    let th = run_used (thread_at a t) size in
    let o = new_object a t c (place_for a t kind size) in
    let placed : NamedHeap = record (with_thread a t th) { objects = a.objects ++ Some o ∷ []; pages = pages_after a t kind size } in
    let v = values.Ref (length a.objects) in
    let board = with_destination-board placed t (destination_of c) v in
    let b = with_destination placed t (destination_of c) v in
    let count = counts p b t size in
    let far = run_used-far (thread_at a t) size in
    let own : ((thread_at placed t).done ≡ (thread_at a t).done) × ((thread_at placed t).ended ≡ (thread_at a t).ended) × ((thread_at placed t).owed ≡ (thread_at a t).owed)
    × ((thread_at placed t).inhibits ≡ (thread_at a t).inhibits) =
    elim (thread_cases a t t th) [
      | inl e ↦ (ap (λ (x : Thread). x.done) e, ap (λ (x : Thread). x.ended) e, ap (λ (x : Thread). x.owed) e, ap (λ (x : Thread). x.inhibits) e)
      | inr e ↦ (ap (λ (x : Thread). x.done) e.2 ∙ far.0, ap (λ (x : Thread). x.ended) e.2 ∙ far.1, ap (λ (x : Thread). x.owed) e.2 ∙ far.2, ap (λ (x : Thread). x.inhibits) e.2 ∙ far.3)
    ] in
    let task = board.tasks t in
    let left_same : triggers_left p b ≡ triggers_left p a = ap (λ (x : ℕ). triggers_left p (record a { triggered = x })) board.triggered in
    let owed_same : owes (thread_at b t).owed ≡ owes (thread_at a t).owed = ap (λ (x : Option ℕ). owes x) (task.owed ∙ own.2) in
    record {
      others = λ u other. task_then (thread_at a u) (thread_at b u) (thread_at (counting p b t size) u)
          (subst (λ (x : Thread). IsSameTask x (thread_at b u)) (other_thread a t u th other) (board.tasks u)) (count.others u other);
      done = count.done ∙ task.done ∙ own.0;
      ended = count.ended ∙ task.ended ∙ own.1;
      owed = (let less = count.owed in omega arith);
      calm = λ off. count.calm off ∙ task.owed ∙ own.2;
      inhibits = count.inhibits ∙ task.inhibits ∙ own.3;
      threads = count.threads ∙ board.threads ∙ length-set a.threads t th;
      objects = count.objects ∙ with_destination-objects placed t (destination_of c) v;
      pages = count.pages ∙ board.pages;
    }

-- how many commands an event is, how many of them `gc`, and how many collections
abbrev pub commands_in : Event → ℕ
commands_in (Did t c answer) = 1
commands_in (Opened t ty first k) = 0
commands_in (Collected t last passes) = 0
commands_in (Ended t) = 0

abbrev pub gcs_in : Event → ℕ
gcs_in (Did t c answer) = if is_gc c then 1 else 0
gcs_in (Opened t ty first k) = 0
gcs_in (Collected t last passes) = 0
gcs_in (Ended t) = 0

abbrev pub collections_in : Event → ℕ
collections_in (Did t c answer) = 0
collections_in (Opened t ty first k) = 0
collections_in (Collected t last passes) = 1
collections_in (Ended t) = 0

-- a thread is as far as it was
pub record IsNoFurther (old new : Thread) : Type 0 where
  pub done : new.done ≡ old.done
  pub ended : new.ended ≡ old.ended
  pub owed : new.owed ≡ old.owed

task-no_further : (old new : Thread) → IsSameTask old new → IsNoFurther old new
task-no_further old new h = record { done = h.done; ended = h.ended; owed = h.owed }

-- the thread of an event did its commands, or ended, and the others are as far as they were
pub record HasMoved (p : Program) (a b : NamedHeap) (e : Event) : Type 0 where
  pub alive : (thread_at a (thread_of e)).ended ≡ false
  pub others : (u : ℕ) → u ≢ thread_of e → IsNoFurther (thread_at a u) (thread_at b u)
  pub done : (thread_at b (thread_of e)).done ≡ (thread_at a (thread_of e)).done + commands_in e
  pub ended : (thread_at b (thread_of e)).ended ≡ is_end e
  pub within : 1 ≤ commands_in e → (thread_at a (thread_of e)).done < length (script_of p (thread_of e))
  pub over : is_end e ≡ true → length (script_of p (thread_of e)) ≤ (thread_at a (thread_of e)).done
  pub owed : owes (thread_at b (thread_of e)).owed + triggers_left p b + collections_in e ≤ owes (thread_at a (thread_of e)).owed + triggers_left p a + gcs_in e
  pub objects : length b.objects ≤ length a.objects + commands_in e
  pub threads : length b.threads ≡ length a.threads

-- the thread goes on after a command that left it where it was
advance-moved : (p : Program) (a x : NamedHeap) (t : ℕ) (c : Command) (answer : _) → (thread_at a t).ended ≡ false → command_at p a t ≡ Some c →
    ((u : ℕ) → u ≢ t → IsSameTask (thread_at a u) (thread_at x u)) → (thread_at x t).done ≡ (thread_at a t).done → (thread_at x t).ended ≡ (thread_at a t).ended →
    owes (thread_at x t).owed + triggers_left p x ≤ owes (thread_at a t).owed + triggers_left p a + gcs_in (Did t c answer) →
    length x.threads ≡ length a.threads → length x.objects ≤ length a.objects + 1 →
    HasMoved p a (advance x t) (Did t c answer)
advance-moved p a x t c answer alive command others done ended owed threads objects =
    let l : t < length x.threads = (let in_a = alive_thread a t alive in omega arith) in
    let here = advanced_thread x t l in
    record {
      alive = alive;
      others = λ u h. rw (advance_others x t u h) (task-no_further (thread_at a u) (thread_at x u) (others u h));
      done = ap (λ (th : Thread). th.done) here ∙ ap (λ (k : ℕ). k + 1) done;
      ended = ap (λ (th : Thread). th.ended) here ∙ ended ∙ alive;
      within = λ one. script_place p t (thread_at a t).done c command;
      over = λ e. absurd (false≢true e);
      owed = (let same : owes (thread_at (advance x t) t).owed ≡ owes (thread_at x t).owed = ap (λ (th : Thread). owes th.owed) here in omega arith);
      objects = objects;
      threads = length-set x.threads t _ ∙ threads;
    }

pub no_command : (p : Program) (a : NamedHeap) (t : ℕ) → command_at p a t ≡ None → length (script_of p t) ≤ (thread_at a t).done
no_command p a t e = elim (cases_lt (thread_at a t).done (length (script_of p t))) [
  | inr h ↦ h
  | inl h ↦ go (script_of p t) (thread_at a t).done h e
]
  where
    go : (cs : List Command) (i : ℕ) → i < length cs → slice_get cs i ≡ None → length cs ≤ i
    go [] i l e = absurd (omega arith)
    go (x ∷ cs) i l e = let here = slice_get-get_or (x ∷ cs) i x l in let never : None ≡ Some (get_or (x ∷ cs) i x) = sym e ∙ here in cc

opened-moved : (p : Program) (a : NamedHeap) (t : ℕ) (ty : PageType) (first k : ℕ) → (thread_at a t).ended ≡ false →
    HasMoved p a (opened a t ty first k) (Opened t ty first k)
unfolding opened
opened-moved p a t ty first k alive =
    let new = thread_with_run (thread_at a t) ty first k in
    let cells = (opens_run (thread_at a t) ty first k).cells in
    let here = changed_thread a t new (alive_thread a t alive) in
    record {
      alive = alive;
      others = λ u h. rw (other_thread a t u new h) (record { done = refl; ended = refl; owed = refl });
      done = ap (λ (th : Thread). th.done) here ∙ cells.done ∙ omega arith;
      ended = ap (λ (th : Thread). th.ended) here ∙ cells.ended ∙ alive;
      within = λ one. absurd (omega arith);
      over = λ e. absurd (false≢true e);
      owed = (let same : owes (thread_at (opened a t ty first k) t).owed ≡ owes (thread_at a t).owed = ap (λ (th : Thread). owes th.owed) here ∙ ap (λ (o : Option ℕ). owes o) cells.owed in omega arith);
      objects = omega arith;
      threads = length-set a.threads t new;
    }

collected-moved : (p : Program) (a : NamedHeap) (t last : ℕ) (passes : List PassRecord) → Collects p a t last passes → HasMoved p a (collected a t last passes) (Collected t last passes)
collected-moved p a t last passes d =
    let h = collected_threads a t last passes in
    let here = h.own (alive_thread a t d.alive) in
    record {
      alive = d.alive;
      others = λ u other. rw (h.others u other) (record { done = refl; ended = refl; owed = refl });
      done = ap (λ (th : Thread). th.done) here ∙ omega arith;
      ended = ap (λ (th : Thread). th.ended) here ∙ d.alive;
      within = λ one. absurd (omega arith);
      over = λ e. absurd (false≢true e);
      owed = (let now : owes (thread_at (collected a t last passes) t).owed ≡ 0 = ap (λ (th : Thread). owes th.owed) here in
          let before : owes (thread_at a t).owed ≡ 1 = ap (λ (o : Option ℕ). owes o) d.owes in
          let left_same : triggers_left p (collected a t last passes) ≡ triggers_left p a = ap (λ (x : ℕ). triggers_left p (record a { triggered = x })) h.triggered in
          omega arith);
      objects = (let same = h.objects in omega arith);
      threads = h.threads;
    }

-- what the command of a thread asks, and what it owes then
outcome-owed : (p : Program) (a b : NamedHeap) (t : ℕ) (c : Command) (answer : _) → IsOwnChange a b t (is_gc c) →
    owes (thread_at b t).owed + triggers_left p b ≤ owes (thread_at a t).owed + triggers_left p a + gcs_in (Did t c answer)
outcome-owed p a b t c answer h =
    let left_same : triggers_left p b ≡ triggers_left p a = ap (λ (x : ℕ). triggers_left p (record a { triggered = x })) h.triggered in
    let most = owes_most (thread_at b t).owed in
    go (is_gc c) left_same h.own.owed
  where
    go : (asks : Bool) → triggers_left p b ≡ triggers_left p a → (asks ≡ false → (thread_at b t).owed ≡ (thread_at a t).owed) →
        owes (thread_at b t).owed + triggers_left p b ≤ owes (thread_at a t).owed + triggers_left p a + (if asks then 1 else 0)
    go true left_same same = (let most = owes_most (thread_at b t).owed in omega arith)
    go false left_same same = (let owed : owes (thread_at b t).owed ≡ owes (thread_at a t).owed = ap (λ (o : Option ℕ). owes o) (same refl) in omega arith)

-- what each event does
pub moves : (p : Program) (a : NamedHeap) (e : Event) → IsLimited p → IsWellFormed p a → IsNext p a e → HasMoved p a (after p a e) e
moves p a e limits w next = by_events p a (λ e b. HasMoved p a b e)
    (λ t c answer d.
    let in_range = script_in_range p t (thread_at a t).done c limits d.command in
    let board = outcome-board p a t c w limits.pages_most (script_thread p t (thread_at a t).done c d.command) d.alive in_range in
    advance-moved p a (outcome_of a t c).heap t c answer d.alive d.command board.others board.own.done board.own.ended
    (outcome-owed p a (outcome_of a t c).heap t c answer board) board.threads (let same = board.objects in omega arith))
    (λ t c answer d. advance-moved p a a t c answer d.alive d.command (λ u other. same_task (thread_at a u)) refl refl (omega arith) refl (omega arith))
    (λ t c answer kind n seed d.
    let built = built_heap p a t c kind n in
    advance-moved p a (committed p a t c kind n) t c answer d.alive d.command built.others built.done built.ended
    (let less = built.owed in omega arith) built.threads
    (let o = new_object a t c (place_for a t kind (size_of kind n)) in omega (arith, ap length built.objects, length_push a.objects (Some o))))
    (λ t ty first k d. opened-moved p a t ty first k d.alive)
    (λ t last passes d. collected-moved p a t last passes d)
    (λ t d.
    let here = changed_thread a t (ended_thread (thread_at a t)) (alive_thread a t d.alive) in
    record {
      alive = d.alive;
      others = λ u h. rw (other_thread a t u (ended_thread (thread_at a t)) h) (record { done = refl; ended = refl; owed = refl });
      done = ap (λ (th : Thread). th.done) here ∙ omega arith;
      ended = ap (λ (th : Thread). th.ended) here;
      within = λ one. absurd (omega arith);
      over = λ e. no_command p a t d.no_command;
      owed = (let now : owes (thread_at (with_thread a t (ended_thread (thread_at a t))) t).owed ≡ 0 = ap (λ (th : Thread). owes th.owed) here in omega arith);
      objects = omega arith;
      threads = length-set a.threads t _;
    })
    e next
