-- An event leaves what every other thread does next.
use Rattle.std.proofs.Common.{◌≡◌, ◌≢◌, ℕ, ◌+◌, ◌*◌, List, set, Option, Some, None, Bool, true, false, inl, inr, refl, sym, ◌∙◌, subst, ap, arith}
use Rattle.std.proofs.lemmas.Bool.{cases_Bool, true≢false}
use Rattle.std.proofs.lemmas.List.{get_or-set_other}
use Rattle.std.specs.Prelude.{slice_get, if◌then◌else◌, ◌==◌}
use Rattle.heap_terms.specs.declared.commands.Command.{Command}
use Rattle.heap_terms.specs.declared.answers.Answer.{Answer}
use Rattle.heap_terms.specs.declared.events.Event.{Event}
use Rattle.heap_terms.specs.declared.events.Event.TheVariants.{Did, Opened, Collected, Ended}
use Rattle.heap_terms.specs.declared.kinds.Kind.{Kind}
use Rattle.heap_terms.specs.declared.kinds.PageType.{PageType}
use Rattle.heap_terms.specs.declared.pages.Entry.{Entry}
use Rattle.heap_terms.specs.declared.pages.Entry.TheVariants.{Free, Used}
use Rattle.heap_terms.specs.declared.pages.Next.{Next}
use Rattle.heap_terms.specs.declared.pages.Next.TheVariants as nexts
use Rattle.heap_terms.specs.declared.programs.Program.{Program}
use Rattle.heap_terms.specs.Heap.{NamedHeap, Thread, thread_at, with_thread, ended_thread, entry_at, open_page}
use Rattle.heap_terms.specs.Histories.{IsNext, after, advance, command_at, script_of, thread_of, next, next_for, next_command, next_unless_due}
use Rattle.heap_terms.specs.Layout.{page_words, page_type_of, size_of}
use Rattle.heap_terms.specs.Objects.{Object, words_of_object}
use Rattle.heap_terms.specs.Outcomes.{outcome_of}
use Rattle.heap_terms.specs.Regions.{Wish, Nothing, Make, wish_of, is_small, has_room, page_has_room, run_has_room, opened, committed, pages_after, with_large, IsFreeRun}
use Rattle.heap_laws.specs.Limited.{IsLimited}
use Rattle.heap_terms.specs.WellFormed.{IsWellFormed, IsOpenRun, IsOpenRunPage}
use Rattle.heap_laws.proofs.Events.Causes.{Builds, by_events}
use Rattle.heap_laws.proofs.Events.OwnThread.{built_heap}
use Rattle.heap_laws.proofs.WellFormed.RegionOpened.{run_cases, open_run_taken, thread_with_run}
use Rattle.heap_laws.proofs.WellFormed.Committed.{HasPage, has_page, pages_small, large_run, goes_into, pages_large, new_object, initial_kind, initial_payload}
use Rattle.heap_laws.proofs.WellFormed.LargeAdded.{GoesInto, open_page_same, open_run_same}
use Rattle.heap_laws.proofs.Programs.Limits.{script_in_range}
use Rattle.heap_laws.proofs.Programs.ScriptCommands.{script_thread}
use Rattle.heap_laws.proofs.Events.Tasks.{IsSameTask, same_task, outcome-board, advance_others}
use Rattle.heap_laws.proofs.WellFormed.Threads.{open_page_used, open_run_used, other_thread}

-- the entries of a thread's open pages and of its open run are the same
pub record HasSameEntries (a b : NamedHeap) (u : ℕ) : Type 0 where
  pub pages : (ty : PageType) (page : ℕ) → open_page (thread_at a u) ty ≡ Some page → entry_at b.pages page ≡ entry_at a.pages page
  pub run : (page : ℕ) → (thread_at a u).open_run ≡ Some page → entry_at b.pages page ≡ entry_at a.pages page

pub same_pages_entries : (a b : NamedHeap) (u : ℕ) → b.pages ≡ a.pages → HasSameEntries a b u
same_pages_entries a b u e = record { pages = λ ty page h. rw e refl; run = λ page h. rw e refl }

pub page_room_same : (old new : List Entry) (o o' : Option ℕ) (size : ℕ) → o' ≡ o → ((page : ℕ) → o ≡ Some page → entry_at new page ≡ entry_at old page) →
    page_has_room new o' size ≡ page_has_room old o size
page_room_same old new None o' size e h = rw e refl
page_room_same old new (Some page) o' size e h = rw (e, h page refl) refl

pub run_room_same : (old new : List Entry) (o o' : Option ℕ) (ty : PageType) (size : ℕ) → o' ≡ o → ((page : ℕ) → o ≡ Some page → entry_at new page ≡ entry_at old page) →
    run_has_room new o' ty size ≡ run_has_room old o ty size
run_room_same old new None o' ty size e h = rw e refl
run_room_same old new (Some page) o' ty size e h = rw (e, h page refl) refl

pub room_same : (a b : NamedHeap) (u : ℕ) (kind : Kind) (size : ℕ) → IsSameTask (thread_at a u) (thread_at b u) → HasSameEntries a b u →
    has_room b u kind size ≡ has_room a u kind size
room_same a b u kind size task entries =
    let ty = page_type_of kind in
    let pages = page_room_same a.pages b.pages (open_page (thread_at a u) ty) (open_page (thread_at b u) ty) size (task.pages ty) (entries.pages ty) in
    let run = run_room_same a.pages b.pages (thread_at a u).open_run (thread_at b u).open_run ty size task.run entries.run in
    go (is_small size) pages run
  where
    go : (small : Bool) {x x' y y' : Bool} → x' ≡ x → y' ≡ y → (if small then x' else y') ≡ (if small then x else y)
    go true e f = e
    go false e f = f

pub wish_same : (a b : NamedHeap) (u : ℕ) (w : Wish) → IsSameTask (thread_at a u) (thread_at b u) → HasSameEntries a b u → next_for b u w ≡ next_for a u w
wish_same a b u Nothing task entries = refl
wish_same a b u (Make kind n seed) task entries =
    ap (λ (room : Bool). if room then nexts.Build kind n seed else nexts.Open) (room_same a b u kind (size_of kind n) task entries)

pub command_same : (a b : NamedHeap) (u : ℕ) (o : Option Command) → IsSameTask (thread_at a u) (thread_at b u) → HasSameEntries a b u →
    next_command b u o ≡ next_command a u o
command_same a b u None task entries = refl
command_same a b u (Some c) task entries = wish_same a b u (wish_of c) task entries

-- what a thread does next goes by its task and the entries of its regions alone
pub next_same : (p : Program) (a b : NamedHeap) (u : ℕ) → IsSameTask (thread_at a u) (thread_at b u) → HasSameEntries a b u → next p b u ≡ next p a u
unfolding next
next_same p a b u task entries =
    let command : next_command b u (command_at p b u) ≡ next_command a u (command_at p a u) =
    ap (λ (i : ℕ). next_command b u (slice_get (script_of p u) i)) task.done ∙ command_same a b u (command_at p a u) task entries in
    go task.ended task.inhibits task.owed command
  where
    go : {e e' : Bool} {i i' : ℕ} {o o' : Option ℕ} {n n' : Next} → e' ≡ e → i' ≡ i → o' ≡ o → n' ≡ n →
        (if e' then nexts.Done else next_unless_due (if i' == 0 then o' else None) n') ≡ (if e then nexts.Done else next_unless_due (if i == 0 then o else None) n)
    go e i o n = rw (e, i, o, n) refl

pub opened_entries : (p : Program) (a : NamedHeap) (t : ℕ) (ty : PageType) (first k u : ℕ) → IsWellFormed p a → IsFreeRun a.pages first k →
    HasSameEntries a (opened a t ty first k) u
unfolding opened
opened_entries p a t ty first k u w run = record {
  pages = λ other x e. elim (run_cases a.pages first k ty x run) [
    | inl same ↦ same
    | inr taken ↦ absurd (rw taken.3 at (open_page_used p a u other x w e))
  ];
  run = λ x e. elim (run_cases a.pages first k ty x run) [
    | inl same ↦ same
    | inr taken ↦ absurd (open_run_taken a.pages x (open_run_used p a u x w e) taken.3)
  ];
}

-- whether an event is a collection, which closes the regions of all threads
abbrev pub is_collection : Event → Bool
is_collection (Did t c answer) = false
is_collection (Opened t ty first k) = false
is_collection (Collected t last passes) = true
is_collection (Ended t) = false

-- what an event leaves of another thread: its task, and the entries of its regions
pub record IsLeft (a b : NamedHeap) (u : ℕ) : Type 0 where
  pub task : IsSameTask (thread_at a u) (thread_at b u)
  pub entries : HasSameEntries a b u

-- a small object goes on a page of its thread's own
small_entries : (p : Program) (a b : NamedHeap) (t : ℕ) (kind : Kind) (size : ℕ) → IsWellFormed p a → is_small size ≡ true → HasPage a t (page_type_of kind) size →
    b.pages ≡ pages_after a t kind size → (u : ℕ) → u ≢ t → HasSameEntries a b u
small_entries p a b t kind size w small h is u other =
    let pages : b.pages ≡ set a.pages h.page (Used (page_type_of kind) 0 (h.fill + size) h.page 1) = is ∙ pages_small a t kind size small h in
    record {
      pages = λ ty x e. rw pages (get_or-set_other a.pages h.page x _ Free
          (λ same. other (w.own_pages u t ty (page_type_of kind) x e (h.open_is ∙ ap {B = Option ℕ} (λ (y : ℕ). Some y) (sym same))).0));
      run = λ x e. rw pages (get_or-set_other a.pages h.page x _ Free
          (λ same. no_run a.pages x (page_type_of kind) h.fill h.page (open_run_used p a u x w e) (ap (λ (y : ℕ). entry_at a.pages y) same ∙ h.entry)));
    }
  where
    no_run : (pages : List Entry) (x : ℕ) (ty : PageType) (fill first : ℕ) → IsOpenRun pages x → entry_at pages x ≡ Used ty 0 fill first 1 → ⊥
    no_run pages x ty fill first run e =
        let two = run.long in
        let page : IsOpenRunPage run.ty x run.k (entry_at pages (x + 0)) = run.each 0 (omega arith) in
        let same : x + 0 ≡ x = omega arith in
        let page' : IsOpenRunPage run.ty x run.k (entry_at pages x) = subst (λ (y : ℕ). IsOpenRunPage run.ty x run.k (entry_at pages y)) same page in
        let used : IsOpenRunPage run.ty x run.k (Used ty 0 fill first 1) = rw e at page' in
        let one = used.4 in
        omega arith

-- and a large one into its thread's own run
large_entries : (p : Program) (a b : NamedHeap) (t : ℕ) (o : Object) (first : ℕ) → IsWellFormed p a → GoesInto a.pages o first → (thread_at a t).open_run ≡ Some first →
    b.pages ≡ with_large a.pages first (words_of_object o) → (u : ℕ) → u ≢ t → HasSameEntries a b u
large_entries p a b t o first w g open_is is u other = record {
  pages = λ ty x e. rw is (open_page_same a.pages o first g ty x (open_page_used p a u ty x w e));
  run = λ x e.
      let run = open_run_used p a u x w e in
      let two = run.long in
      let differ : x ≢ first = λ same. other (w.own_runs u t first (subst (λ (y : ℕ). (thread_at a u).open_run ≡ Some y) same e) open_is) in
      let zero : x + 0 ≡ x = omega arith in
      let here = open_run_same a.pages o first g x run differ 0 (omega arith) in
      rw is (subst (λ (y : ℕ). entry_at (with_large a.pages first (words_of_object o)) y ≡ entry_at a.pages y) zero here);
}

built_entries : (p : Program) (a : NamedHeap) (t : ℕ) (c : Command) (answer : Answer) (kind : Kind) (n seed : ℕ) → IsWellFormed p a → Builds p a t c answer kind n seed →
    (u : ℕ) → u ≢ t → HasSameEntries a (committed p a t c kind n) u
built_entries p a t c answer kind n seed w d u other =
    let size = size_of kind n in
    let built = built_heap p a t c kind n in
    elim (cases_Bool (is_small size)) [
      | inl small ↦ small_entries p a (committed p a t c kind n) t kind size w small (has_page p a t kind size w small d.room) built.pages u other
      | inr large ↦ (
          let h = large_run p a t kind size w large d.room in
          let o = new_object a t c (page_words * h.first) in
          let size_is : size ≡ words_of_object o = rw (initial_kind a t c kind n seed d.wish, initial_payload a t c kind n seed d.wish) refl in
          large_entries p a (committed p a t c kind n) t o h.first w (goes_into a t c kind n seed d.wish large h) h.open_is
          (built.pages ∙ pages_large a t kind size h.first large h.open_is ∙ ap (λ (x : ℕ). with_large a.pages h.first x) size_is) u other)
    ]

opened_task : (a : NamedHeap) (t : ℕ) (ty : PageType) (first k u : ℕ) → u ≢ t → IsSameTask (thread_at a u) (thread_at (opened a t ty first k) u)
unfolding opened
opened_task a t ty first k u other = rw (other_thread a t u (thread_with_run (thread_at a t) ty first k) other) (same_task (thread_at a u))

-- every event but a collection leaves the other threads' tasks and the entries of their regions
pub others_left : (p : Program) (a : NamedHeap) (e : Event) → IsLimited p → IsWellFormed p a → IsNext p a e → is_collection e ≡ false → (u : ℕ) → u ≢ thread_of e →
    IsLeft a (after p a e) u
others_left p a e limits w next = by_events p a (λ e b. is_collection e ≡ false → (u : ℕ) → u ≢ thread_of e → IsLeft a b u)
    (λ t c answer d calm u other.
    let in_range = script_in_range p t (thread_at a t).done c limits d.command in
    let board = outcome-board p a t c w limits.pages_most (script_thread p t (thread_at a t).done c d.command) d.alive in_range in
    record {
      task = subst (λ (th : Thread). IsSameTask (thread_at a u) th) (sym (advance_others (outcome_of a t c).heap t u other)) (board.others u other);
      entries = same_pages_entries a (advance (outcome_of a t c).heap t) u board.pages;
    })
    (λ t c answer d calm u other. record {
      task = rw (advance_others a t u other) (same_task (thread_at a u));
      entries = same_pages_entries a (advance a t) u refl;
    })
    (λ t c answer kind n seed d calm u other.
    let built = built_heap p a t c kind n in
    let entries = built_entries p a t c answer kind n seed w d u other in
    record {
      task = subst (λ (th : Thread). IsSameTask (thread_at a u) th) (sym (advance_others (committed p a t c kind n) t u other)) (built.others u other);
      entries = record { pages = entries.pages; run = entries.run };
    })
    (λ t ty first k d calm u other. record {
      task = opened_task a t ty first k u other;
      entries = opened_entries p a t ty first k u w d.lowest.run;
    })
    (λ t last passes d calm u other. absurd (true≢false calm))
    (λ t d calm u other. record {
      task = rw (other_thread a t u (ended_thread (thread_at a t)) other) (same_task (thread_at a u));
      entries = same_pages_entries a (with_thread a t (ended_thread (thread_at a t))) u refl;
    })
    e next
