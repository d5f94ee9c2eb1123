-- What is left falls with every event, so that each history ends.
use Rattle.std.proofs.Common.{◌≡◌, ◌≢◌, ℕ, ◌+◌, ◌-◌, ◌*◌, ◌<◌, ◌≤◌, List, [], ◌∷◌, length, drop, Option, Some, None, Bool, true, false, inl, inr, refl, sym, ◌∙◌, subst, ap, arith, get_or}
use Rattle.std.proofs.lemmas.Bool.{cases_Bool, cases_eq, eq-eqb, ne_eqb, le-leb, and_from, false≢true, true≢false}
use Rattle.std.proofs.lemmas.List.Sums.{length-filter}
use Rattle.std.specs.List.{range_with_len, sum_by, count_by, filter, cons_option}
use Rattle.std.specs.Prelude.{slice_get, if◌then◌else◌, ◌==◌}
use Rattle.heap_terms.specs.declared.commands.Command.{Command}
use Rattle.heap_terms.specs.declared.events.Event.{Event}
use Rattle.heap_terms.specs.declared.events.Event.TheVariants.{Did, Opened, Collected, Ended}
use Rattle.heap_terms.specs.declared.events.PassRecord.{PassRecord}
use Rattle.heap_terms.specs.declared.kinds.Kind.{Kind}
use Rattle.heap_terms.specs.declared.kinds.PageType.{PageType}
use Rattle.heap_terms.specs.declared.kinds.PageType.TheVariants as types
use Rattle.heap_terms.specs.declared.limits.TheConstants.{MOST_TRIGGERS}
use Rattle.heap_terms.specs.declared.pages.Entry.{Entry}
use Rattle.heap_terms.specs.declared.pages.Entry.TheVariants.{Used}
use Rattle.heap_terms.specs.declared.pages.Next.{Next}
use Rattle.heap_terms.specs.declared.pages.Next.TheVariants as nexts
use Rattle.heap_terms.specs.declared.programs.Program.{Program}
use Rattle.heap_terms.specs.Heap.{NamedHeap, Thread, start, thread_at, entry_at, open_page, with_open_page}
use Rattle.heap_terms.specs.Histories.{IsNext, after, command_at, script_of, thread_of, next, next_for, next_command, due, Lawful, LawfulFrom, replay_from}
use Rattle.heap_terms.specs.Layout.{page_words, page_type_of, size_of}
use Rattle.heap_laws.specs.Order.{command_in, is_end}
use Rattle.heap_laws.specs.Remaining.{left, owes, collections_left, triggers_left, collection_weight, all_left, opens_next, events_at_most, most_events}
use Rattle.heap_terms.specs.Regions.{Wish, is_small, pages_needed, has_room, page_has_room, entry_has_room, entry_is_run, run_has_room, same_type, opened, with_run, IsFreeRun}
use Rattle.heap_terms.specs.Valid.{is_gc}
use Rattle.heap_terms.specs.Valid.{IsValid}
use Rattle.heap_laws.specs.Limited.{IsLimited}
use Rattle.heap_laws.proofs.Programs.Limits.{limited}
use Rattle.heap_terms.specs.WellFormed.{IsWellFormed}
use Rattle.heap_laws.proofs.Events.Causes.{alive_thread, Opens, opens_from}
use Rattle.heap_laws.proofs.Ranges.ObjectCount.{event_thread, start_thread_is}
use Rattle.heap_laws.proofs.Events.OwnThread.{moves, gcs_in, collections_in}
use Rattle.heap_laws.proofs.Events.ScriptSteps.{script_step}
use Rattle.heap_laws.proofs.WellFormed.RegionOpened.{run_entry, opens_run, thread_with_run}
use Rattle.heap_laws.proofs.Events.OtherThreads.{next_same, is_collection, others_left}
use Rattle.heap_laws.proofs.WellFormed.Replayed.{event-kept}
use Rattle.heap_laws.proofs.WellFormed.PagesStay.{small_needs, small_most, needs_two, needs_least}
use Rattle.heap_laws.proofs.Lists.Sums.{sum_change, sum_le, sum_more, sum_weighted, sum_places, sum_double}
use Rattle.heap_laws.proofs.Events.Tasks.{next_free-is}
use Rattle.heap_laws.proofs.WellFormed.Threads.{changed_thread, start-well_formed}

pub opens_next_most : (n : Next) → opens_next n ≤ 1
opens_next_most nexts.Simple = omega arith
opens_next_most nexts.Open = omega arith
opens_next_most (nexts.Build kind n seed) = omega arith
opens_next_most (nexts.Collect last) = omega arith
opens_next_most nexts.End = omega arith
opens_next_most nexts.Done = omega arith

pub left_alive : (p : Program) (a : NamedHeap) (t : ℕ) → (thread_at a t).ended ≡ false →
    left p a t ≡ 1 + 2 * (length (script_of p t) - (thread_at a t).done) + opens_next (next p a t)
left_alive p a t alive = rw alive refl

pub left_ended : (p : Program) (a : NamedHeap) (t : ℕ) → (thread_at a t).ended ≡ true → left p a t ≡ 0
left_ended p a t ended = rw ended refl

-- a thread has no more left than for a region at each command
pub left_most : (p : Program) (a : NamedHeap) (t : ℕ) → left p a t ≤ 2 + 2 * length (script_of p t)
left_most p a t = elim (cases_Bool (thread_at a t).ended) [
  | inl ended ↦ omega (arith, left_ended p a t ended)
  | inr alive ↦ omega (arith, left_alive p a t alive, opens_next_most (next p a t))
]

-- another thread has as much left as before, but for a collection
pub left_others : (p : Program) (a : NamedHeap) (e : Event) → IsLimited p → IsWellFormed p a → IsNext p a e → is_collection e ≡ false → (u : ℕ) → u ≢ thread_of e →
    left p (after p a e) u ≡ left p a u
left_others p a e limits w next_is calm u other =
    let b = after p a e in
    let h = others_left p a e limits w next_is calm u other in
    let same = next_same p a b u h.task h.entries in
    go h.task.ended h.task.done same
  where
    go : {d d' : Bool} {i i' : ℕ} {n n' : Next} → d' ≡ d → i' ≡ i → n' ≡ n →
        (if d' then 0 else 1 + 2 * (length (script_of p u) - i') + opens_next n') ≡ (if d then 0 else 1 + 2 * (length (script_of p u) - i) + opens_next n)
    go d i n = rw (d, i, n) refl

-- a page type is the same as itself
same_type-self : (ty : PageType) → same_type ty ty ≡ true
same_type-self types.Cons = refl
same_type-self types.Boxed = refl
same_type-self types.Unboxed = refl

-- a region that was opened for an object has room for it
pub opened_room : (pages : List Entry) (th : Thread) (kind : Kind) (size first : ℕ) → IsFreeRun pages first (pages_needed size) →
    (if is_small size
    then page_has_room (with_run pages first (pages_needed size) (page_type_of kind)) (open_page (thread_with_run th (page_type_of kind) first (pages_needed size)) (page_type_of kind)) size
    else run_has_room (with_run pages first (pages_needed size) (page_type_of kind)) (thread_with_run th (page_type_of kind) first (pages_needed size)).open_run (page_type_of kind) size) ≡ true
opened_room pages th kind size first run =
    let ty = page_type_of kind in
    let k = pages_needed size in
    let least = needs_least size in
    let entry : entry_at (with_run pages first k ty) first ≡ Used ty 0 0 first k = run_entry pages first k ty first run.inside (omega arith) (omega arith) in
    elim (cases_Bool (is_small size)) [
      | inl small ↦ (
          let one : (k == 1) ≡ true = eq-eqb k 1 (small_needs size small) in
          let there : open_page (thread_with_run th ty first k) ty ≡ Some first = ap (λ (b : Bool). open_page (if b then with_open_page th ty first else record th { open_run = Some first }) ty) one ∙ opened_there th ty first in
          let room : page_has_room (with_run pages first k ty) (Some first) size ≡ true =
          ap (λ (e : Entry). entry_has_room e size) entry ∙ le-leb (0 + size) page_words (let most = small_most size small in omega arith) in
          choose (is_small size) _ _ small (ap (λ (o : Option ℕ). page_has_room (with_run pages first k ty) o size) there ∙ room))
      | inr large ↦ (
          let more : (k == 1) ≡ false = ne_eqb k 1 (λ one. omega (arith, needs_two size large)) in
          let there : (thread_with_run th ty first k).open_run ≡ Some first = ap (λ (b : Bool). (if b then with_open_page th ty first else record th { open_run = Some first }).open_run) more in
          let room : run_has_room (with_run pages first k ty) (Some first) ty size ≡ true =
          ap (λ (e : Entry). entry_is_run e ty k) entry ∙ and_from (same_type ty ty) _ (same_type-self ty) (eq-eqb k k refl) in
          choose_other (is_small size) _ _ large (ap (λ (o : Option ℕ). run_has_room (with_run pages first k ty) o ty size) there ∙ room))
    ]
  where
    opened_there : (th : Thread) (ty : PageType) (first : ℕ) → open_page (with_open_page th ty first) ty ≡ Some first
    opened_there th types.Cons first = refl
    opened_there th types.Boxed first = refl
    opened_there th types.Unboxed first = refl

    choose : (b x y : Bool) → b ≡ true → x ≡ true → (if b then x else y) ≡ true
    choose b x y e h = rw e h

    choose_other : (b x y : Bool) → b ≡ false → y ≡ true → (if b then x else y) ≡ true
    choose_other b x y e h = rw e h

-- `has_room`, by the pages and the thread
abbrev pub room_with : List Entry → Thread → Kind → ℕ → Bool
room_with pages th kind size = if is_small size then page_has_room pages (open_page th (page_type_of kind)) size else run_has_room pages th.open_run (page_type_of kind) size

same_due : (old new : Thread) → new.inhibits ≡ old.inhibits → new.owed ≡ old.owed → due new ≡ due old
same_due old new inhibits owed = rw (inhibits, owed) refl

-- the thread that opened a region builds next
pub opened_builds : (p : Program) (a : NamedHeap) (t : ℕ) (ty : PageType) (first k : ℕ) → (d : Opens p a t ty first k) →
    next p (opened a t ty first k) t ≡ nexts.Build d.kind d.n d.seed
unfolding opened
opened_builds p a t ty first k d =
    let b = opened a t ty first k in
    let size = size_of d.kind d.n in
    let new = thread_with_run (thread_at a t) ty first k in
    let here : thread_at b t ≡ new = changed_thread a t new (alive_thread a t d.alive) in
    let cells = (opens_run (thread_at a t) ty first k).cells in
    let command : command_at p b t ≡ Some d.c = ap (λ (th : Thread). slice_get (script_of p t) th.done) here ∙ ap (λ (i : ℕ). slice_get (script_of p t) i) cells.done ∙ d.command in
    let room_at : PageType → ℕ → Type 0 = λ ty k. room_with (with_run a.pages first k ty) (thread_with_run (thread_at a t) ty first k) d.kind size ≡ true in
    let base : room_at (page_type_of d.kind) (pages_needed size) = opened_room a.pages (thread_at a t) d.kind size first (rw d.count_is at d.lowest.run) in
    let typed : room_at ty (pages_needed size) = subst (λ (x : PageType). room_at x (pages_needed size)) (sym d.type_is) base in
    let counted : room_at ty k = subst (λ (x : ℕ). room_at ty x) (sym d.count_is) typed in
    let room : has_room b t d.kind size ≡ true = ap (λ (th : Thread). room_with (with_run a.pages first k ty) th d.kind size) here ∙ counted in
    let free' : due (thread_at b t) ≡ None = ap (λ (th : Thread). due th) here ∙ same_due (thread_at a t) new cells.inhibits cells.owed ∙ d.free in
    let alive' : (thread_at b t).ended ≡ false = ap (λ (th : Thread). th.ended) here ∙ cells.ended ∙ d.alive in
    next_free-is p b t free' alive'
    ∙ ap (λ (o : Option Command). next_command b t o) command
    ∙ ap (λ (w : Wish). next_for b t w) d.wish
    ∙ ap (λ (r : Bool). if r then nexts.Build d.kind d.n d.seed else nexts.Open) room

pub opens_is : (p : Program) (a : NamedHeap) (t : ℕ) (ty : PageType) (first k : ℕ) → IsNext p a (Opened t ty first k) → next p a t ≡ nexts.Open
unfolding IsNext
opens_is p a t ty first k h = h.0

pub opened_none : (p : Program) (a : NamedHeap) (t : ℕ) (ty : PageType) (first k : ℕ) → (d : Opens p a t ty first k) →
    opens_next (next p (after p a (Opened t ty first k)) t) ≡ 0
unfolding after
opened_none p a t ty first k d = ap (λ (n : Next). opens_next n) (opened_builds p a t ty first k d)

pub collects_is : (p : Program) (a : NamedHeap) (t last : ℕ) (passes : List PassRecord) → IsNext p a (Collected t last passes) → next p a t ≡ nexts.Collect last
unfolding IsNext
collects_is p a t last passes h = h.0

-- the thread of an event that is no collection has less left
left_falls : (p : Program) (a : NamedHeap) (e : Event) → IsLimited p → IsWellFormed p a → IsNext p a e → is_collection e ≡ false →
    left p (after p a e) (thread_of e) + 1 ≤ left p a (thread_of e)
left_falls p a (Did t c answer) limits w next_is calm =
    let b = after p a (Did t c answer) in
    let m = moves p a (Did t c answer) limits w next_is in
    let before = left_alive p a t m.alive in
    let later = left_alive p b t m.ended in
    let within = m.within (omega arith) in
    let done = m.done in
    omega (arith, opens_next_most (next p b t))
left_falls p a (Opened t ty first k) limits w next_is calm =
    let b = after p a (Opened t ty first k) in
    let m = moves p a (Opened t ty first k) limits w next_is in
    let d = opens_from p a t ty first k next_is in
    let before = left_alive p a t m.alive in
    let later = left_alive p b t m.ended in
    let done = m.done in
    let opens : opens_next (next p a t) ≡ 1 = ap (λ (n : Next). opens_next n) (opens_is p a t ty first k next_is) in
    let builds : opens_next (next p b t) ≡ 0 = opened_none p a t ty first k d in
    omega arith
left_falls p a (Collected t last passes) limits w next_is calm = absurd (true≢false calm)
left_falls p a (Ended t) limits w next_is calm =
    let b = after p a (Ended t) in
    let m = moves p a (Ended t) limits w next_is in
    let before = left_alive p a t m.alive in
    let later = left_ended p b t m.ended in
    omega arith

-- a thread that is as far as it was has at most a region more to open
left_as_far : (p : Program) (a b : NamedHeap) (u : ℕ) → (thread_at b u).done ≡ (thread_at a u).done → (thread_at b u).ended ≡ (thread_at a u).ended →
    left p b u ≤ 1 + left p a u
left_as_far p a b u done ended = elim (cases_Bool (thread_at a u).ended) [
  | inl over ↦ (let later = left_ended p b u (ended ∙ over) in omega arith)
  | inr alive ↦ (
      let before = left_alive p a u alive in
      let later = left_alive p b u (ended ∙ alive) in
      omega (arith, opens_next_most (next p b u)))
]

-- how many collections a thread has left
collections_alive : (p : Program) (a : NamedHeap) (t : ℕ) → (thread_at a t).ended ≡ false →
    collections_left p a t ≡ owes (thread_at a t).owed + count_by is_gc (drop (thread_at a t).done (script_of p t))
collections_alive p a t alive = rw alive refl

collections_ended : (p : Program) (a : NamedHeap) (t : ℕ) → (thread_at a t).ended ≡ true → collections_left p a t ≡ 0
collections_ended p a t ended = rw ended refl

-- another thread as many as before
collections_others : (p : Program) (a : NamedHeap) (e : Event) → IsLimited p → IsWellFormed p a → IsNext p a e → (u : ℕ) → u ≢ thread_of e →
    collections_left p (after p a e) u ≡ collections_left p a u
collections_others p a e limits w next_is u other =
    let m = (moves p a e limits w next_is).others u other in
    go m.ended m.done m.owed
  where
    go : {d d' : Bool} {i i' : ℕ} {o o' : Option ℕ} → d' ≡ d → i' ≡ i → o' ≡ o →
        (if d' then 0 else owes o' + count_by is_gc (drop i' (script_of p u))) ≡ (if d then 0 else owes o + count_by is_gc (drop i (script_of p u)))
    go d i o = rw (d, i, o) refl

-- the commands `gc` of a list, by its first
count_first : (c : Command) (cs : List Command) → count_by is_gc (c ∷ cs) ≡ (if is_gc c then 1 else 0) + count_by is_gc cs
count_first c cs =
    let whole = length-filter is_gc (c ∷ cs) in
    let rest = length-filter is_gc cs in
    elim (cases_Bool (is_gc c)) [
      | inl asks ↦ (
          let long : length (filter is_gc (c ∷ cs)) ≡ 1 + length (filter is_gc cs) = rw asks (omega arith) in
          let own : if◌then◌else◌ {A = ℕ} (is_gc c) 1 0 ≡ 1 = rw asks refl in
          omega arith)
      | inr other ↦ (
          let long : length (filter is_gc (c ∷ cs)) ≡ length (filter is_gc cs) = rw other refl in
          let own : if◌then◌else◌ {A = ℕ} (is_gc c) 1 0 ≡ 0 = rw other refl in
          omega arith)
    ]

-- those of the script that are left before an event are the event's own and those that are left after it
gcs_step : (p : Program) (a : NamedHeap) (e : Event) → IsLimited p → IsWellFormed p a → IsNext p a e →
    count_by is_gc (drop (thread_at a (thread_of e)).done (script_of p (thread_of e)))
    ≡ gcs_in e + count_by is_gc (drop (thread_at (after p a e) (thread_of e)).done (script_of p (thread_of e)))
gcs_step p a e limits w next_is = ap (λ (cs : List Command). count_by is_gc cs) (script_step p a e limits w next_is) ∙ own e _
  where
    own : (e : Event) (cs : List Command) → count_by is_gc (cons_option (command_in e) cs) ≡ gcs_in e + count_by is_gc cs
    own (Did t c answer) cs = count_first c cs
    own (Opened t ty first k) cs = omega arith
    own (Collected t last passes) cs = omega arith
    own (Ended t) cs = omega arith

-- the event's own thread has no more collections left, with those that `auto` may ask for, and one less after a collection
collections_fall : (p : Program) (a : NamedHeap) (e : Event) → IsLimited p → IsWellFormed p a → IsNext p a e →
    collections_left p (after p a e) (thread_of e) + triggers_left p (after p a e) + collections_in e ≤ collections_left p a (thread_of e) + triggers_left p a
collections_fall p a e limits w next_is =
    let b = after p a e in
    let t = thread_of e in
    let m = moves p a e limits w next_is in
    let before = collections_alive p a t m.alive in
    let step = gcs_step p a e limits w next_is in
    let owed = m.owed in
    elim (cases_Bool (is_end e)) [
      | inl end ↦ (
          let later = collections_ended p b t (m.ended ∙ end) in
          let none : gcs_in e ≡ 0 = ends_without e end in
          omega arith)
      | inr more ↦ (let later = collections_alive p b t (m.ended ∙ more) in omega arith)
    ]
  where
    ends_without : (e : Event) → is_end e ≡ true → gcs_in e ≡ 0
    ends_without (Did t c answer) end = absurd (false≢true end)
    ends_without (Opened t ty first k) end = refl
    ends_without (Collected t last passes) end = refl
    ends_without (Ended t) end = refl

-- what each thread has left, with the weight of collections
abbrev weighted : Program → NamedHeap → ℕ → ℕ
weighted p a t = left p a t + collection_weight * collections_left p a t

-- an event that is no collection
quiet_falls : (p : Program) (a : NamedHeap) (e : Event) → IsLimited p → IsWellFormed p a → IsNext p a e → is_collection e ≡ false → all_left p (after p a e) + 1 ≤ all_left p a
quiet_falls p a e limits w next_is calm =
    let b = after p a e in
    let t = thread_of e in
    let l = event_thread p a e limits w next_is in
    let change : sum_by (weighted p b) (range_with_len 0 (length p.threads)) + weighted p a t ≡ sum_by (weighted p a) (range_with_len 0 (length p.threads)) + weighted p b t =
    sum_change (weighted p a) (weighted p b) t 0 (length p.threads) (omega arith) (omega arith)
    (λ u other. rw (left_others p a e limits w next_is calm u other, collections_others p a e limits w next_is u other) refl) in
    let falls = left_falls p a e limits w next_is calm in
    let fewer = collections_fall p a e limits w next_is in
    omega arith

-- a collection
collection_falls : (p : Program) (a : NamedHeap) (t last : ℕ) (passes : List PassRecord) → IsLimited p → IsWellFormed p a → IsNext p a (Collected t last passes) →
    all_left p (after p a (Collected t last passes)) + 1 ≤ all_left p a
collection_falls p a t last passes limits w next_is =
    let e = Collected t last passes in
    let b = after p a e in
    let n = length p.threads in
    let range = range_with_len 0 n in
    let l = event_thread p a e limits w next_is in
    let m = moves p a e limits w next_is in
    let between : ℕ → ℕ = λ u. left p a u + collection_weight * collections_left p b u in
    let far : (u : ℕ) → left p b u ≤ 1 + left p a u = λ u. elim (cases_eq u t) [
      | inl same ↦ rw same (left_as_far p a b t (let done = m.done in omega arith) (m.ended ∙ sym m.alive))
      | inr other ↦ (let h = m.others u other in left_as_far p a b u h.done h.ended)
    ] in
    let most : sum_by (weighted p b) range ≤ sum_by (λ u. 1 + between u) range = sum_le (weighted p b) (λ u. 1 + between u) 0 n (λ u low high. let f = far u in omega arith) in
    let more : sum_by (λ u. 1 + between u) range ≡ n + sum_by between range = sum_more between 0 n in
    let change : sum_by between range + weighted p a t ≡ sum_by (weighted p a) range + between t =
    sum_change (weighted p a) between t 0 n (omega arith) (omega arith) (λ u other. rw (collections_others p a e limits w next_is u other) refl) in
    let fewer = collections_fall p a e limits w next_is in
    let threads = limits.threads_most in
    omega arith

-- with each event there is less left
pub all_left_falls : (p : Program) (a : NamedHeap) (e : Event) → IsLimited p → IsWellFormed p a → IsNext p a e → all_left p (after p a e) + 1 ≤ all_left p a
all_left_falls p a (Did t c answer) limits w next_is = quiet_falls p a (Did t c answer) limits w next_is refl
all_left_falls p a (Opened t ty first k) limits w next_is = quiet_falls p a (Opened t ty first k) limits w next_is refl
all_left_falls p a (Collected t last passes) limits w next_is = collection_falls p a t last passes limits w next_is
all_left_falls p a (Ended t) limits w next_is = quiet_falls p a (Ended t) limits w next_is refl

-- a list of events is no longer than what was left
pub history_bounded : (p : Program) (a : NamedHeap) (h : List Event) → IsLimited p → IsWellFormed p a → LawfulFrom p a h →
    length h + all_left p (replay_from p a h) ≤ all_left p a
history_bounded p a [] limits w lawful = omega arith
history_bounded p a (e ∷ es) limits w lawful =
    let one = all_left_falls p a e limits w lawful.0 in
    let rest = history_bounded p (after p a e) es limits (event-kept p limits a e lawful.0 w) lawful.1 in
    omega arith

-- at the start no collection is owed, and none has been asked for
start_gcs : (p : Program) (t : ℕ) → t < length p.threads → collections_left p (start p) t ≡ count_by is_gc (script_of p t)
start_gcs p t l = let fresh = start_thread_is p t l in rw fresh (omega arith)

start_triggers : (p : Program) → triggers_left p (start p) ≡ (if p.auto == 0 then 0 else MOST_TRIGGERS)
unfolding start
start_triggers p = refl

-- so that at the start there is no more than two for each thread and for each command, and the weight of each collection
pub start_left : (p : Program) → all_left p (start p) ≤ events_at_most p
start_left p =
    let n = length p.threads in
    let range = range_with_len 0 n in
    let f : ℕ → ℕ = λ t. length (get_or p.threads t []) in
    let g : ℕ → ℕ = λ t. count_by is_gc (get_or p.threads t []) in
    let two : ℕ → ℕ = λ t. 2 + 2 * f t in
    let scripts = sum_places (λ (cs : List Command). length cs) p.threads [] in
    let gcs = sum_places (λ (cs : List Command). count_by is_gc cs) p.threads [] in
    let all : sum_by (weighted p (start p)) range ≤ sum_by (λ t. two t + collection_weight * g t) range =
    sum_le (weighted p (start p)) (λ t. two t + collection_weight * g t) 0 n
    (λ u low high. let most = left_most p (start p) u in let own = start_gcs p u (omega arith) in omega arith) in
    let parts = sum_weighted two g 0 n in
    let double : sum_by two range ≡ 2 * n + 2 * sum_by f range = sum_double f 0 n in
    let triggers = start_triggers p in
    omega arith

pub history_short : (p : Program) (h : List Event) → IsLimited p → Lawful p h → length h ≤ events_at_most p
history_short p h limits lawful =
    let bound = history_bounded p (start p) h limits (start-well_formed p) lawful in
    let most = start_left p in
    omega arith

-- and of every valid program
pub events_few : (p : Program) → IsValid p → events_at_most p ≤ most_events
events_few p valid =
    let commands = valid.commands_most in
    let threads = valid.threads_most in
    let gcs = valid.gcs_most in
    let triggers : (if p.auto == 0 then 0 else MOST_TRIGGERS) ≤ MOST_TRIGGERS = some (p.auto == 0) in
    omega arith
  where
    some : (b : Bool) → (if b then 0 else MOST_TRIGGERS) ≤ MOST_TRIGGERS
    some true = omega arith
    some false = omega arith

pub history_few : (p : Program) (h : List Event) → IsValid p → Lawful p h → length h ≤ most_events
history_few p h valid lawful = let own = history_short p h (limited p valid) lawful in let most = events_few p valid in omega arith
