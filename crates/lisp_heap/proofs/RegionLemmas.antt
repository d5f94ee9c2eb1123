-- A region is opened.
use Rattle.std.proofs.Common.{◌≡◌, ◌≢◌, ℕ, ◌+◌, ◌*◌, ◌<◌, ◌≤◌, List, length, subst, ap, ◌∙◌, sym, refl, arith, Some, Bool, option_map, get_or, inl, inr}
use Rattle.std.proofs.lemmas.Bool.{cases_eq, eq-eqb, ne_eqb}
use Rattle.std.specs.Prelude.{if◌then◌else◌}
use Rattle.heap_terms.specs.declared.events.Event.TheVariants.{Opened}
use Rattle.heap_terms.specs.declared.kinds.PageType.{PageType}
use Rattle.heap_terms.specs.declared.pages.Entry.{Entry}
use Rattle.heap_terms.specs.declared.pages.Entry.TheVariants.{Used}
use Rattle.heap_terms.specs.declared.pages.Next.TheVariants as nexts
use Rattle.heap_terms.specs.Heap.{NamedHeap, Thread, thread_at, with_thread, entry_at, fill_of, open_page, with_open_page}
use Rattle.heap_terms.specs.Histories.{IsNext, IsOpening, after, command_at, next, wish_at}
use Rattle.heap_terms.specs.Layout.{page_words, size_of}
use Rattle.heap_terms.specs.Regions.{IsFreeRun, IsLowestRun, Wish, Nothing, Make, opened, with_run}
use Rattle.heap_laws.proofs.Allocating.{run_length, run_entry, run_cases, HasSameEntries, opened_entries, opens_run, thread_with_run, needs_least}
use Rattle.lisp_heap.specs.Agreement.{Agrees, run_out, run_pages_of, run_type_of, small_out, type_of}
use Rattle.lisp_heap.specs.ParcelView.{ParcelView, fresh_lease, place_of, small_region, with_region, with_small}
use Rattle.lisp_heap.specs.View.{View, heap_of, next_of}
use Rattle.lisp_heap.specs.WorldSound.{IsSound, parts_of, view_of}
use Rattle.lisp_heap.specs.Standing.{Holds}
use Rattle.lisp_heap.specs.State.{state_of, state_with_region, with_region_open, fresh_state}
use Rattle.lisp_heap.specs.declared.states.ThreadState.{ThreadState}
use Rattle.lisp_heap.specs.declared.world.World.TheInside.{Inside}
use Rattle.lisp_heap.proofs.CellLemmas.{CellsStand-with_thread}
use Rattle.lisp_heap.proofs.ParcelParts.{agrees_from, page_other, page_run, page_same, page_state, run_pages, run_small, run_stays, small_other, small_owner, small_run, small_same, small_stays, types_cases}
use Rattle.lisp_heap.proofs.Soundness.{heap, well_formed}
use Rattle.lisp_heap.proofs.Threads.{thread_at-same}
use Rattle.lisp_heap.proofs.Unchanged.{StatsStand-same, state_read, states_set, with_thread-pins}

-- a page that was taken holds nothing
none_below : (i : ℕ) → i < 0 → ⊥
none_below i l = omega arith

-- an opening is on the lowest run, of at least a page
pub opening_run : (a : NamedHeap) (w : Wish) (ty : PageType) (first k : ℕ) → IsOpening a w ty first k → (1 ≤ k) × IsLowestRun a.pages first k
opening_run a Nothing ty first k h = absurd h
opening_run a (Make kind n seed) ty first k h = (let least = needs_least (size_of kind n) in omega (arith, h.1, least), h.2)

-- a thread's state with the region open
region_state : (th : Thread) (ty : PageType) (first k : ℕ) → state_with_region (state_of th) ty first k ≡ state_of (thread_with_run th ty first k)
region_state th ty first k = elim (cases_eq k 1) [
  | inl one ↦ rw (eq-eqb k 1 one) (sym (page_state th ty first))
  | inr more ↦ rw (ne_eqb k 1 more) refl
]

-- what an opening is told, of the World as it was looked into
pub record IsOpened (s : Inside) (t : ℕ) (ty : PageType) (first k : ℕ) : Type 0 where
  pub lt : t < length s.program.threads
  pub opens : next s.program (heap s) t ≡ nexts.Open
  pub opening : IsOpening (heap s) (wish_at (command_at s.program (heap s) t)) ty first k

pub is_opened : (s : Inside) (w : View) → view_of s ≡ w → (t : ℕ) (ty : PageType) (first k : ℕ) → t < length w.program.threads → next_of w t ≡ nexts.Open →
    IsOpening (heap_of w) (wish_at (command_at w.program (heap_of w) t)) ty first k → IsOpened s t ty first k
is_opened s w e t ty first k lt opens opening = record {
  lt = subst (λ (v : View). t < length v.program.threads) (sym e) lt;
  opens = subst (λ (v : View). next_of v t ≡ nexts.Open) (sym e) opens;
  opening = subst (λ (v : View). IsOpening (heap_of v) (wish_at (command_at v.program (heap_of v) t)) ty first k) (sym e) opening;
}

module _ (s : Inside) (h : IsSound s) (t : ℕ) (ty : PageType) (first k : ℕ) (f : IsOpened s t ty first k) where
  pub opened_next : IsNext s.program (heap s) (Opened t ty first k)
  unfolding IsNext
  opened_next = (f.opens, f.opening)

  pub least : 1 ≤ k
  least = (opening_run (heap s) (wish_at (command_at s.program (heap s) t)) ty first k f.opening).0

  pub run : IsFreeRun (heap s).pages first k
  run = (opening_run (heap s) (wish_at (command_at s.program (heap s) t)) ty first k f.opening).1.run

  -- thread t with the region open, and the heap after it
  abbrev opened_thread : Thread
  opened_thread = thread_with_run (thread_at (heap s) t) ty first k

  abbrev opened_heap : NamedHeap
  opened_heap = record (with_thread (heap s) t opened_thread) { pages = with_run (heap s).pages first k ty }

  opened_after : after s.program (heap s) (Opened t ty first k) ≡ opened_heap
  unfolding after opened
  opened_after = refl

  -- it lies in the heap
  pub inside : first + k ≤ 1024
  inside = omega (arith, run.inside, (well_formed s h).pages_length, h.valid.pages_most)

  below : t < length (heap s).threads
  below = omega (arith, (well_formed s h).threads_length, f.lt)

  state_here : get_or s.states t fresh_state ≡ state_of (thread_at (heap s) t)
  state_here = state_read (heap s) s.states t fresh_state h.holds.states below

  pub holds_now : Holds opened_heap (record (parts_of s) { pages = with_run s.pages first k ty; states = with_region_open s.states t ty first k })
  holds_now =
      let a = heap s in
      let same = (opens_run (thread_at a t) ty first k).cells in
      let long : length (with_run a.pages first k ty) ≡ length a.pages = run_length a.pages first k ty run.inside in
      let cells = CellsStand-with_thread a t opened_thread s.cells same.stack same.exact same.raws h.holds.cells in
      record {
        words = record {
          long = h.holds.words.long ∙ ap (λ n. page_words * n) (sym long);
          spelled = h.holds.words.spelled;
          kept = h.holds.words.kept;
          fillers = λ page i l none. elim (run_cases a.pages first k ty page run) [
            | inl same ↦ h.holds.words.fillers page i (rw same at l) none
            | inr taken ↦ absurd (none_below i (rw taken.2 at l))
          ];
        };
        pages = ap (λ (ps : List Entry). with_run ps first k ty) h.holds.pages;
        labels = record { long = h.holds.labels.long ∙ ap (λ n. 256 * n) (sym long); named = h.holds.labels.named };
        cells = record {
          stack_length = cells.stack_length;
          exact_length = cells.exact_length;
          raws_length = cells.raws_length;
          shared_length = cells.shared_length;
          stack = cells.stack;
          exact = cells.exact;
          raws = cells.raws;
          shared = cells.shared;
        };
        states = states_set a s.states t opened_thread (state_with_region (get_or s.states t fresh_state) ty first k) h.holds.states
            (ap (λ (x : ThreadState). state_with_region x ty first k) state_here ∙ region_state (thread_at a t) ty first k);
        pins = h.holds.pins ∙ sym (with_thread-pins a t opened_thread same.pins);
        commits = h.holds.commits;
        stats = StatsStand-same a opened_heap s.stats refl refl refl h.holds.stats;
        counted = h.holds.counted;
        triggered = h.holds.triggered;
        finalizers = record { registered = h.holds.finalizers.registered; queue = h.holds.finalizers.queue };
      }

  pub opened_holds : Holds (after s.program (heap s) (Opened t ty first k))
      (record (parts_of s) { pages = with_run s.pages first k ty; states = with_region_open s.states t ty first k })
  opened_holds = subst (λ (b : NamedHeap). Holds b (record (parts_of s) { pages = with_run s.pages first k ty; states = with_region_open s.states t ty first k }))
      (sym opened_after) holds_now

  opened_is : opened (heap s) t ty first k ≡ opened_heap
  unfolding opened
  opened_is = refl

  same_entries : (u : ℕ) → HasSameEntries (heap s) opened_heap u
  same_entries u = subst (λ (b : NamedHeap). HasSameEntries (heap s) b u) opened_is (opened_entries s.program (heap s) t ty first k u (well_formed s h) run)

  first_entry : entry_at (with_run (heap s).pages first k ty) first ≡ Used ty 0 0 first k
  first_entry = run_entry (heap s).pages first k ty first run.inside (omega arith) (omega (arith, least))

  -- where a region of one page lies
  fresh_place : k ≡ 1 → place_of (fresh_lease ty first k) ≡ small_out opened_heap.pages first
  fresh_place one =
      let begun : page_words * first ≡ page_words * first + fill_of (entry_at opened_heap.pages first) = omega (arith, ap fill_of first_entry) in
      ap (λ (n : ℕ). place_of (record (fresh_lease ty first k) { pages = n })) one
      ∙ ap (λ (n : ℕ). place_of (record (fresh_lease ty first 1) { next = n })) begun

  -- the thread of a parcel of thread t, before and now
  own_now : (q : ParcelView) → q.owner ≡ t → thread_at opened_heap q.owner ≡ opened_thread
  own_now q owner = ap (thread_at opened_heap) owner ∙ thread_at-same (heap s) t opened_thread below

  own_before : (q : ParcelView) → q.owner ≡ t → thread_at (heap s) q.owner ≡ thread_at (heap s) t
  own_before q owner = ap (thread_at (heap s)) owner

  -- one page is the open page of its type
  page_agrees : (q : ParcelView) → q.owner ≡ t → Agrees (heap s) q → k ≡ 1 → Agrees opened_heap (with_small q ty (Some (fresh_lease ty first k)))
  page_agrees q owner agrees one =
      let a = heap s in
      let r = Some (fresh_lease ty first k) in
      let new = with_small q ty r in
      let th = thread_at a t in
      let is_thread : opened_thread ≡ with_open_page th ty first = rw (eq-eqb k 1 one) refl in
      let now : thread_at opened_heap new.owner ≡ with_open_page th ty first = own_now new (small_owner q ty r ∙ owner) ∙ is_thread in
      let before = own_before q owner in
      let run_there = run_stays a opened_heap q new agrees (small_run q ty r)
      (ap (λ (x : Thread). x.open_run) now ∙ page_run th ty first ∙ ap (λ (x : Thread). x.open_run) (sym before)) (same_entries q.owner).run in
      agrees_from opened_heap new (record {
        small = λ other. elim (types_cases other ty) [
          | inl same ↦ subst (λ (x : PageType). option_map place_of (small_region new x) ≡ option_map (small_out opened_heap.pages) (open_page (thread_at opened_heap new.owner) x)) (sym same)
              (ap (option_map place_of) (small_same q ty r)
              ∙ ap Some (fresh_place one)
              ∙ ap (option_map (small_out opened_heap.pages)) (sym (page_same th ty first))
              ∙ ap (λ (x : Thread). option_map (small_out opened_heap.pages) (open_page x ty)) (sym now))
          | inr differ ↦ small_stays a opened_heap q new other agrees (small_other q ty other r differ)
              (ap (λ (x : Thread). open_page x other) now ∙ page_other th ty other first differ ∙ ap (λ (x : Thread). open_page x other) (sym before))
              ((same_entries q.owner).pages other)
        ];
        run = run_there.run;
        run_type = run_there.run_type;
      })

  -- a longer run is the open run
  run_agrees : (q : ParcelView) → q.owner ≡ t → Agrees (heap s) q → k ≢ 1 → Agrees opened_heap (record q { run = Some (fresh_lease ty first k) })
  run_agrees q owner agrees more =
      let a = heap s in
      let r = Some (fresh_lease ty first k) in
      let new : ParcelView = record q { run = r } in
      let th = thread_at a t in
      let is_thread : opened_thread ≡ record th { open_run = Some first } = rw (ne_eqb k 1 more) refl in
      let now : thread_at opened_heap q.owner ≡ record th { open_run = Some first } = own_now q owner ∙ is_thread in
      let before = own_before q owner in
      let here : Some first ≡ (thread_at opened_heap q.owner).open_run = ap (λ (x : Thread). x.open_run) (sym now) in
      agrees_from opened_heap new (record {
        small = λ other. small_stays a opened_heap q new other agrees (run_small q r other)
            (ap (λ (x : Thread). open_page x other) now ∙ run_pages th (Some first) other ∙ ap (λ (x : Thread). open_page x other) (sym before))
            ((same_entries q.owner).pages other);
        run = ap (λ (e : Entry). Some (record { first = first; pages = run_pages_of e; next = page_words * first })) (sym first_entry)
            ∙ ap (option_map (run_out opened_heap.pages)) here;
        run_type = ap type_of (sym first_entry) ∙ ap (run_type_of opened_heap.pages) here;
      })

  abbrev chosen : ParcelView → Bool → ParcelView
  chosen q one = if one then with_small q ty (Some (fresh_lease ty first k)) else record q { run = Some (fresh_lease ty first k) }

  pub opened_agrees : (q : ParcelView) → q.owner ≡ t → Agrees (heap s) q → Agrees (after s.program (heap s) (Opened t ty first k)) (with_region q ty first k)
  opened_agrees q owner agrees = subst (λ (b : NamedHeap). Agrees b (with_region q ty first k)) (sym opened_after) (elim (cases_eq k 1) [
    | inl one ↦ subst (λ (b : Bool). Agrees opened_heap (chosen q b)) (sym (eq-eqb k 1 one)) (page_agrees q owner agrees one)
    | inr more ↦ subst (λ (b : Bool). Agrees opened_heap (chosen q b)) (sym (ne_eqb k 1 more)) (run_agrees q owner agrees more)
  ])
