-- A collection over the fields of a World: it can be made, and the fields stand after it.
use Rattle.std.proofs.Common.{◌≡◌, ℕ, ◌+◌, ◌*◌, ◌<◌, ◌≤◌, List, [], ◌∷◌, ◌++◌, length, map, refl, sym, ◌∙◌, subst, ap, arith, None}
use Rattle.std.proofs.lemmas.List.{length-append, length-map}
use Rattle.std.specs.List.{sum_by}
use Rattle.std.specs.Option.{ForSome}
use Rattle.std.specs.Prelude.{flat_map}
use Rattle.heap_terms.specs.declared.events.Event.{Event}
use Rattle.heap_terms.specs.declared.events.Event.TheVariants.{Collected}
use Rattle.heap_terms.specs.declared.events.PassRecord.{PassRecord}
use Rattle.heap_terms.specs.declared.pages.Entry.{Entry}
use Rattle.heap_terms.specs.declared.pages.Next.TheVariants as nexts
use Rattle.finalizers.specs.Lists.{Lists}
use Rattle.finalizers.specs.Standing.{FinalizersStand}
use Rattle.generation_policy.specs.declared.stats.GenStats.{GenStats}
use Rattle.heap_laws.proofs.SoundHeaps.{commits_few, commits_within, replay-numbers}
use Rattle.heap_terms.specs.Collections.{ArePasses, after_passes, closed}
use Rattle.pass_laws.proofs.Collecting.{closed_none}
use Rattle.heap_terms.specs.Heap.{NamedHeap, thread_at}
use Rattle.heap_terms.specs.Histories.{IsNext, after}
use Rattle.heap_terms.specs.Spelling.{word_of}
use Rattle.heap_terms.specs.WellFormed.{IsWellFormed}
use Rattle.collect_pass.specs.Pass.{CanQueue, IsReservedFor, RoomView}
use Rattle.trace_laws.specs.Rooted.{Rooted, StandFor}
use Rattle.lisp_heap.specs.Agreement.{Agrees}
use Rattle.lisp_heap.specs.CellsView.{with_exact_words}
use Rattle.lisp_heap.specs.AllPasses.{AreRooms, Stand}
use Rattle.lisp_heap.specs.Events.{Happens}
use Rattle.lisp_heap.specs.ParcelView.{empty_parcel}
use Rattle.lisp_heap.specs.Parts.{Parts}
use Rattle.lisp_heap.specs.Rooting.{ambiguous_roots, exact_of, exact_roots, root_values, rooted, rooted_in}
use Rattle.lisp_heap.specs.Standing.{Holds}
use Rattle.lisp_heap.specs.State.{state_closed, with_owed}
use Rattle.lisp_heap.specs.View.{View, heap_of, next_of}
use Rattle.lisp_heap.specs.WorldSound.{IsRoomFor, IsSound, parts_of, view_of}
use Rattle.lisp_heap.specs.Recording.{sizes_of}
use Rattle.lisp_heap.specs.declared.recording.RecordRoom.{RecordRoom}
use Rattle.lisp_heap.specs.declared.recording.RecordSizes.{RecordSizes}
use Rattle.lisp_heap.specs.declared.world.World.TheInside.{Inside}
use Rattle.lisp_heap.proofs.AfterCollection.{collected_agrees, collected_holds, collected_next, parts_then}
use Rattle.lisp_heap.proofs.Closing.{Holds-closed, closed_wf, exact_each, few_ambiguous, stand}
use Rattle.lisp_heap.proofs.FlatCells.{flat_long}
use Rattle.lisp_heap.proofs.PerformLemmas.{Holds-same}
use Rattle.lisp_heap.proofs.Soundness.{heap, well_formed}
use Rattle.lisp_heap.proofs.Stepping.{happens_after, heap_after, sound_after}
use Rattle.lisp_heap.proofs.FinalizersKept.{registered_long}
use Rattle.lisp_heap.proofs.RecordSizing.{rooms_within}
use Rattle.pair_laws.proofs.Counting.{pairs_few}
use Rattle.pair_laws.specs.Counts.{pair_count}
use Rattle.lisp_heap.proofs.WordReading.{thread_in}

module _ (s : Inside) (i : IsSound s) (w : View) (view : view_of s ≡ w) (h : Rooted) (roots : h ≡ rooted_in w) where
  abbrev a : NamedHeap
  a = heap s

  h_is : h ≡ rooted (closed (heap s))
  h_is = roots ∙ ap rooted_in (sym view)

  wf : IsWellFormed s.program (heap s)
  wf = well_formed s i

  abbrev before : Parts
  before = record (parts_of s) { states = map state_closed s.states }

  holds_b : Holds (closed (heap s)) before
  holds_b = Holds-closed (heap s) (parts_of s) i.holds

  -- the fields stand for the heap with its regions closed, and a collection of it can begin
  pub can_begin : (last : ℕ) (exact ambiguous : List ℕ) → exact ≡ exact_roots s.cells → ambiguous ≡ ambiguous_roots s.cells s.pins →
      Stand h last s.space s.pages s.labels exact ambiguous s.stats []
  can_begin last exact ambiguous exact_is ambiguous_is =
      let stands : StandFor (rooted (closed (heap s))) s.space s.pages exact ambiguous =
      subst (λ (xs : List ℕ). StandFor (rooted (closed (heap s))) s.space s.pages xs ambiguous) (sym exact_is)
      (subst (λ (xs : List ℕ). StandFor (rooted (closed (heap s))) s.space s.pages (exact_roots s.cells) xs) (sym ambiguous_is)
      (stand s.program (closed (heap s)) (closed_wf s.program (heap s) wf) before holds_b)) in
      let numbers = replay-numbers s.program s.history.items i.valid i.lawful in
      let here : Stand (rooted (closed (heap s))) last s.space s.pages s.labels exact ambiguous s.stats [] = record {
        stand = stands;
        named = holds_b.labels;
        counted = holds_b.stats;
        program = s.program;
        formed = closed_wf s.program (heap s) wf;
        regions = closed_none (heap s);
        pairs_few = omega arith;
        few_pages = omega (arith, wf.pages_length, i.valid.pages_most);
        numbers = record { words = numbers.words; cum = numbers.cum; num = numbers.num; counted = numbers.counted };
        few = commits_few s.program s.history.items i.valid i.lawful;
        objects_long = refl;
        pages_long = refl;
      } in
      subst (λ (x : Rooted). Stand x last s.space s.pages s.labels exact ambiguous s.stats []) (sym h_is) here

  pages_here : length h.heap.pages ≡ length s.pages
  pages_here = ap (λ (x : Rooted). length x.heap.pages) h_is ∙ ap (λ (ps : List Entry). length ps) (sym i.holds.pages)

  objects_here : length h.heap.objects ≡ s.commits
  objects_here = ap (λ (x : Rooted). length x.heap.objects) h_is ∙ sym i.holds.commits

  -- there is room for its passes
  pub has_room : (ambiguous : List ℕ) (room : RoomView) → ambiguous ≡ ambiguous_roots s.cells s.pins →
      IsReservedFor room w.program.pages (56 * length w.program.threads) (sum_by length w.program.threads) →
      IsReservedFor room (length h.heap.pages) (length ambiguous) (length h.heap.objects)
  has_room ambiguous room ambiguous_is reserved =
      let here : IsReservedFor room s.program.pages (56 * length s.program.threads) (sum_by length s.program.threads) =
      subst (λ (v : View). IsReservedFor room v.program.pages (56 * length v.program.threads) (sum_by length v.program.threads)) (sym view) reserved in
      let few : length ambiguous ≤ 56 * length s.program.threads = subst (λ (ws : List ℕ). length ws ≤ 56 * length s.program.threads) (sym ambiguous_is) (few_ambiguous s.program (closed (heap s)) (closed_wf s.program (heap s) wf) before holds_b) in
      let pages : length s.pages ≡ s.program.pages = ap (λ (ps : List Entry). length ps) i.holds.pages ∙ wf.pages_length in
      let within = commits_within s.program s.history.items i.valid i.lawful in
      record {
        pages_are = here.pages_are ∙ sym (pages_here ∙ pages);
        enough = omega (arith, here.enough, few);
        weak_enough = omega (arith, here.weak_enough, within, objects_here, i.holds.commits);
      }

  pairs_here : pair_count h.heap ≤ length s.history.items
  pairs_here =
      let same : pair_count h.heap ≡ pair_count (heap s) = ap (λ (x : Rooted). pair_count x.heap) h_is in
      let few = pairs_few s.program s.history.items in
      omega (arith, same, few)

  listed_before : FinalizersStand h.heap s.finalizers
  listed_before = subst (λ (x : Rooted). FinalizersStand x.heap s.finalizers) (sym h_is) holds_b.finalizers

  -- and for its records
  pub have_rooms : (rooms : List RecordRoom) (ambiguous : List ℕ) (sizes : RecordSizes) → sizes.moves ≡ s.commits → sizes.pins ≡ length ambiguous →
      sizes.culls ≡ length s.history.items → sizes.breaks ≡ s.commits → sizes.queued ≡ length s.finalizers.registered → sizes.freed ≡ length s.pages → AreRooms rooms sizes →
      AreRooms rooms (sizes_of h.heap (length ambiguous))
  have_rooms rooms ambiguous sizes moves pins culls breaks queued freed fit = rooms_within rooms (sizes_of h.heap (length ambiguous)) sizes fit (record {
    moves = omega (arith, moves, objects_here);
    pins = omega (arith, pins);
    culls = omega (arith, culls, pairs_here);
    breaks = omega (arith, breaks, objects_here);
    queued = omega (arith, queued, registered_long h.heap s.finalizers listed_before);
    freed = omega (arith, freed, pages_here);
  })

  -- its finalizers can be queued
  pub can_queue : (room : RoomView) → length s.finalizers.registered ≤ room.queued → CanQueue h.heap s.finalizers room
  can_queue room reserved = record { stand = listed_before; reserved = reserved }

  -- ---- after the passes

  module _ (t last : ℕ) (lt : t < length w.program.threads) (collects : next_of w t ≡ nexts.Collect last) (allowed : (u : ℕ) → (thread_at (heap_of w) u).inhibits ≡ 0)
      (records : List PassRecord) (words : List ℕ) (pages : List Entry) (labels exact ambiguous : List ℕ) (stats : GenStats) (ambiguous_is : ambiguous ≡ ambiguous_roots s.cells s.pins)
      (made : Stand h last words pages labels exact ambiguous stats records) (passes : ArePasses h.heap last 0 records) (lists : Lists)
      (listed : FinalizersStand (after_passes h.heap last 0 records) lists) where
    made_here : Stand (rooted (closed (heap s))) last words pages labels exact (ambiguous_roots s.cells s.pins) stats records
    made_here = subst (λ (x : Rooted). Stand x last words pages labels exact (ambiguous_roots s.cells s.pins) stats records) h_is
        (subst (λ (xs : List ℕ). Stand h last words pages labels exact xs stats records) ambiguous_is made)

    are : ArePasses (closed (heap s)) last 0 records
    are = subst (λ (x : Rooted). ArePasses x.heap last 0 records) h_is passes

    listed_here : FinalizersStand (after_passes (closed (heap s)) last 0 records) lists
    listed_here = subst (λ (x : Rooted). FinalizersStand (after_passes x.heap last 0 records) lists) h_is listed

    here : t < length s.program.threads
    here = thread_in s w view t lt

    pub exact_long : length exact ≡ length s.cells.exact + length s.cells.shared
    exact_long =
        let b = closed (heap s) in
        let wf_b = closed_wf s.program (heap s) wf in
        let all = flat_long 16 exact_of b.threads (exact_each s.program b wf_b) in
        let long : length exact ≡ length (root_values b) = ap length made_here.stand.roots.exact_are ∙ length-map (root_values b) (word_of (after_passes b last 0 records).objects) in
        omega (arith, long, length-append (flat_map exact_of b.threads) b.shared, all, holds_b.cells.exact_length, holds_b.cells.shared_length, wf_b.shared_length)

    abbrev event : Event
    event = Collected t last records

    pub is_next : IsNext s.program (heap s) event
    is_next = collected_next s.program (heap s) t last records (subst (λ (v : View). next_of v t ≡ nexts.Collect last) (sym view) collects)
        (subst (λ (v : View). (u : ℕ) → (thread_at (heap_of v) u).inhibits ≡ 0) (sym view) allowed) are

    abbrev parts : Parts
    parts = parts_then s.program (heap s) (parts_of s) wf i.holds t last records here are words pages labels exact stats made_here.stand made_here.named made_here.counted made_here.objects_long lists listed_here

    held : Holds (after s.program (heap s) event) parts
    held = collected_holds s.program (heap s) (parts_of s) wf i.holds t last records here are words pages labels exact stats made_here.stand made_here.named made_here.counted made_here.objects_long lists listed_here

    -- the fields of a World to which all that was written
    pub record Written (x : Inside) : Type 0 where
      pub program : x.program ≡ s.program
      pub history : x.history.items ≡ s.history.items ++ event ∷ []
      pub space : x.space ≡ words
      pub pages_are : x.pages ≡ pages
      pub labels_are : x.labels ≡ labels
      pub cells : x.cells ≡ with_exact_words s.cells exact
      pub states : x.states ≡ with_owed (map state_closed s.states) t None
      pub pins : x.pins ≡ s.pins
      pub commits : x.commits ≡ s.commits
      pub stats_are : x.stats ≡ stats
      pub counted : x.counted ≡ s.counted
      pub triggered : x.triggered ≡ s.triggered
      pub finalizers : x.finalizers ≡ lists
      pub scratch : ForSome x.scratch (IsRoomFor x.program)

    pub sound_then : (x : Inside) → Written x → IsSound x
    sound_then x f =
        sound_after s x event i f.program f.history is_next f.scratch
        (Holds-same (after s.program (heap s) event) parts (parts_of x) f.space f.pages_are f.labels_are f.cells f.states f.pins f.commits f.stats_are f.counted f.triggered f.finalizers held)

    pub happens : (x : Inside) → Written x → Happens t w (view_of x)
    happens x f = happens_after s x w t event view f.program f.history refl is_next (sound_then x f)

    pub agrees : (x : Inside) → Written x → (u : ℕ) → Agrees (heap_of (view_of x)) (empty_parcel u)
    agrees x f u =
        subst (λ (b : NamedHeap). Agrees b (empty_parcel u)) (sym (heap_after s x event f.program f.history))
        (collected_agrees s.program (heap s) t last records u (omega (arith, here, wf.threads_length)))
