-- An object is committed.
use Rattle.std.proofs.Common.{◌≡◌, ℕ, ◌+◌, ◌*◌, ◌/◌, ◌<◌, ◌≤◌, ◌^◌, List, [], ◌∷◌, ◌++◌, length, map, subst, ap, ap₂, ◌∙◌, sym, refl, arith, Option, Some, None, Bool, true, false, get_or, set, length-append, length-set, ◌⊎◌}
use Rattle.std.proofs.lemmas.List.{get_or_push, set-set}
use Rattle.std.specs.Prelude.{if◌then◌else◌, ◌==◌, slice_index}
use Rattle.heap_terms.specs.declared.answers.Answer.TheVariants as answers
use Rattle.heap_terms.specs.declared.cells.Cell.{Cell}
use Rattle.heap_terms.specs.declared.cells.Value.{Value}
use Rattle.heap_terms.specs.declared.cells.Value.TheVariants as values
use Rattle.heap_terms.specs.declared.commands.Command.{Command}
use Rattle.heap_terms.specs.declared.commands.Command.TheVariants as commands
use Rattle.heap_terms.specs.declared.events.Event.{Event}
use Rattle.heap_terms.specs.declared.events.Event.TheVariants.{Did}
use Rattle.heap_terms.specs.declared.kinds.Kind.{Kind}
use Rattle.heap_terms.specs.declared.pages.Entry.{Entry}
use Rattle.heap_terms.specs.declared.pages.Next.{Next}
use Rattle.heap_terms.specs.Cells.{with_cell}
use Rattle.heap_terms.specs.Generations.{allocated}
use Rattle.heap_terms.specs.Heap.{NamedHeap, Thread, thread_at, with_thread, entry_at, fill_of, zero_value}
use Rattle.heap_terms.specs.Histories.{IsNext, IsAnswer, after, after_command, advance}
use Rattle.heap_terms.specs.Layout.{page_words, reference_word, size_of}
use Rattle.heap_terms.specs.Living.{IsLiving, HoldsLiving}
use Rattle.heap_terms.specs.Objects.{Object, kind_of, words_of_object}
use Rattle.heap_terms.specs.Regions.{committed, counting, destination_of, has_room, initial_contents, is_small, pages_after, place_for, run_used, with_destination}
use Rattle.heap_terms.specs.Spelling.{spelling, word_of, word_of_object}
use Rattle.heap_terms.specs.Stands.{WordsStand}
use Rattle.heap_terms.specs.Valid.{IsCell, IsInRange}
use Rattle.heap_terms.specs.WellFormed.{IsWellFormed, IsPlaced, BelongsTo}
use Rattle.heap_laws.proofs.Allocating.{new_object, initial_kind, initial_payload, initial_living, size_least}
use Rattle.heap_laws.proofs.SoundHeaps.{commits_few, after-well_formed, committed-allocated, replay-numbers}
use Rattle.heap_laws.specs.Numbers.{HasNumbers, most_passes}
use Rattle.heap_laws.proofs.ValidScripts.{script_command}
use Rattle.word_space.specs.Space.{written}
use Rattle.finalizers.specs.Standing.{FinalizersStand}
use Rattle.generation_policy.specs.Numbers.{StatsStand}
use Rattle.generation_policy.specs.declared.stats.GenStats.{GenStats}
use Rattle.lisp_heap.specs.CellsView.{with_cell_word}
use Rattle.lisp_heap.specs.Commits.{CanFill, IsCommit, pages_filled}
use Rattle.lisp_heap.specs.Counting.{HasMore, counted_after, states_counted, triggered_after}
use Rattle.lisp_heap.specs.Parts.{Parts}
use Rattle.lisp_heap.specs.Standing.{Holds, CellsStand, LabelsStand, pins_of}
use Rattle.lisp_heap.specs.State.{state_of, state_placed, with_placed, fresh_state}
use Rattle.lisp_heap.specs.View.{View}
use Rattle.lisp_heap.specs.WorldSound.{IsSound, view_of}
use Rattle.lisp_heap.specs.declared.states.ThreadState.{ThreadState}
use Rattle.lisp_heap.specs.declared.world.World.TheInside.{Inside}
use Rattle.lisp_heap.proofs.Agreeing.{states_at}
use Rattle.lisp_heap.proofs.CellLemmas.{CellsStand-with_thread, CellsStand-with_cell, CellsStand-objects}
use Rattle.lisp_heap.proofs.CommitLemmas.{WordsStand-commit, LabelsStand-commit, new_placed, room}
use Rattle.lisp_heap.proofs.FinalizersKept.{FinalizersStand-words}
use Rattle.lisp_heap.proofs.CountedWords.{CellsStand-counting, IsSameBut, counting-counted, counting-same, counting-states, counting-triggered}
use Rattle.lisp_heap.proofs.Filling.{Fills, fills}
use Rattle.lisp_heap.proofs.ObjectLemmas.{word_of-push}
use Rattle.lisp_heap.proofs.Soundness.{heap, well_formed}
use Rattle.lisp_heap.proofs.Threads.{thread_at-same}
use Rattle.lisp_heap.proofs.Unchanged.{HasSameNumbers, with_cell-numbers, with_cell-threads, with_cell-objects, with_cell-pages, with_cell-states, with_cell-pins, with_thread-pins, state_read, states_set}
use Rattle.lisp_heap.proofs.Wanted.{builds_wish, making_most, size_most, wish_making}

-- what a commit is told, of the World as it was looked into
pub record Commits (s : Inside) (t : ℕ) (c : Command) (d : Cell) (index : ℕ) (kind : Kind) (n : ℕ) : Type 0 where
  pub lt : t < length s.program.threads
  pub told : IsCommit (view_of s) t c d index kind n

pub commits : (s : Inside) (w : View) → view_of s ≡ w → (t : ℕ) (c : Command) (d : Cell) (index : ℕ) (kind : Kind) (n : ℕ) →
    t < length w.program.threads → IsCommit w t c d index kind n → Commits s t c d index kind n
commits s w e t c d index kind n lt told = record {
  lt = subst (λ (v : View). t < length v.program.threads) (sym e) lt;
  told = subst (λ (v : View). IsCommit v t c d index kind n) (sym e) told;
}

-- the state of a thread that made an object of a size, one command further
placed_state : (th : Thread) (size : ℕ) → state_placed (state_of th) size ≡ record (state_of (run_used th size)) { done = th.done + 1 }
placed_state th size = by_size (is_small size)
  where
    by_size : (b : Bool) → record (if b then state_of th else record (state_of th) { open_run = None }) { done = th.done + 1 }
        ≡ record (state_of (if b then th else record th { open_run = None })) { done = th.done + 1 }
    by_size true = refl
    by_size false = refl

used_done : (th : Thread) (size : ℕ) → (run_used th size).done ≡ th.done
used_done th size = by_size (is_small size)
  where
    by_size : (b : Bool) → (if b then th else record th { open_run = None }).done ≡ th.done
    by_size true = refl
    by_size false = refl

used_stack : (th : Thread) (size : ℕ) → (run_used th size).stack ≡ th.stack
used_stack th size = by_size (is_small size)
  where
    by_size : (b : Bool) → (if b then th else record th { open_run = None }).stack ≡ th.stack
    by_size true = refl
    by_size false = refl

used_exact : (th : Thread) (size : ℕ) → (run_used th size).exact ≡ th.exact
used_exact th size = by_size (is_small size)
  where
    by_size : (b : Bool) → (if b then th else record th { open_run = None }).exact ≡ th.exact
    by_size true = refl
    by_size false = refl

used_raws : (th : Thread) (size : ℕ) → (run_used th size).raws ≡ th.raws
used_raws th size = by_size (is_small size)
  where
    by_size : (b : Bool) → (if b then th else record th { open_run = None }).raws ≡ th.raws
    by_size true = refl
    by_size false = refl

used_pins : (th : Thread) (size : ℕ) → (run_used th size).pins ≡ th.pins
used_pins th size = by_size (is_small size)
  where
    by_size : (b : Bool) → (if b then th else record th { open_run = None }).pins ≡ th.pins
    by_size true = refl
    by_size false = refl

-- the destination of a command in range is a cell
destination_cell : (c : Command) (d : Cell) → IsInRange c → destination_of c ≡ Some d → IsCell d
destination_cell (commands.NewCons x y z) d r e = subst (λ (k : Cell). IsCell k) (let same : x ≡ d = cc in same) r.0
destination_cell (commands.NewVector x m) d r e = subst (λ (k : Cell). IsCell k) (let same : x ≡ d = cc in same) r.0
destination_cell (commands.NewInstance x m) d r e = subst (λ (k : Cell). IsCell k) (let same : x ≡ d = cc in same) r.0
destination_cell (commands.NewClosure x m) d r e = subst (λ (k : Cell). IsCell k) (let same : x ≡ d = cc in same) r.0
destination_cell (commands.NewWords x m w) d r e = subst (λ (k : Cell). IsCell k) (let same : x ≡ d = cc in same) r.0
destination_cell (commands.NewWeak x y) d r e = subst (λ (k : Cell). IsCell k) (let same : x ≡ d = cc in same) r.0
destination_cell (commands.NewTable x w b) d r e = subst (λ (k : Cell). IsCell k) (let same : x ≡ d = cc in same) r.0
destination_cell _ d r e = cc

module _ (s : Inside) (h : IsSound s) (t : ℕ) (c : Command) (d : Cell) (index : ℕ) (kind : Kind) (n : ℕ) (f : Commits s t c d index kind n) where
  abbrev a : NamedHeap
  a = heap s

  abbrev size : ℕ
  size = size_of kind n

  abbrev event : Event
  event = Did t c (answers.Placed (length a.objects) index)

  wf : IsWellFormed s.program a
  wf = well_formed s h

  in_range : IsInRange c
  in_range = (script_command s.program t (thread_at a t).done c h.valid f.told.command).in_range

  pub has_space : has_room a t kind size ≡ true
  has_space = (builds_wish s.program a t c kind n f.told.seed f.told.command f.told.builds).1

  pub payload_most : n ≤ 65535
  payload_most = making_most kind n f.told.seed (wish_making c kind n f.told.seed in_range f.told.wish)

  pub where_it_goes : Fills a t kind size (place_for a t kind size)
  where_it_goes = fills s.program a t kind n wf has_space (size_most kind n payload_most)

  pub placed_next : IsNext s.program a event
  unfolding IsNext
  placed_next = (
    f.told.command,
    subst (λ (x : Next). IsAnswer a t c (answers.Placed (length a.objects) index) x) (sym f.told.builds) (ap (answers.Placed (length a.objects)) f.told.place),
  )

  -- the new object, and the heap with it
  abbrev object : Object
  object = new_object a t c (place_for a t kind size)

  abbrev new_objects : List (Option Object)
  new_objects = a.objects ++ Some object ∷ []

  abbrev pushed : NamedHeap
  pushed = record (with_thread a t (run_used (thread_at a t) size)) { objects = new_objects; pages = pages_after a t kind size }

  abbrev pub celled : NamedHeap
  celled = with_cell pushed t d (values.Ref (length a.objects))

  -- its words are counted, and the thread is one command further
  abbrev pub counted_heap : NamedHeap
  counted_heap = counting s.program celled t size

  abbrev placed_heap : NamedHeap
  placed_heap = advance counted_heap t

  committed_is : committed s.program a t c kind n ≡ counted_heap
  unfolding committed
  committed_is = ap (λ (o : Option Cell). counting s.program (with_destination pushed t o (values.Ref (length a.objects))) t size) f.told.destination

  same_but : IsSameBut s.program celled t size
  same_but = counting-same s.program celled t size

  pub placed_after : after s.program a event ≡ placed_heap
  unfolding after
  placed_after = ap (after_command s.program a t c) f.told.builds ∙ ap (λ (b : NamedHeap). advance b t) committed_is

  placed_well_formed : IsWellFormed s.program placed_heap
  placed_well_formed = subst (λ (b : NamedHeap). IsWellFormed s.program b) placed_after (after-well_formed s.program h.valid a event placed_next wf)

  objects_are : placed_heap.objects ≡ new_objects
  objects_are = same_but.objects ∙ with_cell-objects pushed t d (values.Ref (length a.objects))

  pub pages_are : celled.pages ≡ pages_after a t kind size
  pages_are = with_cell-pages pushed t d (values.Ref (length a.objects))

  pages_now : placed_heap.pages ≡ pages_after a t kind size
  pages_now = same_but.pages ∙ pages_are

  pages_long : length placed_heap.pages ≡ length a.pages
  pages_long = ap length pages_now ∙ where_it_goes.lengths

  kind_is : kind_of object.contents ≡ kind
  kind_is = initial_kind a t c kind n f.told.seed f.told.wish

  words_are : words_of_object object ≡ size
  words_are = rw (kind_is, initial_payload a t c kind n f.told.seed f.told.wish) refl

  filled : (page i : ℕ) → i < fill_of (entry_at placed_heap.pages page) → (i < fill_of (entry_at a.pages page)) ⊎ BelongsTo (page_words * page + i) object
  filled page i l = where_it_goes.filled object refl words_are page i (subst (λ (ps : List Entry). i < fill_of (entry_at ps page)) pages_now l)

  living : HoldsLiving a.objects object.contents
  living = initial_living s.program a t c wf f.lt

  -- what the writes require
  place_facts : IsPlaced placed_heap.pages object
  place_facts = new_placed s.program a placed_heap s.space object h.holds.words wf placed_well_formed living objects_are pages_long filled

  inside_object : place_for a t kind size + size ≤ length s.space
  inside_object = omega (arith, place_facts.inside, words_are, pages_long, h.holds.words.long)

  pub inside_space : (words : List ℕ) → words ≡ spelling a.objects (initial_contents a t c) → index + length words ≤ length s.space
  inside_space words is =
      let fits = room s.program a placed_heap s.space object h.holds.words wf placed_well_formed living objects_are pages_long filled in
      omega (arith, fits, f.told.place, ap length is)

  pub inside_labels : index / 2 < length s.labels
  inside_labels = omega (arith, inside_object, size_least kind n, f.told.place, h.holds.labels.long, h.holds.words.long)

  pub can_fill : CanFill s.pages index size
  can_fill = subst (λ (ps : List Entry). CanFill ps index size) (sym h.holds.pages)
      (subst (λ (x : ℕ). CanFill a.pages x size) (sym f.told.place) where_it_goes.can)

  pub few_commits : s.commits + 1 < 2 ^ 32
  few_commits = omega (arith, h.holds.commits, commits_few s.program s.history.items h.valid h.lawful)

  pub is_cell : IsCell d
  is_cell = destination_cell c d in_range f.told.destination

  below : t < length a.threads
  below = omega (arith, wf.threads_length, f.lt)

  -- what the writes make
  words_stand : WordsStand placed_heap (written s.space index (spelling a.objects (initial_contents a t c)))
  words_stand = subst (λ (x : ℕ). WordsStand placed_heap (written s.space x (spelling a.objects (initial_contents a t c)))) (sym f.told.place)
      (WordsStand-commit s.program a placed_heap s.space object h.holds.words wf placed_well_formed living objects_are pages_long filled)

  labels_stand : LabelsStand placed_heap (set s.labels (index / 2) (length a.objects))
  labels_stand = subst (λ (x : ℕ). LabelsStand placed_heap (set s.labels (x / 2) (length a.objects))) (sym f.told.place)
      (LabelsStand-commit s.program a placed_heap s.space object h.holds.words wf placed_well_formed living objects_are pages_long filled s.labels h.holds.labels)

  pages_stand : pages_filled s.pages index size ≡ placed_heap.pages
  pages_stand =
      ap (λ (ps : List Entry). pages_filled ps index size) h.holds.pages
      ∙ ap (λ (x : ℕ). pages_filled a.pages x size) f.told.place ∙ where_it_goes.pages_are ∙ sym pages_now

  reference_is : word_of new_objects (values.Ref (length a.objects)) ≡ reference_word index kind
  reference_is =
      ap word_of_object (get_or_push a.objects (Some object) None (length a.objects) refl)
      ∙ ap (λ (x : ℕ). reference_word x (kind_of object.contents)) (sym f.told.place) ∙ ap (λ (k : Kind). reference_word index k) kind_is

  cells_stand : CellsStand placed_heap (with_cell_word s.cells t d (reference_word index kind))
  cells_stand =
      let th = wf.threads t f.lt in
      let kept : (v : Value) → IsLiving a.objects v → word_of new_objects v ≡ word_of a.objects v = λ v lives. word_of-push a.objects object v lives in
      let new_cells = CellsStand-objects a new_objects s.cells (record {
        stack = λ u i hu hi. kept (get_or (thread_at a u).stack i zero_value) ((wf.threads u (subst (λ (x : ℕ). u < x) wf.threads_length hu)).stack i);
        exact = λ u i hu hi. kept (get_or (thread_at a u).exact i zero_value) ((wf.threads u (subst (λ (x : ℕ). u < x) wf.threads_length hu)).exact i);
        shared = λ i hi. kept (get_or a.shared i zero_value) (wf.shared i);
      }) h.holds.cells in
      let used = CellsStand-with_thread (record a { objects = new_objects }) t (run_used (thread_at a t) size) s.cells
      (used_stack (thread_at a t) size) (used_exact (thread_at a t) size) (used_raws (thread_at a t) size) new_cells in
      let on_pushed : CellsStand pushed s.cells = record {
        stack_length = used.stack_length;
        exact_length = used.exact_length;
        raws_length = used.raws_length;
        shared_length = used.shared_length;
        stack = used.stack;
        exact = used.exact;
        raws = used.raws;
        shared = used.shared;
      } in
      let own : thread_at pushed t ≡ run_used (thread_at a t) size = thread_at-same a t (run_used (thread_at a t) size) below in
      let there : t < length pushed.threads = omega (arith, below, length-set a.threads t (run_used (thread_at a t) size)) in
      let on_celled : CellsStand celled (with_cell_word s.cells t d (reference_word index kind)) =
      CellsStand-with_cell pushed t d (values.Ref (length a.objects)) (reference_word index kind) s.cells is_cell there
      (ap (λ (x : Thread). length x.stack) own ∙ ap length (used_stack (thread_at a t) size) ∙ th.stack_length)
      (ap (λ (x : Thread). length x.exact) own ∙ ap length (used_exact (thread_at a t) size) ∙ th.exact_length)
      wf.shared_length (sym reference_is) on_pushed in
      CellsStand-with_thread counted_heap t (record (thread_at counted_heap t) { done = (thread_at counted_heap t).done + 1 })
      (with_cell_word s.cells t d (reference_word index kind)) refl refl refl
      (CellsStand-counting s.program celled t size (with_cell_word s.cells t d (reference_word index kind)) on_celled)

  -- the own state, but for its place in the script
  pub own_state : state_of (thread_at celled t) ≡ state_of (run_used (thread_at a t) size)
  own_state = states_at pushed celled t (with_cell-states pushed t d (values.Ref (length a.objects)))
      ∙ ap state_of (thread_at-same a t (run_used (thread_at a t) size) below)

  states_moved : with_placed s.states t size ≡ map state_of (advance celled t).threads
  states_moved =
      let th = thread_at a t in
      let here : get_or s.states t fresh_state ≡ state_of th = state_read a s.states t fresh_state h.holds.states below in
      let used : set s.states t (state_of (run_used th size)) ≡ map state_of celled.threads =
      states_set a s.states t (run_used th size) (state_of (run_used th size)) h.holds.states refl
      ∙ sym (with_cell-states pushed t d (values.Ref (length a.objects))) in
      let moved : state_placed (get_or s.states t fresh_state) size ≡ state_of (record (thread_at celled t) { done = (thread_at celled t).done + 1 }) =
      ap (λ (x : ThreadState). state_placed x size) here ∙ placed_state th size
      ∙ ap (λ (x : ℕ). record (state_of (run_used th size)) { done = x + 1 }) (sym (used_done th size))
      ∙ ap (λ (x : ThreadState). record x { done = x.done + 1 }) (sym own_state) in
      sym (set-set s.states t (state_of (run_used th size)) (state_placed (get_or s.states t fresh_state) size))
      ∙ states_set celled (set s.states t (state_of (run_used th size))) t (record (thread_at celled t) { done = (thread_at celled t).done + 1 })
      (state_placed (get_or s.states t fresh_state) size) used moved

  numbers : HasSameNumbers pushed celled
  numbers = with_cell-numbers pushed t d (values.Ref (length a.objects))

  counted_is : s.counted ≡ celled.counted
  counted_is = h.holds.counted ∙ sym numbers.counted

  triggered_is : s.triggered ≡ celled.triggered
  triggered_is = h.holds.triggered ∙ sym numbers.triggered

  states_stand : states_counted s.program.auto s.counted s.triggered (with_placed s.states t size) t size ≡ map state_of placed_heap.threads
  states_stand =
      ap₂ (λ (x y : ℕ). states_counted s.program.auto x y (with_placed s.states t size) t size) counted_is triggered_is
      ∙ counting-states s.program celled t size (with_placed s.states t size) celled_there states_moved
    where
      celled_there : t < length celled.threads
      celled_there = omega (arith, below, length-set a.threads t (run_used (thread_at a t) size), with_cell-threads pushed t d (values.Ref (length a.objects)))

  counted_stands : counted_after s.program.auto s.counted s.triggered size ≡ placed_heap.counted
  counted_stands = ap₂ (λ (x y : ℕ). counted_after s.program.auto x y size) counted_is triggered_is ∙ counting-counted s.program celled t size

  triggered_stands : triggered_after s.program.auto s.counted s.triggered size ≡ placed_heap.triggered
  triggered_stands = ap₂ (λ (x y : ℕ). triggered_after s.program.auto x y size) counted_is triggered_is ∙ counting-triggered s.program celled t size

  stats_stand : (stats : GenStats) → HasMore s.stats stats size → StatsStand placed_heap stats
  stats_stand stats more = record {
    allocated_is = λ g low. more.words g low ∙ ap (λ (k : ℕ). k + (if 0 == g then size else 0)) (h.holds.stats.allocated_is g low)
        ∙ sym (committed-allocated s.program a t c kind n f.told.seed g f.told.wish) ∙ ap (λ (b : NamedHeap). allocated b g) committed_is;
    cum_is = more.cum ∙ h.holds.stats.cum_is ∙ sym numbers.cum ∙ sym same_but.cum;
    num_is = more.num ∙ h.holds.stats.num_is ∙ sym numbers.num ∙ sym same_but.num;
  }

  -- what the counts have room for
  few : HasNumbers a most_passes
  few = replay-numbers s.program s.history.items h.valid h.lawful

  size_few : size ≤ 65536
  size_few = size_most kind n payload_most

  pub few_words : slice_index s.stats.allocated 0 + size < 2 ^ 64
  few_words = omega (arith, h.holds.stats.allocated_is 0 (omega arith), few.words 0, size_few)

  pub few_counted : s.counted + size < 2 ^ 64
  few_counted = omega (arith, h.holds.counted, few.counted, size_few)

  pins_stand : s.pins ≡ map pins_of placed_heap.threads
  pins_stand =
      h.holds.pins ∙ sym (with_thread-pins a t (run_used (thread_at a t) size) (used_pins (thread_at a t) size))
      ∙ sym (with_cell-pins pushed t d (values.Ref (length a.objects)))
      ∙ sym same_but.pins
      ∙ sym (with_thread-pins counted_heap t (record (thread_at counted_heap t) { done = (thread_at counted_heap t).done + 1 }) refl)

  commits_stand : s.commits + 1 ≡ length placed_heap.objects
  commits_stand =
      let grown : length new_objects ≡ length a.objects + 1 = length-append a.objects (Some object ∷ []) in
      omega (arith, h.holds.commits, grown, ap length objects_are)

  finalizers_stand : FinalizersStand placed_heap s.finalizers
  finalizers_stand = FinalizersStand-words a placed_heap s.finalizers wf.sound.finalizers
      (λ name there. ap (λ (os : List (Option Object)). word_of os (values.Ref name)) objects_are ∙ word_of-push a.objects object (values.Ref name) there)
      (same_but.finalizers ∙ numbers.finalizers) (same_but.queue ∙ numbers.queue) h.holds.finalizers

  abbrev pub parts_now : GenStats → Parts
  parts_now stats = record {
    words = written s.space index (spelling a.objects (initial_contents a t c));
    pages = pages_filled s.pages index size;
    labels = set s.labels (index / 2) (length a.objects);
    cells = with_cell_word s.cells t d (reference_word index kind);
    states = states_counted s.program.auto s.counted s.triggered (with_placed s.states t size) t size;
    pins = s.pins;
    commits = s.commits + 1;
    stats = stats;
    counted = counted_after s.program.auto s.counted s.triggered size;
    triggered = triggered_after s.program.auto s.counted s.triggered size;
    finalizers = s.finalizers;
  }

  pub placed_holds : (stats : GenStats) → HasMore s.stats stats size → Holds (after s.program a event) (parts_now stats)
  placed_holds stats more = subst (λ (b : NamedHeap). Holds b (parts_now stats)) (sym placed_after) (record {
    words = words_stand;
    pages = pages_stand;
    labels = labels_stand;
    cells = cells_stand;
    states = states_stand;
    pins = pins_stand;
    commits = commits_stand;
    stats = stats_stand stats more;
    counted = counted_stands;
    triggered = triggered_stands;
    finalizers = finalizers_stand;
  })
