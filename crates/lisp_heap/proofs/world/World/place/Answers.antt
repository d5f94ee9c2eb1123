-- The commit of an object is one event.
use Rattle.std.proofs.Common.{◌≡◌, ℕ, ◌+◌, ◌/◌, ◌++◌, ◌∷◌, [], List, length, arith, subst, ap, ◌∙◌, sym, refl, length-set}
use Rattle.std.specs.Prelude.{slice_index_or, slice_set}
use Rattle.heap_terms.specs.declared.answers.Answer.TheVariants as answers
use Rattle.heap_terms.specs.declared.events.Event.{Event}
use Rattle.heap_terms.specs.declared.events.Event.TheVariants.{Did}
use Rattle.heap_terms.specs.Histories.{after}
use Rattle.heap_terms.specs.Layout.{size_of}
use Rattle.heap_terms.specs.Regions.{initial_contents}
use Rattle.heap_terms.specs.Spelling.{spelling}
use Rattle.word_space.specs.Space.{written}
use Rattle.lisp_heap.specs.Agreement.{Agrees, accepted_for}
use Rattle.lisp_heap.specs.CellsView.{with_cell_word}
use Rattle.lisp_heap.specs.Commits.{CanFill, pages_filled}
use Rattle.lisp_heap.specs.Counting.{HasMore, counted_after, states_counted, triggered_after}
use Rattle.lisp_heap.specs.State.{fresh_state, state_placed, with_placed}
use Rattle.lisp_heap.specs.declared.states.ThreadState.{ThreadState}
use Rattle.lisp_heap.specs.View.{View, heap_of, next_of}
use Rattle.lisp_heap.specs.WorldSound.{IsSound}
use Rattle.lisp_heap.specs.declared.world.World.TheInside.{Inside}
use Rattle.lisp_heap.proofs.ParcelParts.{agrees_others}
use Rattle.lisp_heap.proofs.PerformLemmas.{Holds-same}
use Rattle.lisp_heap.proofs.PlacingAgrees.{placed_agrees}
use Rattle.lisp_heap.proofs.PlacingLemmas.{commits, placed_next, placed_holds, inside_space, inside_labels, can_fill, few_commits, is_cell, payload_most, few_counted, few_words, parts_now}
use Rattle.lisp_heap.proofs.Soundness.{heap, states_length, cells_room, well_formed}
use Rattle.lisp_heap.proofs.Stepping.{state_room, sound_after, happens_after, agrees_after}
use Rattle.lisp_heap.proofs.world.World.place.Goals as goal

pub size_of-size-requires : goal.size_of-size-requires
size_of-size-requires c =
    let f = commits c.self.inside c.args.self.now c.self.view_is c.args.t c.args.command c.args.d c.args.index c.args.kind c.args.n c.requires.thread c.requires.commit in
    payload_most c.self.inside c.self.invariant c.args.t c.args.command c.args.d c.args.index c.args.kind c.args.n f

pub write_all-requires : goal.write_all-requires
write_all-requires c =
    let f = commits c.self.inside c.args.self.now c.self.view_is c.args.t c.args.command c.args.d c.args.index c.args.kind c.args.n c.requires.thread c.requires.commit in
    let words = subst (λ (w : View). c.args.words.now ≡ spelling (heap_of w).objects (initial_contents (heap_of w) c.args.t c.args.command)) (sym c.self.view_is) c.requires.words in
    inside_space c.self.inside c.self.invariant c.args.t c.args.command c.args.d c.args.index c.args.kind c.args.n f c.args.words.now words

pub set-requires : goal.set-requires
set-requires c =
    let f = commits c.self.inside c.args.self.now c.self.view_is c.args.t c.args.command c.args.d c.args.index c.args.kind c.args.n c.requires.thread c.requires.commit in
    inside_labels c.self.inside c.self.invariant c.args.t c.args.command c.args.d c.args.index c.args.kind c.args.n f

pub fill_pages-requires : goal.fill_pages-requires
fill_pages-requires c =
    let f = commits c.self.inside c.args.self.now c.self.view_is c.args.t c.args.command c.args.d c.args.index c.args.kind c.args.n c.requires.thread c.requires.commit in
    subst (λ (n : ℕ). CanFill c.self.inside.pages c.args.index n) (sym c.size_of-size.ensures) (can_fill c.self.inside c.self.invariant c.args.t c.args.command c.args.d c.args.index c.args.kind c.args.n f)

pub write-requires-clause-cell : goal.write-requires-clause-cell
write-requires-clause-cell c =
    let f = commits c.self.inside c.args.self.now c.self.view_is c.args.t c.args.command c.args.d c.args.index c.args.kind c.args.n c.requires.thread c.requires.commit in
    is_cell c.self.inside c.self.invariant c.args.t c.args.command c.args.d c.args.index c.args.kind c.args.n f

pub write-requires-clause-room : goal.write-requires-clause-room
write-requires-clause-room c =
    let f = commits c.self.inside c.args.self.now c.self.view_is c.args.t c.args.command c.args.d c.args.index c.args.kind c.args.n c.requires.thread c.requires.commit in
    cells_room c.self.inside c.args.t c.self.invariant f.lt

pub overflow_add-self : goal.overflow_add-self
overflow_add-self c =
    let f = commits c.self.inside c.args.self.now c.self.view_is c.args.t c.args.command c.args.d c.args.index c.args.kind c.args.n c.requires.thread c.requires.commit in
    omega (arith, few_commits c.self.inside c.self.invariant c.args.t c.args.command c.args.d c.args.index c.args.kind c.args.n f)

pub place-requires-clause-thread : goal.place-requires-clause-thread
place-requires-clause-thread c =
    let f = commits c.self.inside c.args.self.now c.self.view_is c.args.t c.args.command c.args.d c.args.index c.args.kind c.args.n c.requires.thread c.requires.commit in
    omega (arith, f.lt, states_length c.self.inside c.self.invariant)

pub place-requires-clause-room : goal.place-requires-clause-room
place-requires-clause-room c =
    let f = commits c.self.inside c.args.self.now c.self.view_is c.args.t c.args.command c.args.d c.args.index c.args.kind c.args.n c.requires.thread c.requires.commit in
    state_room c.self.inside c.self.invariant c.args.t c.args.command f.lt f.told.command

pub add_words-requires : goal.add_words-requires
add_words-requires c =
    let f = commits c.self.inside c.args.self.now c.self.view_is c.args.t c.args.command c.args.d c.args.index c.args.kind c.args.n c.requires.thread c.requires.commit in
    omega (arith, c.size_of-size.ensures, few_words c.self.inside c.self.invariant c.args.t c.args.command c.args.d c.args.index c.args.kind c.args.n f)

pub count_words-requires-clause-thread : goal.count_words-requires-clause-thread
count_words-requires-clause-thread c =
    let f = commits c.self.inside c.args.self.now c.self.view_is c.args.t c.args.command c.args.d c.args.index c.args.kind c.args.n c.requires.thread c.requires.commit in
    rw c.place.ensures (omega (
      arith,
      f.lt,
      states_length c.self.inside c.self.invariant,
      length-set c.self.inside.states c.args.t (state_placed (slice_index_or c.self.inside.states c.args.t fresh_state) c.size_of-size.result),
    ))

pub count_words-requires-clause-room : goal.count_words-requires-clause-room
count_words-requires-clause-room c =
    let f = commits c.self.inside c.args.self.now c.self.view_is c.args.t c.args.command c.args.d c.args.index c.args.kind c.args.n c.requires.thread c.requires.commit in
    omega (arith, c.size_of-size.ensures, few_counted c.self.inside c.self.invariant c.args.t c.args.command c.args.d c.args.index c.args.kind c.args.n f)

-- the fields after the call
abbrev made : goal.After-count_words → Inside
made c = record {
  alloc = c.self.inside.alloc;
  program = c.self.inside.program;
  space = c.write_all.new.self;
  pages = c.fill_pages.new.pages;
  labels = c.set.new.self;
  cells = c.write.new.self;
  states = c.count_words.new.states;
  pins = c.self.inside.pins;
  commits = c.self.inside.commits + 1;
  stats = c.add_words.new.stats;
  counted = c.count_words.new.counted;
  triggered = c.count_words.new.triggered;
  finalizers = c.self.inside.finalizers;
  history = c.push.new.self;
  scratch = c.self.inside.scratch;
}

abbrev event : goal.After-count_words → Event
event c = Did c.args.t c.args.command (answers.Placed (length (heap c.self.inside).objects) c.args.index)

pushed : (c : goal.After-count_words) → c.push.new.self.items ≡ c.self.inside.history.items ++ event c ∷ []
pushed c =
    c.in_ok-push.ensures.items ∙ ap (λ (n : ℕ). c.self.inside.history.items ++ Did c.args.t c.args.command (answers.Placed n c.args.index) ∷ []) c.self.invariant.holds.commits

sound_made : (c : goal.After-count_words) → IsSound (made c)
sound_made c =
    let f = commits c.self.inside c.args.self.now c.self.view_is c.args.t c.args.command c.args.d c.args.index c.args.kind c.args.n c.requires.thread c.requires.commit in
    let s = c.self.inside in
    let words = subst (λ (w : View). c.args.words.now ≡ spelling (heap_of w).objects (initial_contents (heap_of w) c.args.t c.args.command)) (sym c.self.view_is) c.requires.words in
    let size_is : c.size_of-size.result ≡ size_of c.args.kind c.args.n = c.size_of-size.ensures in
    let held = Holds-same (after s.program (heap s) (event c)) (parts_now c.self.inside c.self.invariant c.args.t c.args.command c.args.d c.args.index c.args.kind c.args.n f c.add_words.new.stats) (record {
      words = c.write_all.new.self;
      pages = c.fill_pages.new.pages;
      labels = c.set.new.self;
      cells = c.write.new.self;
      states = c.count_words.new.states;
      pins = s.pins;
      commits = s.commits + 1;
      stats = c.add_words.new.stats;
      counted = c.count_words.new.counted;
      triggered = c.count_words.new.triggered;
      finalizers = s.finalizers;
    })
    (c.write_all.ensures.words ∙ ap (λ (ws : List ℕ). written s.space c.args.index ws) words)
    (c.fill_pages.ensures ∙ ap (λ (n : ℕ). pages_filled s.pages c.args.index n) size_is)
    (c.set.ensures ∙ ap (λ (n : ℕ). slice_set s.labels (c.args.index / 2) n) c.self.invariant.holds.commits)
    (c.write.ensures ∙ ap (λ (v : ℕ). with_cell_word s.cells c.args.t c.args.d v) c.tag.ensures)
    (c.count_words.ensures.states
    ∙ ap (λ (xs : List ThreadState). states_counted s.program.auto s.counted s.triggered xs c.args.t c.size_of-size.result) c.place.ensures
    ∙ ap (λ (n : ℕ). states_counted s.program.auto s.counted s.triggered (with_placed s.states c.args.t n) c.args.t n) size_is)
    refl
    refl
    refl
    (c.count_words.ensures.counted ∙ ap (λ (n : ℕ). counted_after s.program.auto s.counted s.triggered n) size_is)
    (c.count_words.ensures.triggered ∙ ap (λ (n : ℕ). triggered_after s.program.auto s.counted s.triggered n) size_is)
    refl
    (placed_holds c.self.inside c.self.invariant c.args.t c.args.command c.args.d c.args.index c.args.kind c.args.n f c.add_words.new.stats
    (subst (λ (n : ℕ). HasMore s.stats c.add_words.new.stats n) size_is c.add_words.ensures)) in
    sound_after s (made c) (event c) c.self.invariant refl (pushed c) (placed_next c.self.inside c.self.invariant c.args.t c.args.command c.args.d c.args.index c.args.kind c.args.n f) c.self.invariant.scratch held

pub invariant_of-self-2 : goal.invariant_of-self-2
invariant_of-self-2 c = sound_made c

pub returns-clause-ok : goal.returns-clause-ok
returns-clause-ok c =
    let f = commits c.self.inside c.args.self.now c.self.view_is c.args.t c.args.command c.args.d c.args.index c.args.kind c.args.n c.requires.thread c.requires.commit in
    happens_after c.self.inside (made c) c.args.self.now c.args.t (event c) c.self.view_is refl (pushed c) refl (placed_next c.self.inside c.self.invariant c.args.t c.args.command c.args.d c.args.index c.args.kind c.args.n f) (sound_made c)

pub returns-clause-agrees : goal.returns-clause-agrees
returns-clause-agrees c = λ q owner. (
    let f = commits c.self.inside c.args.self.now c.self.view_is c.args.t c.args.command c.args.d c.args.index c.args.kind c.args.n c.requires.thread c.requires.commit in
    agrees_after c.self.inside (made c) c.args.self.now (event c) q (accepted_for (next_of c.args.self.now c.args.t) q) c.self.view_is refl (pushed c)
    (subst (λ (w : View). Agrees (heap c.self.inside) q → Agrees (after c.self.inside.program (heap c.self.inside) (event c)) (accepted_for (next_of w c.args.t) q)) c.self.view_is
    (placed_agrees c.self.inside c.self.invariant c.args.t c.args.command c.args.d c.args.index c.args.kind c.args.n f q owner)))

pub returns-clause-others : goal.returns-clause-others
returns-clause-others c = λ q other. (
    let f = commits c.self.inside c.args.self.now c.self.view_is c.args.t c.args.command c.args.d c.args.index c.args.kind c.args.n c.requires.thread c.requires.commit in
    agrees_after c.self.inside (made c) c.args.self.now (event c) q q c.self.view_is refl (pushed c)
    (agrees_others c.self.inside.program (heap c.self.inside) (event c) c.self.invariant.valid (well_formed c.self.inside c.self.invariant) (placed_next c.self.inside c.self.invariant c.args.t c.args.command c.args.d c.args.index c.args.kind c.args.n f) refl q other))
