-- A World after one event more.
use Rattle.std.proofs.Common.{◌≡◌, ℕ, ◌+◌, ◌<◌, ◌≤◌, ◌^◌, List, [], ◌∷◌, ◌++◌, length, subst, ap, ◌∙◌, sym, refl, arith, Option, Some, None, false, get_or, set}
use Rattle.std.proofs.lemmas.List.Sums.{get_or-le-sum_by}
use Rattle.std.proofs.lemmas.List.{length-map}
use Rattle.std.proofs.lemmas.Option.{get_or_from_slice_get}
use Rattle.std.specs.Option.{ForSome}
use Rattle.std.specs.Prelude.{slice_get, IsSome}
use Rattle.heap_terms.specs.declared.answers.Answer.{Answer}
use Rattle.heap_terms.specs.declared.commands.Command.{Command}
use Rattle.heap_terms.specs.declared.events.Event.{Event}
use Rattle.heap_terms.specs.declared.events.Event.TheVariants.{Did}
use Rattle.heap_terms.specs.declared.pages.Next.{Next}
use Rattle.heap_terms.specs.declared.pages.Next.TheVariants as nexts
use Rattle.heap_terms.specs.declared.programs.Program.{Program}
use Rattle.heap_terms.specs.Generations.{allocated}
use Rattle.heap_terms.specs.Heap.{NamedHeap, Thread, thread_at}
use Rattle.heap_terms.specs.Cells.{with_cell}
use Rattle.heap_terms.specs.RawCells.{with_raw}
use Rattle.heap_terms.specs.Histories.{IsNext, IsAnswer, after, after_command, advance, command_at, next, next_command, script_of, replay, thread_of, Lawful}
use Rattle.heap_terms.specs.Outcomes.{outcome_of}
use Rattle.heap_terms.specs.Valid.{IsValid}
use Rattle.heap_terms.specs.WellFormed.{IsWellFormed}
use Rattle.heap_laws.proofs.SoundHeaps.{outcome-allocated, outcome-kept}
use Rattle.heap_laws.proofs.Allocating.{limited}
use Rattle.heap_laws.proofs.Reading.{replay-few}
use Rattle.heap_laws.proofs.ValidScripts.{script_place, script_command}
use Rattle.heap_laws.proofs.NextEvents.{Lawful-push, replay-push, next_parts}
use Rattle.lisp_heap.specs.Agreement.{Agrees}
use Rattle.lisp_heap.specs.Events.{Happens}
use Rattle.lisp_heap.specs.Plan.{IsPlan, Makes, CanChange, states_after}
use Rattle.lisp_heap.specs.ParcelView.{ParcelView}
use Rattle.lisp_heap.specs.PinsView.{but_last}
use Rattle.lisp_heap.specs.WorldSound.{IsSound, IsRoomFor, view_of, parts_of}
use Rattle.lisp_heap.specs.Parts.{Parts}
use Rattle.lisp_heap.specs.Standing.{Holds}
use Rattle.lisp_heap.specs.State.{state_of, advanced, fresh_state}
use Rattle.lisp_heap.specs.View.{View, heap_of}
use Rattle.lisp_heap.specs.declared.plan.Change.{Change}
use Rattle.lisp_heap.specs.declared.plan.Change.TheVariants as changes
use Rattle.lisp_heap.specs.declared.states.ThreadState.{ThreadState}
use Rattle.lisp_heap.specs.declared.world.World.TheInside.{Inside}
use Rattle.lisp_heap.proofs.Agreeing.{Agrees-same, Agrees-thread, states_at}
use Rattle.lisp_heap.proofs.PerformLemmas.{Holds-change, Holds-thread, parts_after}
use Rattle.lisp_heap.proofs.PutLemmas.{slots_count}
use Rattle.lisp_heap.proofs.Threads.{thread_at-same}
use Rattle.lisp_heap.proofs.Soundness.{heap, well_formed, cells_room, pin_room}
use Rattle.lisp_heap.proofs.Unchanged.{with_cell-pages, with_cell-states, with_raw-states, state_read}

-- what a sound World keeps, by its parts
record IsSoundAt (p : Program) (es : List Event) (v : Parts) : Type 0 where
  valid : IsValid p
  lawful : Lawful p es
  holds : Holds (replay p es) v

-- one event more, and parts that stand for the heap after it
pub sound_after : (s r : Inside) (e : Event) → IsSound s → r.program ≡ s.program → r.history.items ≡ s.history.items ++ e ∷ [] →
    IsNext s.program (heap s) e → ForSome r.scratch (IsRoomFor r.program) → Holds (after s.program (heap s) e) (parts_of r) → IsSound r
sound_after s r e h program history lawful scratch holds =
    let on : IsSoundAt s.program r.history.items (parts_of r) = record {
      valid = h.valid;
      lawful = subst (λ (es : List Event). Lawful s.program es) (sym history) (Lawful-push s.program s.history.items e h.lawful lawful);
      holds = subst (λ (es : List Event). Holds (replay s.program es) (parts_of r)) (sym history)
          (subst (λ (a : NamedHeap). Holds a (parts_of r)) (sym (replay-push s.program s.history.items e)) holds);
    } in
    let there : IsSoundAt r.program r.history.items (parts_of r) = subst (λ (p : Program). IsSoundAt p r.history.items (parts_of r)) (sym program) on in
    record { valid = there.valid; lawful = there.lawful; holds = there.holds; scratch = scratch }

pub happens_after : (s r : Inside) (w : View) (t : ℕ) (e : Event) → view_of s ≡ w → r.program ≡ s.program → r.history.items ≡ s.history.items ++ e ∷ [] →
    thread_of e ≡ t → IsNext s.program (heap s) e → IsSound r → Happens t w (view_of r)
happens_after s r w t e view program history thread lawful sound =
    subst (λ (x : View). Happens t x (view_of r)) view
    (record { event = e; thread = thread; lawful = lawful; program = program; history = history; stands = sound.holds })

-- the heap after it
pub heap_after : (s r : Inside) (e : Event) → r.program ≡ s.program → r.history.items ≡ s.history.items ++ e ∷ [] →
    heap r ≡ after s.program (heap s) e
heap_after s r e program history =
    ap (λ (p : Program). replay p r.history.items) program ∙ ap (replay s.program) history ∙ replay-push s.program s.history.items e

-- agreement carried over
pub agrees_after : (s r : Inside) (w : View) (e : Event) (old new : ParcelView) → view_of s ≡ w → r.program ≡ s.program → r.history.items ≡ s.history.items ++ e ∷ [] →
    (Agrees (heap s) old → Agrees (after s.program (heap s) e) new) → Agrees (heap_of w) old → Agrees (heap_of (view_of r)) new
agrees_after s r w e old new view program history kept before =
    subst (λ (a : NamedHeap). Agrees a new) (sym (heap_after s r e program history))
    (kept (subst (λ (x : View). Agrees (heap_of x) old) (sym view) before))

parts_hold : (s : Inside) → IsSound s → Holds (heap s) (parts_of s)
parts_hold s h = h.holds

-- a change leaves parcels in agreement
makes_agrees : (a : NamedHeap) (t : ℕ) (new : NamedHeap) (change : Change) → Makes a t new change → (q : ParcelView) → Agrees a q → Agrees new q
makes_agrees a t new changes.Nothing m q h = subst (λ (b : NamedHeap). Agrees b q) (sym m) h
makes_agrees a t new (changes.InCell cell word) m q h =
    subst (λ (b : NamedHeap). Agrees b q) (sym m.effect)
    (Agrees-same a (with_cell a t cell m.value) q (with_cell-pages a t cell m.value)
    (states_at a (with_cell a t cell m.value) q.owner (with_cell-states a t cell m.value)) h)
makes_agrees a t new (changes.InRaw r word) m q h =
    subst (λ (b : NamedHeap). Agrees b q) (sym m.effect) (Agrees-same a (with_raw a t r word) q refl (states_at a (with_raw a t r word) q.owner (with_raw-states a t r word)) h)
makes_agrees a t new (changes.InSpace index word) m q h =
    subst (λ (b : NamedHeap). Agrees b q) (sym m.effect) (Agrees-same a (record a { objects = set a.objects m.name (Some (record m.object { contents = m.contents })) }) q refl refl h)
makes_agrees a t new (changes.Inhibits count) m q h =
    subst (λ (b : NamedHeap). Agrees b q) (sym m) (Agrees-thread a t (record (thread_at a t) { inhibits = count }) q refl refl refl refl h)
makes_agrees a t new (changes.Owes last) m q h =
    subst (λ (b : NamedHeap). Agrees b q) (sym m) (Agrees-thread a t (record (thread_at a t) { owed = Some last }) q refl refl refl refl h)
makes_agrees a t new (changes.PushPin word) m q h =
    subst (λ (b : NamedHeap). Agrees b q) (sym m.effect) (Agrees-thread a t (record (thread_at a t) { pins = (thread_at a t).pins ++ word ∷ [] }) q refl refl refl refl h)
makes_agrees a t new changes.PopPin m q h =
    subst (λ (b : NamedHeap). Agrees b q) (sym m) (Agrees-thread a t (record (thread_at a t) { pins = but_last (thread_at a t).pins }) q refl refl refl refl h)

-- and the thread as far as it was
makes_done : (a : NamedHeap) (t : ℕ) (new : NamedHeap) (change : Change) → t < length a.threads → Makes a t new change → (thread_at new t).done ≡ (thread_at a t).done
makes_done a t new changes.Nothing l m = ap (λ (b : NamedHeap). (thread_at b t).done) m
makes_done a t new (changes.InCell cell word) l m =
    ap (λ (b : NamedHeap). (thread_at b t).done) m.effect ∙ ap (λ (x : ThreadState). x.done) (states_at a (with_cell a t cell m.value) t (with_cell-states a t cell m.value))
makes_done a t new (changes.InRaw r word) l m =
    ap (λ (b : NamedHeap). (thread_at b t).done) m.effect ∙ ap (λ (x : ThreadState). x.done) (states_at a (with_raw a t r word) t (with_raw-states a t r word))
makes_done a t new (changes.InSpace index word) l m = ap (λ (b : NamedHeap). (thread_at b t).done) m.effect
makes_done a t new (changes.Inhibits count) l m =
    ap (λ (b : NamedHeap). (thread_at b t).done) m ∙ ap (λ (x : Thread). x.done) (thread_at-same a t (record (thread_at a t) { inhibits = count }) l)
makes_done a t new (changes.Owes last) l m =
    ap (λ (b : NamedHeap). (thread_at b t).done) m ∙ ap (λ (x : Thread). x.done) (thread_at-same a t (record (thread_at a t) { owed = Some last }) l)
makes_done a t new (changes.PushPin word) l m =
    ap (λ (b : NamedHeap). (thread_at b t).done) m.effect
    ∙ ap (λ (x : Thread). x.done) (thread_at-same a t (record (thread_at a t) { pins = (thread_at a t).pins ++ word ∷ [] }) l)
makes_done a t new changes.PopPin l m =
    ap (λ (b : NamedHeap). (thread_at b t).done) m ∙ ap (λ (x : Thread). x.done) (thread_at-same a t (record (thread_at a t) { pins = but_last (thread_at a t).pins }) l)

-- a thread with a command is not at the end of its script, which is short
pub done_small : (s : Inside) → IsSound s → (t : ℕ) (c : Command) → t < length s.program.threads → command_at s.program (heap s) t ≡ Some c →
    (thread_at (heap s) t).done < 20000
done_small s h t c lt at =
    let below = script_place s.program t (thread_at (heap s) t).done c at in
    let short : length (script_of s.program t) ≤ 20000 = omega (arith, get_or-le-sum_by length s.program.threads t [] lt, h.valid.commands_most) in
    omega (arith, below, short)

-- it inhibits no more often than that
pub inhibits_small : (s : Inside) → IsSound s → (t : ℕ) (c : Command) → t < length s.program.threads → command_at s.program (heap s) t ≡ Some c →
    (thread_at (heap s) t).inhibits < 20000
inhibits_small s h t c lt at = omega (arith, replay-few s.program s.history.items h.valid h.lawful t, done_small s h t c lt at)

-- ---- a command that allocates nothing

module _ (s : Inside) (h : IsSound s) (t : ℕ) (c : Command) (answer : Answer) (change : Change)
    (lt : t < length s.program.threads) (at : command_at s.program (heap s) t ≡ Some c) (simple : next s.program (heap s) t ≡ nexts.Simple)
    (is : IsPlan (heap s) t c answer change) where
  pub did_next : IsNext s.program (heap s) (Did t c answer)
  unfolding IsNext
  did_next = (at, subst (λ (n : Next). IsAnswer (heap s) t c answer n) (sym simple) is.answers)

  pub did_after : after s.program (heap s) (Did t c answer) ≡ advance (outcome_of (heap s) t c).heap t
  unfolding after
  did_after = ap (after_command s.program (heap s) t c) simple

  alive : (thread_at (heap s) t).ended ≡ false
  alive = (next_parts s.program (heap s) t nexts.Simple simple (λ d. cc) (λ last d. cc)).0

  effect_well_formed : IsWellFormed s.program (outcome_of (heap s) t c).heap
  effect_well_formed = outcome-kept s.program (heap s) t c (well_formed s h) h.valid.pages_most lt alive
      (script_command s.program t (thread_at (heap s) t).done c h.valid at).in_range

  effect_words : (g : ℕ) → allocated (outcome_of (heap s) t c).heap g ≡ allocated (heap s) g
  effect_words g = outcome-allocated s.program (heap s) t c g (limited s.program h.valid) (well_formed s h) lt alive
      (script_command s.program t (thread_at (heap s) t).done c h.valid at).in_range

  effect_holds : Holds (outcome_of (heap s) t c).heap (parts_after (parts_of s) t change)
  effect_holds = Holds-change s.program (heap s) (outcome_of (heap s) t c).heap (parts_of s) t change (well_formed s h) effect_well_formed
      lt effect_words (parts_hold s h) is.makes

  threads_there : t < length (outcome_of (heap s) t c).heap.threads
  threads_there = omega (arith, effect_well_formed.threads_length, lt)

  pub did_holds : Holds (after s.program (heap s) (Did t c answer))
      (record (parts_after (parts_of s) t change) { states = advanced (states_after s.states t change) t })
  did_holds =
      let b = (outcome_of (heap s) t c).heap in
      let states = states_after s.states t change in
      let state_here : get_or states t fresh_state ≡ state_of (thread_at b t) = state_read b states t fresh_state effect_holds.states threads_there in
      let moved : ThreadState = record (get_or states t fresh_state) { done = (get_or states t fresh_state).done + 1 } in
      let is_moved : moved ≡ state_of (record (thread_at b t) { done = (thread_at b t).done + 1 }) =
      ap (λ (x : ThreadState). record x { done = x.done + 1 }) state_here in
      subst (λ (a : NamedHeap). Holds a (record (parts_after (parts_of s) t change) { states = advanced states t })) (sym did_after)
      (Holds-thread b (parts_after (parts_of s) t change) t (record (thread_at b t) { done = (thread_at b t).done + 1 }) moved refl refl refl refl is_moved effect_holds)

  pub did_agrees : (q : ParcelView) → Agrees (heap s) q → Agrees (after s.program (heap s) (Did t c answer)) q
  did_agrees q agrees =
      let b = (outcome_of (heap s) t c).heap in
      subst (λ (a : NamedHeap). Agrees a q) (sym did_after)
      (Agrees-thread b t (record (thread_at b t) { done = (thread_at b t).done + 1 }) q refl refl refl refl
      (makes_agrees (heap s) t b change is.makes q agrees))

  -- the states after the change, of which thread t's has room for one command more
  pub states_count : length (states_after s.states t change) ≡ length s.program.threads
  states_count = ap length effect_holds.states ∙ length-map (outcome_of (heap s) t c).heap.threads state_of ∙ effect_well_formed.threads_length

  pub change_room : (x : ThreadState) → slice_get (states_after s.states t change) t ≡ Some x → x.done + 1 < 2 ^ 64
  change_room x found =
      let b = (outcome_of (heap s) t c).heap in
      let is_x : get_or (states_after s.states t change) t x ≡ x = get_or_from_slice_get (states_after s.states t change) t x x found in
      let known : get_or (states_after s.states t change) t x ≡ state_of (thread_at b t) = state_read b (states_after s.states t change) t x effect_holds.states threads_there in
      let same : x.done ≡ (thread_at b t).done = ap (λ (k : ThreadState). k.done) (sym is_x ∙ known) in
      let below : t < length (heap s).threads = omega (arith, (well_formed s h).threads_length, lt) in
      omega (arith, same, makes_done (heap s) t b change below is.makes, done_small s h t c lt at)

  pub can_change : CanChange s.cells s.space s.pins t change
  can_change = by_change change is.makes
    where
      by_change : (k : Change) → Makes (heap s) t (outcome_of (heap s) t c).heap k → CanChange s.cells s.space s.pins t k
      by_change changes.Nothing m = tt
      by_change (changes.InCell cell word) m = (m.is_cell, cells_room s t h lt)
      by_change (changes.InRaw r word) m = (m.is_raw, cells_room s t h lt)
      by_change (changes.InSpace index word) m =
          let sound = (well_formed s h).sound in
          omega (arith, (sound.objects m.name m.object m.there).placed.inside, slots_count (heap s) m.name m.object sound m.there, h.holds.words.long, m.at_index, m.within)
      by_change (changes.Inhibits count) m = tt
      by_change (changes.Owes last) m = tt
      by_change (changes.PushPin word) m = pin_room s h t lt m.room
      by_change changes.PopPin m = tt

pub state_room : (s : Inside) → IsSound s → (t : ℕ) (c : Command) → t < length s.program.threads → command_at s.program (heap s) t ≡ Some c →
    (x : ThreadState) → slice_get s.states t ≡ Some x → x.done + 1 < 2 ^ 64
state_room s h t c lt at x found =
    let is : get_or s.states t x ≡ x = get_or_from_slice_get s.states t x x found in
    let known : get_or s.states t x ≡ state_of (thread_at (heap s) t) =
    state_read (heap s) s.states t x h.holds.states (omega (arith, (well_formed s h).threads_length, lt)) in
    let same : x.done ≡ (thread_at (heap s) t).done = ap (λ (k : ThreadState). k.done) (sym is ∙ known) in
    omega (arith, same, done_small s h t c lt at)

-- a thread that does a command has one
pub has_command : (s : Inside) → (t : ℕ) → next s.program (heap s) t ≡ nexts.Simple → IsSome (command_at s.program (heap s) t)
has_command s t e =
    let parts = next_parts s.program (heap s) t nexts.Simple e (λ d. cc) (λ last d. cc) in
    by_option (command_at s.program (heap s) t) parts.1
  where
    by_option : (o : Option Command) → next_command (heap s) t o ≡ nexts.Simple → IsSome o
    by_option None e = cc
    by_option (Some c) e = refl
