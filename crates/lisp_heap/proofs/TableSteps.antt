-- A World after a command that changed one object, and nothing else but its thread's place.
use Rattle.std.proofs.Common.{◌≡◌, ℕ, ◌+◌, ◌<◌, List, length, subst, ap, sym, refl, arith, Some}
use Rattle.std.specs.Prelude.{slice_index_or}
use Rattle.heap_terms.specs.declared.answers.Answer.{Answer}
use Rattle.heap_terms.specs.declared.commands.Command.{Command}
use Rattle.heap_terms.specs.declared.events.Event.TheVariants.{Did}
use Rattle.heap_terms.specs.declared.pages.Next.{Next}
use Rattle.heap_terms.specs.declared.pages.Next.TheVariants as nexts
use Rattle.heap_terms.specs.Generations.{allocated}
use Rattle.heap_terms.specs.Heap.{NamedHeap, Thread, thread_at, ended_thread, fresh_thread}
use Rattle.heap_terms.specs.Histories.{IsNext, IsAnswer, after, after_command, advance, command_at, next}
use Rattle.heap_terms.specs.Outcomes.{outcome_of}
use Rattle.heap_laws.proofs.SoundHeaps.{outcome-allocated}
use Rattle.heap_laws.proofs.Allocating.{limited}
use Rattle.heap_laws.proofs.NextEvents.{next_parts}
use Rattle.heap_laws.proofs.ValidScripts.{script_command}
use Rattle.lisp_heap.specs.Agreement.{Agrees}
use Rattle.lisp_heap.specs.ParcelView.{ParcelView}
use Rattle.lisp_heap.specs.Parts.{Parts}
use Rattle.lisp_heap.specs.Standing.{Holds}
use Rattle.lisp_heap.specs.State.{state_of, advanced, fresh_state}
use Rattle.lisp_heap.specs.WorldSound.{IsSound, parts_of}
use Rattle.lisp_heap.specs.declared.states.ThreadState.{ThreadState}
use Rattle.lisp_heap.specs.declared.world.World.TheInside.{Inside}
use Rattle.lisp_heap.proofs.Agreeing.{Agrees-same, Agrees-thread}
use Rattle.lisp_heap.proofs.PerformLemmas.{Holds-thread}
use Rattle.lisp_heap.proofs.Soundness.{heap, well_formed}
use Rattle.lisp_heap.proofs.Unchanged.{state_read}

-- the command is answered, and these words stand for the heap after it, whose threads and pages are as before
pub record IsDoneInSpace (s : Inside) (t : ℕ) (c : Command) (answer : Answer) (words : List ℕ) : Type 0 where
  pub answers : answer ≡ (outcome_of (heap s) t c).answer
  pub threads : (outcome_of (heap s) t c).heap.threads ≡ (heap s).threads
  pub pages : (outcome_of (heap s) t c).heap.pages ≡ (heap s).pages
  pub holds : Holds (outcome_of (heap s) t c).heap (record (parts_of s) { words = words })

-- a command leaves as many words in each generation as there were
pub words_kept : (s : Inside) → IsSound s → (t : ℕ) (c : Command) → t < length s.program.threads → command_at s.program (heap s) t ≡ Some c →
    next s.program (heap s) t ≡ nexts.Simple → (g : ℕ) → allocated (outcome_of (heap s) t c).heap g ≡ allocated (heap s) g
words_kept s h t c lt at simple g =
    let alive = (next_parts s.program (heap s) t nexts.Simple simple (λ d. cc) (λ last d. cc)).0 in
    outcome-allocated s.program (heap s) t c g (limited s.program h.valid) (well_formed s h) lt alive
    (script_command s.program t (thread_at (heap s) t).done c h.valid at).in_range

module _ (s : Inside) (h : IsSound s) (t : ℕ) (c : Command) (answer : Answer) (words : List ℕ)
    (lt : t < length s.program.threads) (at : command_at s.program (heap s) t ≡ Some c) (simple : next s.program (heap s) t ≡ nexts.Simple)
    (is : IsDoneInSpace s t c answer words) where
  pub space_next : IsNext s.program (heap s) (Did t c answer)
  unfolding IsNext
  space_next = (at, subst (λ (n : Next). IsAnswer (heap s) t c answer n) (sym simple) is.answers)

  space_after : after s.program (heap s) (Did t c answer) ≡ advance (outcome_of (heap s) t c).heap t
  unfolding after
  space_after = ap (after_command s.program (heap s) t c) simple

  threads_there : t < length (outcome_of (heap s) t c).heap.threads
  threads_there = omega (arith, ap (λ (ths : List Thread). length ths) is.threads, (well_formed s h).threads_length, lt)

  pub space_holds : Holds (after s.program (heap s) (Did t c answer)) (record (parts_of s) { words = words; states = advanced s.states t })
  space_holds =
      let b = (outcome_of (heap s) t c).heap in
      let v : Parts = record (parts_of s) { words = words } in
      let state_here = state_read b s.states t fresh_state is.holds.states threads_there in
      let moved : ThreadState = record (slice_index_or s.states t fresh_state) { done = (slice_index_or s.states t fresh_state).done + 1 } in
      let is_moved : moved ≡ state_of (record (thread_at b t) { done = (thread_at b t).done + 1 }) =
      ap (λ (x : ThreadState). record x { done = x.done + 1 }) state_here in
      subst (λ (a : NamedHeap). Holds a (record (parts_of s) { words = words; states = advanced s.states t })) (sym space_after)
      (Holds-thread b v t (record (thread_at b t) { done = (thread_at b t).done + 1 }) moved refl refl refl refl is_moved is.holds)

  pub space_agrees : (q : ParcelView) → Agrees (heap s) q → Agrees (after s.program (heap s) (Did t c answer)) q
  space_agrees q agrees =
      let b = (outcome_of (heap s) t c).heap in
      let owner : state_of (thread_at b q.owner) ≡ state_of (thread_at (heap s) q.owner) =
      ap (λ (ths : List Thread). state_of (slice_index_or ths q.owner (ended_thread fresh_thread))) is.threads in
      subst (λ (a : NamedHeap). Agrees a q) (sym space_after)
      (Agrees-thread b t (record (thread_at b t) { done = (thread_at b t).done + 1 }) q refl refl refl refl
      (Agrees-same (heap s) b q is.pages owner agrees))
