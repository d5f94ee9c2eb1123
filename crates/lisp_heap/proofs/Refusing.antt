-- `!exhausted`: the command is answered, and nothing else changes.
use Rattle.std.proofs.Common.{◌≡◌, ℕ, ◌+◌, ◌<◌, length, subst, ap, ◌∙◌, sym, refl, arith, Option, Some, get_or}
use Rattle.heap_terms.specs.declared.answers.Answer.TheVariants as answers
use Rattle.heap_terms.specs.declared.answers.Refusal.TheVariants.{Exhausted}
use Rattle.heap_terms.specs.declared.commands.Command.{Command}
use Rattle.heap_terms.specs.declared.events.Event.TheVariants.{Did}
use Rattle.heap_terms.specs.declared.pages.Next.{Next}
use Rattle.heap_terms.specs.declared.pages.Next.TheVariants as nexts
use Rattle.heap_terms.specs.Heap.{NamedHeap, thread_at}
use Rattle.heap_terms.specs.Histories.{IsNext, IsAnswer, after, after_command, advance, command_at, next, wish_at, wished_size}
use Rattle.heap_terms.specs.Outcome.{Outcome, refused}
use Rattle.heap_terms.specs.Outcomes.{outcome_of}
use Rattle.heap_laws.proofs.NextEvents.{allocating_refused}
use Rattle.heap_terms.specs.Regions.{HasNoRun, pages_needed, wish_of}
use Rattle.lisp_heap.specs.Agreement.{Agrees}
use Rattle.lisp_heap.specs.ParcelView.{ParcelView}
use Rattle.lisp_heap.specs.WorldSound.{IsSound, parts_of}
use Rattle.lisp_heap.specs.Standing.{Holds}
use Rattle.lisp_heap.specs.State.{state_of, advanced, fresh_state}
use Rattle.lisp_heap.specs.declared.states.ThreadState.{ThreadState}
use Rattle.lisp_heap.specs.declared.world.World.TheInside.{Inside}
use Rattle.lisp_heap.proofs.Agreeing.{Agrees-thread}
use Rattle.lisp_heap.proofs.PerformLemmas.{Holds-thread}
use Rattle.lisp_heap.proofs.Soundness.{heap, well_formed}
use Rattle.lisp_heap.proofs.Unchanged.{state_read}
use Rattle.lisp_heap.proofs.Wanted.{opens_wish}

module _ (s : Inside) (h : IsSound s) (t : ℕ) (c : Command) (lt : t < length s.program.threads)
    (at : command_at s.program (heap s) t ≡ Some c) (opens : next s.program (heap s) t ≡ nexts.Open) where
  refused_outcome : outcome_of (heap s) t c ≡ refused Exhausted (heap s)
  refused_outcome =
      let wish = opens_wish s.program (heap s) t c at opens in
      allocating_refused (heap s) t c (wish.0) (wish.1) (wish.2) wish.3

  pub refused_next : HasNoRun (heap s).pages (pages_needed (wished_size (wish_at (command_at s.program (heap s) t)))) →
      IsNext s.program (heap s) (Did t c (answers.Refused Exhausted))
  unfolding IsNext
  refused_next none =
      let no_run : HasNoRun (heap s).pages (pages_needed (wished_size (wish_of c))) =
      subst (λ (o : Option Command). HasNoRun (heap s).pages (pages_needed (wished_size (wish_at o)))) at none in
      (at, subst (λ (n : Next). IsAnswer (heap s) t c (answers.Refused Exhausted) n) (sym opens) (ap (λ (o : Outcome). o.answer) (sym refused_outcome), no_run))

  refused_after : after s.program (heap s) (Did t c (answers.Refused Exhausted)) ≡ advance (heap s) t
  unfolding after
  refused_after = ap (after_command s.program (heap s) t c) opens ∙ ap (λ (o : Outcome). advance o.heap t) refused_outcome

  pub refused_holds : Holds (after s.program (heap s) (Did t c (answers.Refused Exhausted))) (record (parts_of s) { states = advanced s.states t })
  refused_holds =
      let a = heap s in
      let here : get_or s.states t fresh_state ≡ state_of (thread_at a t) =
      state_read a s.states t fresh_state h.holds.states (omega (arith, (well_formed s h).threads_length, lt)) in
      let moved : ThreadState = record (get_or s.states t fresh_state) { done = (get_or s.states t fresh_state).done + 1 } in
      let is_moved : moved ≡ state_of (record (thread_at a t) { done = (thread_at a t).done + 1 }) =
      ap (λ (x : ThreadState). record x { done = x.done + 1 }) here in
      subst (λ (b : NamedHeap). Holds b (record (parts_of s) { states = advanced s.states t })) (sym refused_after)
      (Holds-thread a (parts_of s) t (record (thread_at a t) { done = (thread_at a t).done + 1 }) moved refl refl refl refl is_moved h.holds)

  pub refused_agrees : (q : ParcelView) → Agrees (heap s) q → Agrees (after s.program (heap s) (Did t c (answers.Refused Exhausted))) q
  refused_agrees q agrees =
      let a = heap s in
      subst (λ (b : NamedHeap). Agrees b q) (sym refused_after)
      (Agrees-thread a t (record (thread_at a t) { done = (thread_at a t).done + 1 }) q refl refl refl refl agrees)
