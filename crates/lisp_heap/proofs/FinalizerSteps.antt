-- A World after a command on finalizers.
use Rattle.std.proofs.Common.{◌≡◌, ℕ, ◌+◌, ◌<◌, length, sym, refl, ◌∙◌, subst, ap, arith, Some, get_or}
use Rattle.heap_terms.specs.declared.answers.Answer.{Answer}
use Rattle.heap_terms.specs.declared.commands.Command.{Command}
use Rattle.heap_terms.specs.declared.events.Event.TheVariants.{Did}
use Rattle.heap_terms.specs.declared.pages.Next.{Next}
use Rattle.heap_terms.specs.declared.pages.Next.TheVariants as nexts
use Rattle.heap_terms.specs.Heap.{NamedHeap, thread_at}
use Rattle.heap_terms.specs.Histories.{IsNext, IsAnswer, after, after_command, command_at, next, advance}
use Rattle.finalizers.specs.Lists.{Lists}
use Rattle.lisp_heap.specs.Agreement.{Agrees}
use Rattle.lisp_heap.specs.FinalizerPlan.{IsFinalizerPlan}
use Rattle.lisp_heap.specs.ParcelView.{ParcelView}
use Rattle.lisp_heap.specs.Parts.{Parts}
use Rattle.lisp_heap.specs.Standing.{Holds}
use Rattle.lisp_heap.specs.State.{state_of, advanced, fresh_state}
use Rattle.lisp_heap.specs.WorldSound.{IsSound, parts_of}
use Rattle.lisp_heap.specs.declared.states.ThreadState.{ThreadState}
use Rattle.lisp_heap.specs.declared.world.World.TheInside.{Inside}
use Rattle.lisp_heap.proofs.Agreeing.{Agrees-same, Agrees-thread}
use Rattle.lisp_heap.proofs.PerformLemmas.{Holds-thread}
use Rattle.lisp_heap.proofs.Soundness.{heap, well_formed}
use Rattle.lisp_heap.proofs.Unchanged.{WordsStand-same, LabelsStand-same, StatsStand-same, state_read}

module _ (s : Inside) (h : IsSound s) (t : ℕ) (c : Command) (answer : Answer) (f : Lists)
    (lt : t < length s.program.threads) (at : command_at s.program (heap s) t ≡ Some c) (simple : next s.program (heap s) t ≡ nexts.Simple)
    (is : IsFinalizerPlan (heap s) t c answer f) where
  pub finalizing_next : IsNext s.program (heap s) (Did t c answer)
  unfolding IsNext
  finalizing_next = (at, subst (λ (n : Next). IsAnswer (heap s) t c answer n) (sym simple) is.answers)

  abbrev changed : NamedHeap
  changed = record (heap s) { finalizers = is.list; queue = is.queue }

  finalizing_after : after s.program (heap s) (Did t c answer) ≡ advance changed t
  unfolding after
  finalizing_after = ap (after_command s.program (heap s) t c) simple ∙ ap (λ (b : NamedHeap). advance b t) is.effect

  abbrev parts : Parts
  parts = record (parts_of s) { finalizers = f }

  changed_holds : Holds changed parts
  changed_holds =
      let cells = h.holds.cells in
      record {
        words = WordsStand-same (heap s) changed s.space refl refl h.holds.words;
        pages = h.holds.pages;
        labels = LabelsStand-same (heap s) changed s.labels refl refl h.holds.labels;
        cells = record {
          stack_length = cells.stack_length;
          exact_length = cells.exact_length;
          raws_length = cells.raws_length;
          shared_length = cells.shared_length;
          stack = cells.stack;
          exact = cells.exact;
          raws = cells.raws;
          shared = cells.shared;
        };
        states = h.holds.states;
        pins = h.holds.pins;
        commits = h.holds.commits;
        stats = StatsStand-same (heap s) changed s.stats refl refl refl h.holds.stats;
        counted = h.holds.counted;
        triggered = h.holds.triggered;
        finalizers = is.stand;
      }

  below : t < length (heap s).threads
  below = omega (arith, (well_formed s h).threads_length, lt)

  pub finalizing_holds : Holds (after s.program (heap s) (Did t c answer)) (record (parts_of s) { finalizers = f; states = advanced s.states t })
  finalizing_holds =
      let state_here : get_or s.states t fresh_state ≡ state_of (thread_at changed t) = state_read changed s.states t fresh_state changed_holds.states below in
      let moved : ThreadState = record (get_or s.states t fresh_state) { done = (get_or s.states t fresh_state).done + 1 } in
      let is_moved : moved ≡ state_of (record (thread_at changed t) { done = (thread_at changed t).done + 1 }) =
      ap (λ (x : ThreadState). record x { done = x.done + 1 }) state_here in
      subst (λ (a : NamedHeap). Holds a (record (parts_of s) { finalizers = f; states = advanced s.states t })) (sym finalizing_after)
      (Holds-thread changed parts t (record (thread_at changed t) { done = (thread_at changed t).done + 1 }) moved refl refl refl refl is_moved changed_holds)

  pub finalizing_agrees : (q : ParcelView) → Agrees (heap s) q → Agrees (after s.program (heap s) (Did t c answer)) q
  finalizing_agrees q agrees =
      subst (λ (a : NamedHeap). Agrees a q) (sym finalizing_after)
      (Agrees-thread changed t (record (thread_at changed t) { done = (thread_at changed t).done + 1 }) q refl refl refl refl
      (Agrees-same (heap s) changed q refl refl agrees))
