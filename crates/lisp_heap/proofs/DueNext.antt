-- Whether a collection is what a thread does next, by its state.
use Rattle.std.proofs.Common.{◌≡◌, ℕ, Option, Some, None, false, refl, sym, ◌∙◌, ap, inl, inr}
use Rattle.std.specs.Prelude.{◌&&◌, not}
use Rattle.std.specs.Option.{is_some}
use Rattle.std.proofs.lemmas.Bool.{cases_Bool}
use Rattle.heap_terms.specs.declared.commands.Command.{Command}
use Rattle.heap_terms.specs.declared.pages.Next.{Next}
use Rattle.heap_terms.specs.declared.pages.Next.TheVariants as nexts
use Rattle.heap_terms.specs.declared.programs.Program.{Program}
use Rattle.heap_terms.specs.Heap.{NamedHeap, thread_at}
use Rattle.heap_terms.specs.Histories.{command_at, next, next_command}
use Rattle.heap_terms.specs.Phases.{collects}
use Rattle.heap_laws.proofs.EventSteps.{never_collects_command}
use Rattle.lisp_heap.specs.State.{state_due, state_of}
use Rattle.lisp_heap.specs.declared.states.ThreadState.{ThreadState}
use Rattle.lisp_heap.proofs.Nexts.{next_done, next_alive, next_collects}

-- a command is never a collection
no_collection : (a : NamedHeap) (t : ℕ) (o : Option Command) → collects (next_command a t o) ≡ false
no_collection a t o = by_next (next_command a t o) refl
  where
    by_next : (n : Next) → next_command a t o ≡ n → collects n ≡ false
    by_next nexts.Simple e = refl
    by_next nexts.Open e = refl
    by_next (nexts.Build kind n seed) e = refl
    by_next (nexts.Collect last) e = absurd (never_collects_command a t o last e)
    by_next nexts.End e = refl
    by_next nexts.Done e = refl

pub due_next : (p : Program) (a : NamedHeap) (t : ℕ) (state : ThreadState) → state ≡ state_of (thread_at a t) →
    (not state.ended && is_some (state_due state)) ≡ collects (next p a t)
due_next p a t state known = elim (cases_Bool state.ended) [
  | inl over ↦ (let done = next_done p a t (ap (λ (x : ThreadState). x.ended) (sym known) ∙ over) in
      rw over (ap collects done))
  | inr going ↦ by_due (state_due state) refl (ap (λ (x : ThreadState). x.ended) (sym known) ∙ going) going
]
  where
    by_due : (o : Option ℕ) → state_due state ≡ o → (thread_at a t).ended ≡ false → state.ended ≡ false → (not state.ended && is_some (state_due state)) ≡ collects (next p a t)
    by_due None e alive going =
        let is = next_alive p a t alive (ap state_due (sym known) ∙ e) in
        rw (going, e) (sym (no_collection a t (command_at p a t)) ∙ ap collects is)
    by_due (Some last) e alive going =
        let is = next_collects p a t last alive (ap state_due (sym known) ∙ e) in
        rw (going, e) (ap collects is)
