-- What a thread does next, by its state and its command.
use Rattle.std.proofs.Common.{◌≡◌, ℕ, ◌<◌, length, arith, subst, ap, ◌∙◌, sym, refl, Option, Some, None, false}
use Rattle.heap_terms.specs.declared.commands.Command.{Command}
use Rattle.heap_terms.specs.declared.pages.Next.{Next}
use Rattle.heap_terms.specs.declared.pages.Next.TheVariants as nexts
use Rattle.heap_terms.specs.Heap.{thread_at}
use Rattle.heap_terms.specs.Histories.{command_at, next_command, next_for}
use Rattle.heap_terms.specs.Regions.{wish_of}
use Rattle.heap_laws.proofs.ValidScripts.{script_command}
use Rattle.lisp_heap.specs.Agreement.{Agrees, CanBuild}
use Rattle.lisp_heap.specs.WorldSound.{view_of, IsSound}
use Rattle.lisp_heap.specs.State.{state_due, state_of}
use Rattle.lisp_heap.specs.View.{View, heap_of, next_of}
use Rattle.lisp_heap.specs.declared.states.ThreadState.{ThreadState}
use Rattle.lisp_heap.specs.declared.world.World.TheInside.{Inside}
use Rattle.lisp_heap.proofs.Nexts.{next_done, next_alive, next_collects, can_build}
use Rattle.lisp_heap.proofs.PageReading.{pages_in, run_in}
use Rattle.lisp_heap.proofs.Soundness.{heap, well_formed, states_length}
use Rattle.lisp_heap.proofs.WordReading.{thread_in, state_is}
use Rattle.lisp_heap.proofs.world.World.next.Goals as goal

pub at-state-requires : goal.at-state-requires
at-state-requires c = omega (arith, thread_in c.self.inside c.args.self.now c.self.view_is c.args.t c.requires, states_length c.self.inside c.self.invariant)

pub returns-then-state-clause-next : goal.returns-then-state-clause-next
returns-then-state-clause-next c =
    let lt = thread_in c.self.inside c.args.self.now c.self.view_is c.args.t c.requires in
    let state = state_is c.self.inside c.self.invariant c.args.t c.at-state.result lt c.at-state.ensures in
    subst (λ (w : View). nexts.Done ≡ next_of w c.args.t) c.self.view_is
    (next_done c.self.inside.program (heap c.self.inside) c.args.t (ap (λ (x : ThreadState). x.ended) (sym state) ∙ c.if-state.true))

-- an alive thread's next is that of its command
alive : (s : Inside) (w : View) (t : ℕ) (state : ThreadState) (o : Option Command) (n : Next) → IsSound s → view_of s ≡ w → t < length s.program.threads →
    state ≡ state_of (thread_at (heap s) t) → state.ended ≡ false → o ≡ command_at w.program (heap_of w) t →
    n ≡ next_command (heap_of w) t o → state_due state ≡ None → n ≡ next_of w t
alive s w t state o n h view lt known going at is free =
    is ∙ ap (next_command (heap_of w) t) at
    ∙ subst (λ (x : View). next_command (heap_of x) t (command_at x.program (heap_of x) t) ≡ next_of x t) view
    (next_alive s.program (heap s) t (ap (λ (x : ThreadState). x.ended) (sym known) ∙ going) (ap state_due (sym known) ∙ free))

pub returns-in-Some-clause-next : goal.returns-in-Some-clause-next
returns-in-Some-clause-next c =
    let lt = thread_in c.self.inside c.args.self.now c.self.view_is c.args.t c.requires in
    let state = state_is c.self.inside c.self.invariant c.args.t c.at-state.result lt c.at-state.ensures in
    subst (λ (w : View). nexts.Collect c.in-Some.last ≡ next_of w c.args.t) c.self.view_is
    (next_collects c.self.inside.program (heap c.self.inside) c.args.t c.in-Some.last (ap (λ (x : ThreadState). x.ended) (sym state) ∙ c.if-state.false)
    (ap state_due (sym state) ∙ sym c.due.ensures ∙ c.in-Some.is))

pub next_for-requires : goal.next_for-requires
next_for-requires c =
    let lt = thread_in c.self.inside c.args.self.now c.self.view_is c.args.t c.requires in
    let state = state_is c.self.inside c.self.invariant c.args.t c.at-state.result lt c.at-state.ensures in
    let known : c.at-state.result ≡ state_of (thread_at (heap_of c.args.self.now) c.args.t) =
    subst (λ (w : View). c.at-state.result ≡ state_of (thread_at (heap_of w) c.args.t)) c.self.view_is state in
    let at : command_at c.self.inside.program (heap c.self.inside) c.args.t ≡ Some c.in-Some-command.command =
    subst (λ (w : View). command_at w.program (heap_of w) c.args.t ≡ Some c.in-Some-command.command) (sym c.self.view_is) (sym c.command.ensures ∙ c.in-Some-command.is) in
    record {
      regions = record {
        pages = λ ty. pages_in c.self.inside c.args.self.now c.self.invariant c.self.view_is c.args.t c.at-state.result ty known;
        run = run_in c.self.inside c.args.self.now c.self.invariant c.self.view_is c.args.t c.at-state.result known;
      };
      in_range = (script_command c.self.inside.program c.args.t (thread_at (heap c.self.inside) c.args.t).done c.in-Some-command.command c.self.invariant.valid at).in_range;
    }

pub returns-in-None-clause-next : goal.returns-in-None-clause-next
returns-in-None-clause-next c =
    let lt = thread_in c.self.inside c.args.self.now c.self.view_is c.args.t c.requires in
    let state = state_is c.self.inside c.self.invariant c.args.t c.at-state.result lt c.at-state.ensures in
    alive c.self.inside c.args.self.now c.args.t c.at-state.result None nexts.End c.self.invariant c.self.view_is lt state c.if-state.false
    (sym c.in-None.is ∙ c.command.ensures) refl (sym c.due.ensures ∙ c.in_default.is)

pub returns-in-Some-command-clause-next : goal.returns-in-Some-command-clause-next
returns-in-Some-command-clause-next c =
    let lt = thread_in c.self.inside c.args.self.now c.self.view_is c.args.t c.requires in
    let state = state_is c.self.inside c.self.invariant c.args.t c.at-state.result lt c.at-state.ensures in
    let state_there : c.at-state.result ≡ state_of (thread_at (heap_of c.args.self.now) c.args.t) =
    subst (λ (w : View). c.at-state.result ≡ state_of (thread_at (heap_of w) c.args.t)) c.self.view_is state in
    alive c.self.inside c.args.self.now c.args.t c.at-state.result (Some c.in-Some-command.command) c.next_for.result c.self.invariant c.self.view_is lt state c.if-state.false
    (sym c.in-Some-command.is ∙ c.command.ensures) (c.next_for.ensures c.args.t state_there) (sym c.due.ensures ∙ c.in_default.is)

pub returns-in-Some-command-clause-room : goal.returns-in-Some-command-clause-room
returns-in-Some-command-clause-room c = λ q owner agrees. (
    let lt = thread_in c.self.inside c.args.self.now c.self.view_is c.args.t c.requires in
    let state = state_is c.self.inside c.self.invariant c.args.t c.at-state.result lt c.at-state.ensures in
    let state_there : c.at-state.result ≡ state_of (thread_at (heap_of c.args.self.now) c.args.t) =
    subst (λ (w : View). c.at-state.result ≡ state_of (thread_at (heap_of w) c.args.t)) c.self.view_is state in
    let at : command_at c.self.inside.program (heap c.self.inside) c.args.t ≡ Some c.in-Some-command.command =
    subst (λ (w : View). command_at w.program (heap_of w) c.args.t ≡ Some c.in-Some-command.command) (sym c.self.view_is) (sym c.command.ensures ∙ c.in-Some-command.is) in
    let built : Agrees (heap_of c.args.self.now) q → CanBuild (next_for (heap_of c.args.self.now) c.args.t (wish_of c.in-Some-command.command)) q =
    subst (λ (w : View). Agrees (heap_of w) q → CanBuild (next_for (heap_of w) c.args.t (wish_of c.in-Some-command.command)) q) c.self.view_is
    (can_build c.self.inside.program (heap c.self.inside) c.args.t c.in-Some-command.command q (well_formed c.self.inside c.self.invariant)
    (script_command c.self.inside.program c.args.t (thread_at (heap c.self.inside) c.args.t).done c.in-Some-command.command c.self.invariant.valid at).in_range owner) in
    subst (λ (n : Next). CanBuild n q) (sym (c.next_for.ensures c.args.t state_there)) (built agrees))
