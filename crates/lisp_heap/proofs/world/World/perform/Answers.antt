-- A command that allocates nothing is one of those that are built.
use Rattle.std.proofs.Common.{◌≡◌, ℕ, subst, sym, Some, IsSome, inl, inr}
use Rattle.heap_terms.specs.declared.commands.Command.{Command}
use Rattle.heap_terms.specs.declared.pages.Next.TheVariants as nexts
use Rattle.heap_terms.specs.Histories.{command_at}
use Rattle.lisp_heap.specs.WorldSound.{IsSound, view_of}
use Rattle.lisp_heap.specs.View.{View, heap_of, next_of}
use Rattle.lisp_heap.specs.declared.world.World.TheInside.{Inside}
use Rattle.lisp_heap.proofs.Commands.{IsSimple, is_simple}
use Rattle.lisp_heap.proofs.Stepping.{has_command}
use Rattle.lisp_heap.proofs.world.World.perform.Goals as goal

-- the command is one of those that are built and allocate nothing
simple_here : (s : Inside) (w : View) → IsSound s → view_of s ≡ w → (t : ℕ) (c : Command) → command_at w.program (heap_of w) t ≡ Some c → next_of w t ≡ nexts.Simple → IsSimple c
simple_here s w h e t c at simple =
    is_simple s.program (heap_of (view_of s)) t c h.valid (subst (λ (x : View). command_at x.program (heap_of x) t ≡ Some c) (sym e) at)
    (subst (λ (x : View). next_of x t ≡ nexts.Simple) (sym e) simple)

pub current-command-requires-clause-there : goal.current-command-requires-clause-there
current-command-requires-clause-there c =
    (subst (λ (w : View). IsSome (command_at w.program (heap_of w) c.args.t)) c.self.view_is
    (has_command c.self.inside c.args.t (subst (λ (w : View). next_of w c.args.t ≡ nexts.Simple) (sym c.self.view_is) c.requires.simple)))

pub unreachable-requires : goal.unreachable-requires
unreachable-requires c =
    let simple = simple_here c.self.inside c.args.self.now c.self.invariant c.self.view_is c.args.t c.current-command.result c.current-command.ensures c.requires.simple in
    elim c.in-NewCons.is [
      | inl e ↦ subst IsSimple e.3 simple
      | inr more ↦ elim more [
        | inl e ↦ subst IsSimple e.2 simple
        | inr more ↦ elim more [
          | inl e ↦ subst IsSimple e.2 simple
          | inr more ↦ elim more [
            | inl e ↦ subst IsSimple e.2 simple
            | inr more ↦ elim more [
              | inl e ↦ subst IsSimple e.3 simple
              | inr more ↦ elim more [
                | inl e ↦ subst IsSimple e.2 simple
                | inr more ↦ subst IsSimple more.3 simple
              ]
            ]
          ]
        ]
      ]
    ]
