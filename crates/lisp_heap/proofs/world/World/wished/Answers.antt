-- A thread that opens a region has a command that wants an object.
use Rattle.std.proofs.Common.{◌≡◌, subst, sym, Some, IsSome}
use Rattle.heap_terms.specs.declared.pages.Next.TheVariants as nexts
use Rattle.heap_terms.specs.Heap.{thread_at}
use Rattle.heap_terms.specs.Histories.{command_at}
use Rattle.heap_laws.proofs.ValidScripts.{script_command}
use Rattle.lisp_heap.specs.View.{View, heap_of, next_of}
use Rattle.lisp_heap.proofs.Lending.{opens_some}
use Rattle.lisp_heap.proofs.Soundness.{heap}
use Rattle.lisp_heap.proofs.Wishing.{open_command}
use Rattle.lisp_heap.proofs.world.World.wished.Goals as goal

pub current-requires-clause-there : goal.current-requires-clause-there
current-requires-clause-there c =
    (subst (λ (w : View). IsSome (command_at w.program (heap_of w) c.args.t)) c.self.view_is
    (open_command c.self.inside.program (heap c.self.inside) c.args.t (subst (λ (w : View). next_of w c.args.t ≡ nexts.Open) (sym c.self.view_is) c.requires.opens)))

pub wish-requires : goal.wish-requires
wish-requires c =
    let s = c.self.inside in
    let at : command_at s.program (heap s) c.args.t ≡ Some c.current.result =
    subst (λ (w : View). command_at w.program (heap_of w) c.args.t ≡ Some c.current.result) (sym c.self.view_is) c.current.ensures in
    (script_command s.program c.args.t (thread_at (heap s) c.args.t).done c.current.result c.self.invariant.valid at).in_range

pub unwrap-requires : goal.unwrap-requires
unwrap-requires c =
    let s = c.self.inside in
    let at : command_at s.program (heap s) c.args.t ≡ Some c.current.result =
    subst (λ (w : View). command_at w.program (heap_of w) c.args.t ≡ Some c.current.result) (sym c.self.view_is) c.current.ensures in
    opens_some s c.args.t c.current.result c.wish.result at (subst (λ (w : View). next_of w c.args.t ≡ nexts.Open) (sym c.self.view_is) c.requires.opens) c.wish.ensures.wish
