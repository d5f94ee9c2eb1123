-- What a region built is how the object is spelled.
use Rattle.std.proofs.Common.{◌≡◌, subst, sym, ◌∙◌, Some}
use Rattle.heap_terms.specs.declared.commands.Command.{Command}
use Rattle.heap_terms.specs.Heap.{thread_at}
use Rattle.heap_terms.specs.Histories.{command_at}
use Rattle.heap_laws.proofs.ValidScripts.{script_command}
use Rattle.heap_terms.specs.Valid.{IsInRange}
use Rattle.lisp_heap.specs.View.{View, heap_of}
use Rattle.lisp_heap.proofs.Accepting.{fresh_spelled}
use Rattle.lisp_heap.proofs.Soundness.{heap}
use Rattle.lisp_heap.proofs.world.World.place_built.Goals as goal

pub cell-requires-clause-cell : goal.cell-requires-clause-cell
cell-requires-clause-cell c =
    let s = c.self.inside in
    let at : command_at s.program (heap s) c.args.t ≡ Some c.args.command =
    subst (λ (w : View). command_at w.program (heap_of w) c.args.t ≡ Some c.args.command) (sym c.self.view_is) c.requires.commit.command in
    let in_range = (script_command s.program c.args.t (thread_at (heap s) c.args.t).done c.args.command c.self.invariant.valid at).in_range in
    (subst (λ (x : Command). IsInRange x) c.in-NewWeak.is in_range).1

pub place-requires-2-clause-words : goal.place-requires-2-clause-words
place-requires-2-clause-words c =
    c.requires.built ∙ fresh_spelled (heap_of c.args.self.now).objects (heap_of c.args.self.now) c.args.t c.args.command c.args.making.kind c.args.making.n c.args.making.seed
    c.requires.wish c.requires.no_cons c.in_default.not-NewWeak
