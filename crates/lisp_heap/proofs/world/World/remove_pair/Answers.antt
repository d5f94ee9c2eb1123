-- `trem` takes a pair out of a table.
use Rattle.std.proofs.Common.{◌≡◌, List, [], ◌∷◌, ◌++◌, refl, sym, ◌∙◌, ap, subst, arith}
use Rattle.heap_terms.specs.declared.commands.Command.TheVariants as commands
use Rattle.heap_terms.specs.declared.events.Event.{Event}
use Rattle.heap_terms.specs.declared.events.Event.TheVariants.{Did}
use Rattle.heap_terms.specs.Cells.{cell_value}
use Rattle.lisp_heap.specs.LookUps.{answer_after_remove}
use Rattle.lisp_heap.specs.Plan.{IsPlan}
use Rattle.lisp_heap.specs.View.{heap_of}
use Rattle.lisp_heap.specs.WorldSound.{parts_of}
use Rattle.lisp_heap.specs.declared.plan.Plan.{Plan}
use Rattle.lisp_heap.specs.declared.states.ThreadState.{ThreadState}
use Rattle.lisp_heap.specs.declared.world.World.TheInside.{Inside}
use Rattle.lisp_heap.proofs.Soundness.{states_length}
use Rattle.lisp_heap.proofs.Stepping.{state_room}
use Rattle.lisp_heap.proofs.TableActs.{table_there, remove_there, Ends, ends_sound, ends_happens, ends_agrees, command_in}
use Rattle.lisp_heap.proofs.TablePlans.{no_table, remove_none}
use Rattle.lisp_heap.proofs.TableSteps.{IsDoneInSpace}
use Rattle.lisp_heap.proofs.WordReading.{cell_lives, cell_word_of, thread_in}
use Rattle.lisp_heap.proofs.world.World.remove_pair.Goals as goal

pub object_of_kind-requires : goal.object_of_kind-requires
object_of_kind-requires c = cell_word_of c.self.inside c.args.self.now c.self.invariant c.self.view_is c.args.t c.args.c c.cell-of.result c.requires.thread c.cell-of.ensures

pub carry_out-requires-clause-plan : goal.carry_out-requires-clause-plan
carry_out-requires-clause-plan c =
    let a = heap_of c.args.self.now in
    let v = cell_value a c.args.t c.args.c in
    let living = cell_lives c.self.inside c.args.self.now c.self.invariant c.self.view_is c.args.t c.args.c c.requires.thread in
    subst (λ (o : Plan). IsPlan a c.args.t (commands.TableRem c.args.c c.args.k) o.answer o.change) (sym c.refused.ensures)
    (remove_none a c.args.t c.args.c c.args.k (no_table a.objects v (c.in_default.ensures v living c.cell-of.ensures)))

pub remove-requires : goal.remove-requires
remove-requires c =
    let living = cell_lives c.self.inside c.args.self.now c.self.invariant c.self.view_is c.args.t c.args.c c.requires.thread in
    table_there c.self.inside c.args.self.now c.self.invariant c.self.view_is c.args.t c.args.c c.in-Some.table
    (c.in-Some.ensures (cell_value (heap_of c.args.self.now) c.args.t c.args.c) living c.cell-of.ensures)

done : (c : goal.After-advance) → IsDoneInSpace c.self.inside c.args.t (commands.TableRem c.args.c c.args.k) (answer_after_remove c.remove.result) c.remove.new.space
done c =
    let living = cell_lives c.self.inside c.args.self.now c.self.invariant c.self.view_is c.args.t c.args.c c.requires.thread in
    remove_there c.self.inside c.args.self.now c.self.invariant c.self.view_is c.args.t c.args.c c.args.k c.in-Some.table c.cell-key.result c.remove.result c.remove.new.space
    c.requires.thread c.requires.command c.requires.simple (c.in-Some.ensures (cell_value (heap_of c.args.self.now) c.args.t c.args.c) living c.cell-of.ensures)
    c.cell-key.ensures c.remove.ensures

pub advance-requires-clause-thread : goal.advance-requires-clause-thread
advance-requires-clause-thread c =
    let lt = thread_in c.self.inside c.args.self.now c.self.view_is c.args.t c.requires.thread in
    omega (arith, lt, states_length c.self.inside c.self.invariant)

pub advance-requires-clause-room : goal.advance-requires-clause-room
advance-requires-clause-room c =
    state_room c.self.inside c.self.invariant c.args.t (commands.TableRem c.args.c c.args.k) (thread_in c.self.inside c.args.self.now c.self.view_is c.args.t c.requires.thread)
    (command_in c.self.inside c.args.self.now c.self.view_is c.args.t (commands.TableRem c.args.c c.args.k) c.requires.command)

-- the fields after the call
abbrev made : goal.After-advance → Inside
made c = record {
  alloc = c.self.inside.alloc;
  program = c.self.inside.program;
  space = c.remove.new.space;
  pages = c.self.inside.pages;
  labels = c.self.inside.labels;
  cells = c.self.inside.cells;
  states = c.advance.new.self;
  pins = c.self.inside.pins;
  commits = c.self.inside.commits;
  stats = c.self.inside.stats;
  counted = c.self.inside.counted;
  triggered = c.self.inside.triggered;
  finalizers = c.self.inside.finalizers;
  history = c.push.new.self;
  scratch = c.self.inside.scratch;
}

ends : (c : goal.After-advance) → Ends c.self.inside (made c) c.args.t (commands.TableRem c.args.c c.args.k) (answer_after_remove c.remove.result) c.remove.new.space
ends c =
    let event = λ (answer : _). Did c.args.t (commands.TableRem c.args.c c.args.k) answer in
    let added : c.push.new.self.items ≡ c.reserve.new.self.items ++ event c.after_remove-answer.result ∷ [] = rw c.unwrap.ensures at c.push.ensures.items in
    record {
      program = refl;
      history = added ∙ ap (λ (es : List Event). es ++ event c.after_remove-answer.result ∷ []) c.reserve.ensures.items
          ∙ ap (λ (x : _). c.self.inside.history.items ++ event x ∷ []) c.after_remove-answer.ensures;
      parts = ap (λ (states : List ThreadState). record (parts_of c.self.inside) { words = c.remove.new.space; states = states }) c.advance.ensures;
      scratch = c.self.invariant.scratch;
    }

pub invariant_of-self-2 : goal.invariant_of-self-2
invariant_of-self-2 c =
    ends_sound c.self.inside c.args.self.now c.self.invariant c.self.view_is c.args.t (commands.TableRem c.args.c c.args.k) (answer_after_remove c.remove.result) c.remove.new.space
    c.requires.thread c.requires.command c.requires.simple (done c) (made c) (ends c)

pub returns-clause-ok : goal.returns-clause-ok
returns-clause-ok c =
    ends_happens c.self.inside c.args.self.now c.self.invariant c.self.view_is c.args.t (commands.TableRem c.args.c c.args.k) (answer_after_remove c.remove.result) c.remove.new.space
    c.requires.thread c.requires.command c.requires.simple (done c) (made c) (ends c)

pub returns-clause-others : goal.returns-clause-others
returns-clause-others c =
    ends_agrees c.self.inside c.args.self.now c.self.invariant c.self.view_is c.args.t (commands.TableRem c.args.c c.args.k) (answer_after_remove c.remove.result) c.remove.new.space
    c.requires.thread c.requires.command c.requires.simple (done c) (made c) (ends c)
