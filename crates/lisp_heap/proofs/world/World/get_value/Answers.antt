-- `tget` looks a key up in a table.
use Rattle.std.proofs.Common.{◌≡◌, List, [], ◌∷◌, ◌++◌, refl, sym, ◌∙◌, ap, subst, arith}
use Rattle.heap_terms.specs.declared.commands.Command.TheVariants as commands
use Rattle.heap_terms.specs.declared.events.Event.{Event}
use Rattle.heap_terms.specs.declared.events.Event.TheVariants.{Did}
use Rattle.heap_terms.specs.Cells.{cell_value}
use Rattle.heap_terms.specs.Histories.{replay}
use Rattle.lisp_heap.specs.LookUps.{IsFound}
use Rattle.lisp_heap.specs.Plan.{IsPlan}
use Rattle.lisp_heap.specs.View.{View, heap_of}
use Rattle.lisp_heap.specs.declared.plan.Plan.{Plan}
use Rattle.lisp_heap.specs.declared.world.World.TheInside.{Inside}
use Rattle.lisp_heap.proofs.Soundness.{states_length, pins_length}
use Rattle.lisp_heap.proofs.Stepping.{can_change, states_count, change_room}
use Rattle.lisp_heap.proofs.TableActs.{table_there, found_there, stays_there, still_sound, same_sound, with_words, plan_of, command_in, simple_in, plan_in, EndsPlan, plan_sound, plan_happens, plan_agrees}
use Rattle.lisp_heap.proofs.TablePlans.{no_table, get_none}
use Rattle.lisp_heap.proofs.WordReading.{cell_lives, cell_word_of, thread_in}
use Rattle.lisp_heap.proofs.world.World.get_value.Goals as goal

pub object_of_kind-requires : goal.object_of_kind-requires
object_of_kind-requires c = cell_word_of c.self.inside c.args.self.now c.self.invariant c.self.view_is c.args.t c.args.c c.cell-of.result c.requires.thread c.cell-of.ensures

pub carry_out-requires-clause-plan : goal.carry_out-requires-clause-plan
carry_out-requires-clause-plan c =
    let a = heap_of c.args.self.now in
    let v = cell_value a c.args.t c.args.c in
    let living = cell_lives c.self.inside c.args.self.now c.self.invariant c.self.view_is c.args.t c.args.c c.requires.thread in
    subst (λ (o : Plan). IsPlan a c.args.t (commands.TableGet c.args.d c.args.c c.args.k) o.answer o.change) (sym c.refused.ensures)
    (get_none a c.args.t c.args.d c.args.c c.args.k (no_table a.objects v (c.in_default.ensures v living c.cell-of.ensures)))

pub look_up-found-requires : goal.look_up-found-requires
look_up-found-requires c =
    let living = cell_lives c.self.inside c.args.self.now c.self.invariant c.self.view_is c.args.t c.args.c c.requires.thread in
    table_there c.self.inside c.args.self.now c.self.invariant c.self.view_is c.args.t c.args.c c.in-Some.table
    (c.in-Some.ensures (cell_value (heap_of c.args.self.now) c.args.t c.args.c) living c.cell-of.ensures)

-- the fields then
abbrev looked : goal.After-look_up-found → Inside
looked c = record (with_words c.self.inside c.look_up-found.new.space) { history = c.reserve.new.self }

pub invariant_of-self-2 : goal.invariant_of-self-2
invariant_of-self-2 c =
    let living = cell_lives c.self.inside c.args.self.now c.self.invariant c.self.view_is c.args.t c.args.c c.requires.thread in
    let table = c.in-Some.ensures (cell_value (heap_of c.args.self.now) c.args.t c.args.c) living c.cell-of.ensures in
    let stands = stays_there c.self.inside c.args.self.now c.self.invariant c.self.view_is c.args.t c.args.c c.in-Some.table c.look_up-found.new.space table c.look_up-found.ensures.same in
    same_sound (with_words c.self.inside c.look_up-found.new.space) (looked c) (still_sound c.self.inside c.look_up-found.new.space c.self.invariant stands) refl
    c.reserve.ensures.items refl c.self.invariant.scratch

pub value_found-answer-requires-clause-found : goal.value_found-answer-requires-clause-found
value_found-answer-requires-clause-found c =
    let living = cell_lives c.self.inside c.args.self.now c.self.invariant c.self.view_is c.args.t c.args.c c.requires.thread in
    let table = c.in-Some.ensures (cell_value (heap_of c.args.self.now) c.args.t c.args.c) living c.cell-of.ensures in
    let found = found_there c.self.inside c.args.self.now c.self.invariant c.self.view_is c.args.t c.args.c c.args.k c.in-Some.table c.cell-key.result c.look_up-found.result
    c.requires.thread table c.cell-key.ensures c.look_up-found.ensures.found in
    subst (λ (es : List Event). IsFound (replay c.self.inside.program es) c.args.t c.args.c c.args.k c.look_up-found.result) (sym c.reserve.ensures.items)
    (subst (λ (w : View). IsFound (heap_of w) c.args.t c.args.c c.args.k c.look_up-found.result) (sym c.self.view_is) found)

pub apply-requires-clause-cells : goal.apply-requires-clause-cells
apply-requires-clause-cells c =
    let living = cell_lives c.self.inside c.args.self.now c.self.invariant c.self.view_is c.args.t c.args.c c.requires.thread in
    let table = c.in-Some.ensures (cell_value (heap_of c.args.self.now) c.args.t c.args.c) living c.cell-of.ensures in
    let stands = stays_there c.self.inside c.args.self.now c.self.invariant c.self.view_is c.args.t c.args.c c.in-Some.table c.look_up-found.new.space table c.look_up-found.ensures.same in
    let plan = plan_of c.self.inside c.args.self.now c.self.view_is c.reserve.new.self.items c.reserve.ensures.items c.args.t (commands.TableGet c.args.d c.args.c c.args.k)
    c.value_found-answer.result.answer c.value_found-answer.result.change c.value_found-answer.ensures in
    can_change (with_words c.self.inside c.look_up-found.new.space) (still_sound c.self.inside c.look_up-found.new.space c.self.invariant stands) c.args.t (commands.TableGet c.args.d c.args.c c.args.k) c.value_found-answer.result.answer c.value_found-answer.result.change
    (thread_in c.self.inside c.args.self.now c.self.view_is c.args.t c.requires.thread) (command_in c.self.inside c.args.self.now c.self.view_is c.args.t (commands.TableGet c.args.d c.args.c c.args.k) c.requires.command) (simple_in c.self.inside c.args.self.now c.self.view_is c.args.t c.requires.simple)
    (plan_in c.self.inside c.args.self.now c.self.view_is c.args.t (commands.TableGet c.args.d c.args.c c.args.k) c.value_found-answer.result.answer c.value_found-answer.result.change plan)

pub apply-requires-clause-thread : goal.apply-requires-clause-thread
apply-requires-clause-thread c =
    let lt = thread_in c.self.inside c.args.self.now c.self.view_is c.args.t c.requires.thread in
    omega (arith, lt, states_length c.self.inside c.self.invariant)

pub apply-requires-clause-pinned : goal.apply-requires-clause-pinned
apply-requires-clause-pinned c =
    let lt = thread_in c.self.inside c.args.self.now c.self.view_is c.args.t c.requires.thread in
    omega (arith, lt, pins_length c.self.inside c.self.invariant)

pub advance-requires-clause-thread : goal.advance-requires-clause-thread
advance-requires-clause-thread c =
    let living = cell_lives c.self.inside c.args.self.now c.self.invariant c.self.view_is c.args.t c.args.c c.requires.thread in
    let table = c.in-Some.ensures (cell_value (heap_of c.args.self.now) c.args.t c.args.c) living c.cell-of.ensures in
    let stands = stays_there c.self.inside c.args.self.now c.self.invariant c.self.view_is c.args.t c.args.c c.in-Some.table c.look_up-found.new.space table c.look_up-found.ensures.same in
    let plan = plan_of c.self.inside c.args.self.now c.self.view_is c.reserve.new.self.items c.reserve.ensures.items c.args.t (commands.TableGet c.args.d c.args.c c.args.k)
    c.value_found-answer.result.answer c.value_found-answer.result.change c.value_found-answer.ensures in
    let lt = thread_in c.self.inside c.args.self.now c.self.view_is c.args.t c.requires.thread in
    rw c.apply.ensures.states (omega (
      arith,
      lt,
      states_count (with_words c.self.inside c.look_up-found.new.space) (still_sound c.self.inside c.look_up-found.new.space c.self.invariant stands) c.args.t (commands.TableGet c.args.d c.args.c c.args.k) c.value_found-answer.result.answer c.value_found-answer.result.change
          (thread_in c.self.inside c.args.self.now c.self.view_is c.args.t c.requires.thread) (command_in c.self.inside c.args.self.now c.self.view_is c.args.t (commands.TableGet c.args.d c.args.c c.args.k) c.requires.command) (simple_in c.self.inside c.args.self.now c.self.view_is c.args.t c.requires.simple)
          (plan_in c.self.inside c.args.self.now c.self.view_is c.args.t (commands.TableGet c.args.d c.args.c c.args.k) c.value_found-answer.result.answer c.value_found-answer.result.change plan),
    ))

pub advance-requires-clause-room : goal.advance-requires-clause-room
advance-requires-clause-room c =
    let living = cell_lives c.self.inside c.args.self.now c.self.invariant c.self.view_is c.args.t c.args.c c.requires.thread in
    let table = c.in-Some.ensures (cell_value (heap_of c.args.self.now) c.args.t c.args.c) living c.cell-of.ensures in
    let stands = stays_there c.self.inside c.args.self.now c.self.invariant c.self.view_is c.args.t c.args.c c.in-Some.table c.look_up-found.new.space table c.look_up-found.ensures.same in
    let plan = plan_of c.self.inside c.args.self.now c.self.view_is c.reserve.new.self.items c.reserve.ensures.items c.args.t (commands.TableGet c.args.d c.args.c c.args.k)
    c.value_found-answer.result.answer c.value_found-answer.result.change c.value_found-answer.ensures in
    rw c.apply.ensures.states (change_room (with_words c.self.inside c.look_up-found.new.space) (still_sound c.self.inside c.look_up-found.new.space c.self.invariant stands) c.args.t (commands.TableGet c.args.d c.args.c c.args.k) c.value_found-answer.result.answer c.value_found-answer.result.change
    (thread_in c.self.inside c.args.self.now c.self.view_is c.args.t c.requires.thread) (command_in c.self.inside c.args.self.now c.self.view_is c.args.t (commands.TableGet c.args.d c.args.c c.args.k) c.requires.command) (simple_in c.self.inside c.args.self.now c.self.view_is c.args.t c.requires.simple)
    (plan_in c.self.inside c.args.self.now c.self.view_is c.args.t (commands.TableGet c.args.d c.args.c c.args.k) c.value_found-answer.result.answer c.value_found-answer.result.change plan))

-- the fields after the call
abbrev made : goal.After-advance → Inside
made c = record {
  alloc = c.self.inside.alloc;
  program = c.self.inside.program;
  space = c.apply.new.space;
  pages = c.self.inside.pages;
  labels = c.self.inside.labels;
  cells = c.apply.new.cells;
  states = c.advance.new.self;
  pins = c.apply.new.pins;
  commits = c.self.inside.commits;
  stats = c.self.inside.stats;
  counted = c.self.inside.counted;
  triggered = c.self.inside.triggered;
  finalizers = c.self.inside.finalizers;
  history = c.push.new.self;
  scratch = c.self.inside.scratch;
}

ends : (c : goal.After-advance) → EndsPlan c.self.inside (made c) c.look_up-found.new.space c.args.t (commands.TableGet c.args.d c.args.c c.args.k) c.value_found-answer.result.answer c.value_found-answer.result.change
ends c =
    let event = Did c.args.t (commands.TableGet c.args.d c.args.c c.args.k) c.value_found-answer.result.answer in
    let added : c.push.new.self.items ≡ c.reserve.new.self.items ++ event ∷ [] = rw c.unwrap.ensures at c.push.ensures.items in
    record {
      program = refl;
      history = added ∙ ap (λ (es : List Event). es ++ event ∷ []) c.reserve.ensures.items;
      parts = rw (c.advance.ensures, c.apply.ensures.states, c.apply.ensures.cells, c.apply.ensures.words, c.apply.ensures.pins) refl;
      scratch = c.self.invariant.scratch;
    }

pub invariant_of-self-3 : goal.invariant_of-self-3
invariant_of-self-3 c =
    let living = cell_lives c.self.inside c.args.self.now c.self.invariant c.self.view_is c.args.t c.args.c c.requires.thread in
    let table = c.in-Some.ensures (cell_value (heap_of c.args.self.now) c.args.t c.args.c) living c.cell-of.ensures in
    let stands = stays_there c.self.inside c.args.self.now c.self.invariant c.self.view_is c.args.t c.args.c c.in-Some.table c.look_up-found.new.space table c.look_up-found.ensures.same in
    let plan = plan_of c.self.inside c.args.self.now c.self.view_is c.reserve.new.self.items c.reserve.ensures.items c.args.t (commands.TableGet c.args.d c.args.c c.args.k)
    c.value_found-answer.result.answer c.value_found-answer.result.change c.value_found-answer.ensures in
    plan_sound c.self.inside c.args.self.now c.self.invariant c.self.view_is c.look_up-found.new.space stands c.args.t (commands.TableGet c.args.d c.args.c c.args.k) c.value_found-answer.result.answer c.value_found-answer.result.change
    c.requires.thread c.requires.command c.requires.simple plan (made c) (ends c)

pub returns-clause-ok : goal.returns-clause-ok
returns-clause-ok c =
    let living = cell_lives c.self.inside c.args.self.now c.self.invariant c.self.view_is c.args.t c.args.c c.requires.thread in
    let table = c.in-Some.ensures (cell_value (heap_of c.args.self.now) c.args.t c.args.c) living c.cell-of.ensures in
    let stands = stays_there c.self.inside c.args.self.now c.self.invariant c.self.view_is c.args.t c.args.c c.in-Some.table c.look_up-found.new.space table c.look_up-found.ensures.same in
    let plan = plan_of c.self.inside c.args.self.now c.self.view_is c.reserve.new.self.items c.reserve.ensures.items c.args.t (commands.TableGet c.args.d c.args.c c.args.k)
    c.value_found-answer.result.answer c.value_found-answer.result.change c.value_found-answer.ensures in
    plan_happens c.self.inside c.args.self.now c.self.invariant c.self.view_is c.look_up-found.new.space stands c.args.t (commands.TableGet c.args.d c.args.c c.args.k) c.value_found-answer.result.answer c.value_found-answer.result.change
    c.requires.thread c.requires.command c.requires.simple plan (made c) (ends c)

pub returns-clause-others : goal.returns-clause-others
returns-clause-others c =
    let living = cell_lives c.self.inside c.args.self.now c.self.invariant c.self.view_is c.args.t c.args.c c.requires.thread in
    let table = c.in-Some.ensures (cell_value (heap_of c.args.self.now) c.args.t c.args.c) living c.cell-of.ensures in
    let stands = stays_there c.self.inside c.args.self.now c.self.invariant c.self.view_is c.args.t c.args.c c.in-Some.table c.look_up-found.new.space table c.look_up-found.ensures.same in
    let plan = plan_of c.self.inside c.args.self.now c.self.view_is c.reserve.new.self.items c.reserve.ensures.items c.args.t (commands.TableGet c.args.d c.args.c c.args.k)
    c.value_found-answer.result.answer c.value_found-answer.result.change c.value_found-answer.ensures in
    plan_agrees c.self.inside c.args.self.now c.self.invariant c.self.view_is c.look_up-found.new.space stands c.args.t (commands.TableGet c.args.d c.args.c c.args.k) c.value_found-answer.result.answer c.value_found-answer.result.change
    c.requires.thread c.requires.command c.requires.simple plan (made c) (ends c)
