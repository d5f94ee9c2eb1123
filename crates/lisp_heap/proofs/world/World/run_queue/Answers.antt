-- Running the queue is one event.
use Rattle.std.proofs.Common.{◌≡◌, ◌∷◌, [], ◌++◌, ◌∙◌, ap, arith, subst, sym, refl, Some}
use Rattle.heap_terms.specs.declared.answers.Answer.TheVariants as answers
use Rattle.heap_terms.specs.declared.events.Event.{Event}
use Rattle.heap_terms.specs.declared.events.Event.TheVariants.{Did}
use Rattle.heap_terms.specs.declared.pages.Next.TheVariants as nexts
use Rattle.heap_terms.specs.Histories.{command_at, after}
use Rattle.lisp_heap.specs.FinalizerPlan.{IsFinalizerPlan, without_queue}
use Rattle.lisp_heap.specs.Standing.{Holds}
use Rattle.lisp_heap.specs.WorldSound.{IsSound, parts_of}
use Rattle.lisp_heap.specs.View.{View, heap_of, next_of}
use Rattle.lisp_heap.specs.declared.world.World.TheInside.{Inside}
use Rattle.lisp_heap.proofs.FinalizerSteps.{finalizing_next, finalizing_holds, finalizing_agrees}
use Rattle.lisp_heap.proofs.Soundness.{heap, states_length}
use Rattle.lisp_heap.proofs.Stepping.{state_room, sound_after, happens_after, agrees_after}
use Rattle.lisp_heap.proofs.WordReading.{thread_in}
use Rattle.lisp_heap.proofs.world.World.run_queue.Goals as goal

pub advance-requires-clause-thread : goal.advance-requires-clause-thread
advance-requires-clause-thread c =
    omega (arith, thread_in c.self.inside c.args.self.now c.self.view_is c.args.t c.requires.thread, states_length c.self.inside c.self.invariant)

pub advance-requires-clause-room : goal.advance-requires-clause-room
advance-requires-clause-room c =
    let s = c.self.inside in
    let lt = thread_in s c.args.self.now c.self.view_is c.args.t c.requires.thread in
    let at : command_at s.program (heap s) c.args.t ≡ Some c.args.command =
    subst (λ (w : View). command_at w.program (heap_of w) c.args.t ≡ Some c.args.command) (sym c.self.view_is) c.requires.command in
    state_room s c.self.invariant c.args.t c.args.command lt at

-- the fields after the call
abbrev made : goal.After-advance → Inside
made c = record {
  alloc = c.self.inside.alloc;
  program = c.self.inside.program;
  space = c.self.inside.space;
  pages = c.self.inside.pages;
  labels = c.self.inside.labels;
  cells = c.self.inside.cells;
  states = c.advance.new.self;
  pins = c.self.inside.pins;
  commits = c.self.inside.commits;
  stats = c.self.inside.stats;
  counted = c.self.inside.counted;
  triggered = c.self.inside.triggered;
  finalizers = c.take_queue.new.self;
  history = c.push_reserved.new.self;
  scratch = c.self.inside.scratch;
}

abbrev event : goal.After-advance → Event
event c = Did c.args.t c.args.command (answers.Ran c.self.inside.finalizers.queue)

pushed : (c : goal.After-advance) → (made c).history.items ≡ c.self.inside.history.items ++ event c ∷ []
pushed c = c.push_reserved.ensures.items ∙ ap (λ xs. xs ++ Did c.args.t c.args.command (answers.Ran c.from_vec.result) ∷ []) c.in_ok-reserve.ensures.items
    ∙ ap (λ ids. c.self.inside.history.items ++ Did c.args.t c.args.command (answers.Ran ids) ∷ [])
    (c.from_vec.ensures ∙ c.take_queue.ensures.taken ∙ ap (λ ids. ids ++ c.self.inside.finalizers.queue) c.in_ok-ids.ensures.items)

sound_made : (c : goal.After-advance) → IsSound (made c)
sound_made c =
    let s = c.self.inside in
    let lt = thread_in s c.args.self.now c.self.view_is c.args.t c.requires.thread in
    let at : command_at s.program (heap s) c.args.t ≡ Some c.args.command =
    subst (λ (w : View). command_at w.program (heap_of w) c.args.t ≡ Some c.args.command) (sym c.self.view_is) c.requires.command in
    let simple = subst (λ (w : View). next_of w c.args.t ≡ nexts.Simple) (sym c.self.view_is) c.requires.simple in
    let is : IsFinalizerPlan (heap s) c.args.t c.args.command (answers.Ran s.finalizers.queue) (without_queue s.finalizers) =
    subst (λ (w : View). IsFinalizerPlan (heap_of w) c.args.t c.args.command (answers.Ran w.parts.finalizers.queue) (without_queue w.parts.finalizers)) (sym c.self.view_is) c.requires.plan in
    let held : Holds (after s.program (heap s) (event c)) (record (parts_of s) { finalizers = c.take_queue.new.self; states = c.advance.new.self }) =
    rw (c.take_queue.ensures.left, c.advance.ensures)
    (finalizing_holds s c.self.invariant c.args.t c.args.command (answers.Ran s.finalizers.queue) (without_queue s.finalizers) lt at simple is) in
    sound_after s (made c) (event c) c.self.invariant refl (pushed c)
    (finalizing_next s c.self.invariant c.args.t c.args.command (answers.Ran s.finalizers.queue) (without_queue s.finalizers) lt at simple is) c.self.invariant.scratch held

pub invariant_of-self-2 : goal.invariant_of-self-2
invariant_of-self-2 c = sound_made c

pub returns-clause-ok : goal.returns-clause-ok
returns-clause-ok c =
    let s = c.self.inside in
    let lt = thread_in s c.args.self.now c.self.view_is c.args.t c.requires.thread in
    let at : command_at s.program (heap s) c.args.t ≡ Some c.args.command =
    subst (λ (w : View). command_at w.program (heap_of w) c.args.t ≡ Some c.args.command) (sym c.self.view_is) c.requires.command in
    let simple = subst (λ (w : View). next_of w c.args.t ≡ nexts.Simple) (sym c.self.view_is) c.requires.simple in
    let is : IsFinalizerPlan (heap s) c.args.t c.args.command (answers.Ran s.finalizers.queue) (without_queue s.finalizers) =
    subst (λ (w : View). IsFinalizerPlan (heap_of w) c.args.t c.args.command (answers.Ran w.parts.finalizers.queue) (without_queue w.parts.finalizers)) (sym c.self.view_is) c.requires.plan in
    happens_after s (made c) c.args.self.now c.args.t (event c) c.self.view_is refl (pushed c) refl
    (finalizing_next s c.self.invariant c.args.t c.args.command (answers.Ran s.finalizers.queue) (without_queue s.finalizers) lt at simple is) (sound_made c)

pub returns-clause-others : goal.returns-clause-others
returns-clause-others c = λ q. (
    let s = c.self.inside in
    let lt = thread_in s c.args.self.now c.self.view_is c.args.t c.requires.thread in
    let at : command_at s.program (heap s) c.args.t ≡ Some c.args.command =
    subst (λ (w : View). command_at w.program (heap_of w) c.args.t ≡ Some c.args.command) (sym c.self.view_is) c.requires.command in
    let simple = subst (λ (w : View). next_of w c.args.t ≡ nexts.Simple) (sym c.self.view_is) c.requires.simple in
    let is : IsFinalizerPlan (heap s) c.args.t c.args.command (answers.Ran s.finalizers.queue) (without_queue s.finalizers) =
    subst (λ (w : View). IsFinalizerPlan (heap_of w) c.args.t c.args.command (answers.Ran w.parts.finalizers.queue) (without_queue w.parts.finalizers)) (sym c.self.view_is) c.requires.plan in
    agrees_after s (made c) c.args.self.now (event c) q q c.self.view_is refl (pushed c)
    (finalizing_agrees s c.self.invariant c.args.t c.args.command (answers.Ran s.finalizers.queue) (without_queue s.finalizers) lt at simple is q))
