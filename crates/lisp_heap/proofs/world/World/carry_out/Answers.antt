-- A command that allocates nothing is one event.
use Rattle.std.proofs.Common.{◌≡◌, arith, subst, sym, refl, Some}
use Rattle.heap_terms.specs.declared.events.Event.TheVariants.{Did}
use Rattle.heap_terms.specs.declared.pages.Next.TheVariants as nexts
use Rattle.heap_terms.specs.Histories.{command_at, after}
use Rattle.lisp_heap.specs.Plan.{IsPlan}
use Rattle.lisp_heap.specs.Standing.{Holds}
use Rattle.lisp_heap.specs.WorldSound.{IsSound}
use Rattle.lisp_heap.specs.View.{View, heap_of, next_of}
use Rattle.lisp_heap.specs.declared.world.World.TheInside.{Inside}
use Rattle.lisp_heap.proofs.Soundness.{heap, states_length, pins_length}
use Rattle.lisp_heap.proofs.Stepping.{did_next, did_holds, did_agrees, can_change, states_count, change_room, sound_after, happens_after, agrees_after}
use Rattle.lisp_heap.proofs.WordReading.{thread_in}
use Rattle.lisp_heap.proofs.world.World.carry_out.Goals as goal

pub apply-requires : goal.apply-requires
apply-requires c =
    let s = c.self.inside in
    let lt = thread_in s c.args.self.now c.self.view_is c.args.t c.requires.thread in
    let at : command_at s.program (heap s) c.args.t ≡ Some c.args.command =
    subst (λ (w : View). command_at w.program (heap_of w) c.args.t ≡ Some c.args.command) (sym c.self.view_is) c.requires.command in
    let simple = subst (λ (w : View). next_of w c.args.t ≡ nexts.Simple) (sym c.self.view_is) c.requires.simple in
    let is = subst (λ (w : View). IsPlan (heap_of w) c.args.t c.args.command c.args.plan.answer c.args.plan.change) (sym c.self.view_is) c.requires.plan in
    record {
      cells = can_change s c.self.invariant c.args.t c.args.command c.args.plan.answer c.args.plan.change lt at simple is;
      thread = omega (arith, lt, states_length s c.self.invariant);
      pinned = omega (arith, lt, pins_length s c.self.invariant);
    }

pub advance-requires-clause-thread : goal.advance-requires-clause-thread
advance-requires-clause-thread c =
    let s = c.self.inside in
    let lt = thread_in s c.args.self.now c.self.view_is c.args.t c.requires.thread in
    let at : command_at s.program (heap s) c.args.t ≡ Some c.args.command =
    subst (λ (w : View). command_at w.program (heap_of w) c.args.t ≡ Some c.args.command) (sym c.self.view_is) c.requires.command in
    let simple = subst (λ (w : View). next_of w c.args.t ≡ nexts.Simple) (sym c.self.view_is) c.requires.simple in
    let is = subst (λ (w : View). IsPlan (heap_of w) c.args.t c.args.command c.args.plan.answer c.args.plan.change) (sym c.self.view_is) c.requires.plan in
    rw c.apply.ensures.states (omega (arith, lt, states_count s c.self.invariant c.args.t c.args.command c.args.plan.answer c.args.plan.change lt at simple is))

pub advance-requires-clause-room : goal.advance-requires-clause-room
advance-requires-clause-room c =
    let s = c.self.inside in
    let lt = thread_in s c.args.self.now c.self.view_is c.args.t c.requires.thread in
    let at : command_at s.program (heap s) c.args.t ≡ Some c.args.command =
    subst (λ (w : View). command_at w.program (heap_of w) c.args.t ≡ Some c.args.command) (sym c.self.view_is) c.requires.command in
    let simple = subst (λ (w : View). next_of w c.args.t ≡ nexts.Simple) (sym c.self.view_is) c.requires.simple in
    let is = subst (λ (w : View). IsPlan (heap_of w) c.args.t c.args.command c.args.plan.answer c.args.plan.change) (sym c.self.view_is) c.requires.plan in
    rw c.apply.ensures.states (change_room s c.self.invariant c.args.t c.args.command c.args.plan.answer c.args.plan.change lt at simple is)

-- the fields after the call
abbrev made : goal.After-advance → Inside
made c = record {
  alloc = c.self.inside.alloc;
  program = c.self.inside.program;
  space = c.apply.new.space;
  pages = c.self.inside.pages;
  labels = c.self.inside.labels;
  cells = c.apply.new.cells;
  states = c.advance.new.self;
  pins = c.apply.new.pins;
  commits = c.self.inside.commits;
  stats = c.self.inside.stats;
  counted = c.self.inside.counted;
  triggered = c.self.inside.triggered;
  finalizers = c.self.inside.finalizers;
  history = c.push.new.self;
  scratch = c.self.inside.scratch;
}

sound_made : (c : goal.After-advance) → IsSound (made c)
sound_made c =
    let s = c.self.inside in
    let lt = thread_in s c.args.self.now c.self.view_is c.args.t c.requires.thread in
    let at : command_at s.program (heap s) c.args.t ≡ Some c.args.command =
    subst (λ (w : View). command_at w.program (heap_of w) c.args.t ≡ Some c.args.command) (sym c.self.view_is) c.requires.command in
    let simple = subst (λ (w : View). next_of w c.args.t ≡ nexts.Simple) (sym c.self.view_is) c.requires.simple in
    let is = subst (λ (w : View). IsPlan (heap_of w) c.args.t c.args.command c.args.plan.answer c.args.plan.change) (sym c.self.view_is) c.requires.plan in
    let e = Did c.args.t c.args.command c.args.plan.answer in
    let held : Holds (after s.program (heap s) e) (record {
      words = c.apply.new.space;
      pages = s.pages;
      labels = s.labels;
      cells = c.apply.new.cells;
      states = c.advance.new.self;
      pins = c.apply.new.pins;
      commits = s.commits;
      stats = s.stats;
      counted = s.counted;
      triggered = s.triggered;
      finalizers = s.finalizers;
    }) =
    rw (c.apply.ensures.cells, c.apply.ensures.words, c.advance.ensures, c.apply.ensures.states, c.apply.ensures.pins)
    (did_holds s c.self.invariant c.args.t c.args.command c.args.plan.answer c.args.plan.change lt at simple is) in
    sound_after s (made c) e c.self.invariant refl c.in_ok-push.ensures.items
    (did_next s c.self.invariant c.args.t c.args.command c.args.plan.answer c.args.plan.change lt at simple is) c.self.invariant.scratch held

pub invariant_of-self-2 : goal.invariant_of-self-2
invariant_of-self-2 c = sound_made c

pub returns-clause-ok : goal.returns-clause-ok
returns-clause-ok c =
    let s = c.self.inside in
    let lt = thread_in s c.args.self.now c.self.view_is c.args.t c.requires.thread in
    let at : command_at s.program (heap s) c.args.t ≡ Some c.args.command =
    subst (λ (w : View). command_at w.program (heap_of w) c.args.t ≡ Some c.args.command) (sym c.self.view_is) c.requires.command in
    let simple = subst (λ (w : View). next_of w c.args.t ≡ nexts.Simple) (sym c.self.view_is) c.requires.simple in
    let is = subst (λ (w : View). IsPlan (heap_of w) c.args.t c.args.command c.args.plan.answer c.args.plan.change) (sym c.self.view_is) c.requires.plan in
    let e = Did c.args.t c.args.command c.args.plan.answer in
    happens_after s (made c) c.args.self.now c.args.t e c.self.view_is refl c.in_ok-push.ensures.items refl
    (did_next s c.self.invariant c.args.t c.args.command c.args.plan.answer c.args.plan.change lt at simple is) (sound_made c)

pub returns-clause-others : goal.returns-clause-others
returns-clause-others c = λ q. (
    let s = c.self.inside in
    let lt = thread_in s c.args.self.now c.self.view_is c.args.t c.requires.thread in
    let at : command_at s.program (heap s) c.args.t ≡ Some c.args.command =
    subst (λ (w : View). command_at w.program (heap_of w) c.args.t ≡ Some c.args.command) (sym c.self.view_is) c.requires.command in
    let simple = subst (λ (w : View). next_of w c.args.t ≡ nexts.Simple) (sym c.self.view_is) c.requires.simple in
    let is = subst (λ (w : View). IsPlan (heap_of w) c.args.t c.args.command c.args.plan.answer c.args.plan.change) (sym c.self.view_is) c.requires.plan in
    let e = Did c.args.t c.args.command c.args.plan.answer in
    agrees_after s (made c) c.args.self.now e q q c.self.view_is refl c.in_ok-push.ensures.items
    (did_agrees s c.self.invariant c.args.t c.args.command c.args.plan.answer c.args.plan.change lt at simple is q))
