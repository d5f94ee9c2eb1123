-- `!exhausted` is one event.
use Rattle.std.proofs.Common.{◌≡◌, arith, subst, sym, refl, Some, IsSome}
use Rattle.heap_terms.specs.declared.answers.Answer.TheVariants as answers
use Rattle.heap_terms.specs.declared.answers.Refusal.TheVariants.{Exhausted}
use Rattle.heap_terms.specs.declared.events.Event.TheVariants.{Did}
use Rattle.heap_terms.specs.declared.pages.Next.TheVariants as nexts
use Rattle.heap_terms.specs.Histories.{command_at, after, wish_at, wished_size}
use Rattle.heap_terms.specs.Regions.{HasNoRun, pages_needed}
use Rattle.lisp_heap.specs.Standing.{Holds}
use Rattle.lisp_heap.specs.WorldSound.{IsSound}
use Rattle.lisp_heap.specs.View.{View, heap_of, next_of}
use Rattle.lisp_heap.specs.declared.world.World.TheInside.{Inside}
use Rattle.lisp_heap.proofs.Soundness.{heap, states_length}
use Rattle.lisp_heap.proofs.Stepping.{state_room, sound_after, happens_after, agrees_after}
use Rattle.lisp_heap.proofs.WordReading.{thread_in}
use Rattle.lisp_heap.proofs.Refusing.{refused_next, refused_holds, refused_agrees}
use Rattle.lisp_heap.proofs.Wishing.{open_command}
use Rattle.lisp_heap.proofs.world.World.refuse.Goals as goal

pub current-command-requires-clause-there : goal.current-command-requires-clause-there
current-command-requires-clause-there c =
    (subst (λ (w : View). IsSome (command_at w.program (heap_of w) c.args.t)) c.self.view_is
    (open_command c.self.inside.program (heap c.self.inside) c.args.t (subst (λ (w : View). next_of w c.args.t ≡ nexts.Open) (sym c.self.view_is) c.requires.opens)))

pub advance-requires-clause-thread : goal.advance-requires-clause-thread
advance-requires-clause-thread c =
    omega (arith, thread_in c.self.inside c.args.self.now c.self.view_is c.args.t c.requires.thread, states_length c.self.inside c.self.invariant)

pub advance-requires-clause-room : goal.advance-requires-clause-room
advance-requires-clause-room c =
    let s = c.self.inside in
    let lt = thread_in s c.args.self.now c.self.view_is c.args.t c.requires.thread in
    let at : command_at s.program (heap s) c.args.t ≡ Some c.current-command.result =
    subst (λ (w : View). command_at w.program (heap_of w) c.args.t ≡ Some c.current-command.result) (sym c.self.view_is) c.current-command.ensures in
    let opens = subst (λ (w : View). next_of w c.args.t ≡ nexts.Open) (sym c.self.view_is) c.requires.opens in
    state_room s c.self.invariant c.args.t c.current-command.result lt at

-- the fields after the call
abbrev made : goal.After-advance → Inside
made c = record {
  alloc = c.self.inside.alloc;
  program = c.self.inside.program;
  space = c.self.inside.space;
  pages = c.self.inside.pages;
  labels = c.self.inside.labels;
  cells = c.self.inside.cells;
  states = c.advance.new.self;
  pins = c.self.inside.pins;
  commits = c.self.inside.commits;
  stats = c.self.inside.stats;
  counted = c.self.inside.counted;
  triggered = c.self.inside.triggered;
  finalizers = c.self.inside.finalizers;
  history = c.push.new.self;
  scratch = c.self.inside.scratch;
}

sound_made : (c : goal.After-advance) → IsSound (made c)
sound_made c =
    let s = c.self.inside in
    let lt = thread_in s c.args.self.now c.self.view_is c.args.t c.requires.thread in
    let at : command_at s.program (heap s) c.args.t ≡ Some c.current-command.result =
    subst (λ (w : View). command_at w.program (heap_of w) c.args.t ≡ Some c.current-command.result) (sym c.self.view_is) c.current-command.ensures in
    let opens = subst (λ (w : View). next_of w c.args.t ≡ nexts.Open) (sym c.self.view_is) c.requires.opens in
    let none = subst (λ (w : View). HasNoRun (heap_of w).pages (pages_needed (wished_size (wish_at (command_at w.program (heap_of w) c.args.t))))) (sym c.self.view_is) c.requires.none in
    let e = Did c.args.t c.current-command.result (answers.Refused Exhausted) in
    let held : Holds (after s.program (heap s) e) (record {
      words = s.space;
      pages = s.pages;
      labels = s.labels;
      cells = s.cells;
      states = c.advance.new.self;
      pins = s.pins;
      commits = s.commits;
      stats = s.stats;
      counted = s.counted;
      triggered = s.triggered;
      finalizers = s.finalizers;
    }) =
    rw c.advance.ensures (refused_holds s c.self.invariant c.args.t c.current-command.result lt at opens) in
    sound_after s (made c) e c.self.invariant refl c.in_ok-push.ensures.items
    (refused_next s c.self.invariant c.args.t c.current-command.result lt at opens none) c.self.invariant.scratch held

pub invariant_of-self-2 : goal.invariant_of-self-2
invariant_of-self-2 c = sound_made c

pub returns-clause-ok : goal.returns-clause-ok
returns-clause-ok c =
    let s = c.self.inside in
    let lt = thread_in s c.args.self.now c.self.view_is c.args.t c.requires.thread in
    let at : command_at s.program (heap s) c.args.t ≡ Some c.current-command.result =
    subst (λ (w : View). command_at w.program (heap_of w) c.args.t ≡ Some c.current-command.result) (sym c.self.view_is) c.current-command.ensures in
    let opens = subst (λ (w : View). next_of w c.args.t ≡ nexts.Open) (sym c.self.view_is) c.requires.opens in
    let none = subst (λ (w : View). HasNoRun (heap_of w).pages (pages_needed (wished_size (wish_at (command_at w.program (heap_of w) c.args.t))))) (sym c.self.view_is) c.requires.none in
    let e = Did c.args.t c.current-command.result (answers.Refused Exhausted) in
    happens_after s (made c) c.args.self.now c.args.t e c.self.view_is refl c.in_ok-push.ensures.items refl
    (refused_next s c.self.invariant c.args.t c.current-command.result lt at opens none) (sound_made c)

pub returns-clause-agrees : goal.returns-clause-agrees
returns-clause-agrees c = λ q. (
    let s = c.self.inside in
    let lt = thread_in s c.args.self.now c.self.view_is c.args.t c.requires.thread in
    let at : command_at s.program (heap s) c.args.t ≡ Some c.current-command.result =
    subst (λ (w : View). command_at w.program (heap_of w) c.args.t ≡ Some c.current-command.result) (sym c.self.view_is) c.current-command.ensures in
    let opens = subst (λ (w : View). next_of w c.args.t ≡ nexts.Open) (sym c.self.view_is) c.requires.opens in
    let e = Did c.args.t c.current-command.result (answers.Refused Exhausted) in
    agrees_after s (made c) c.args.self.now e q q c.self.view_is refl c.in_ok-push.ensures.items
    (refused_agrees s c.self.invariant c.args.t c.current-command.result lt at opens q))
