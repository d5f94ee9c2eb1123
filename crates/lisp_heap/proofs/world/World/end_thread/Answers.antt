-- The end of a thread is one event.
use Rattle.std.proofs.Common.{◌≡◌, ℕ, ◌<◌, length, arith, subst, sym, refl}
use Rattle.heap_terms.specs.declared.events.Event.TheVariants.{Ended}
use Rattle.heap_terms.specs.declared.pages.Next.TheVariants as nexts
use Rattle.heap_terms.specs.Heap.{NamedHeap}
use Rattle.heap_terms.specs.Histories.{after, next}
use Rattle.lisp_heap.specs.Agreement.{Agrees}
use Rattle.lisp_heap.specs.ParcelView.{empty_parcel}
use Rattle.lisp_heap.specs.WorldSound.{view_of, parts_of, IsSound}
use Rattle.lisp_heap.specs.Standing.{Holds}
use Rattle.lisp_heap.specs.View.{View, next_of}
use Rattle.lisp_heap.specs.declared.world.World.TheInside.{Inside}
use Rattle.lisp_heap.proofs.Ending.{after_end_holds, end_next, end_others, end_empty}
use Rattle.lisp_heap.proofs.Soundness.{heap, well_formed, states_length, pins_length, cells_room}
use Rattle.lisp_heap.proofs.Stepping.{sound_after, happens_after, heap_after, agrees_after}
use Rattle.lisp_heap.proofs.WordReading.{thread_in}
use Rattle.lisp_heap.proofs.world.World.end_thread.Goals as goal

thread_there : (s : Inside) → IsSound s → (t : ℕ) → t < length s.program.threads → t < length (heap s).threads
thread_there s h t lt = omega (arith, (well_formed s h).threads_length)

ends_here : (s : Inside) (w : View) (t : ℕ) → view_of s ≡ w → next_of w t ≡ nexts.End → next s.program (heap s) t ≡ nexts.End
ends_here s w t e h = subst (λ (v : View). next_of v t ≡ nexts.End) (sym e) h

pub clear-requires : goal.clear-requires
clear-requires c = cells_room c.self.inside c.args.t c.self.invariant (thread_in c.self.inside c.args.self.now c.self.view_is c.args.t c.requires.thread)

pub clear-requires-2 : goal.clear-requires-2
clear-requires-2 c =
    omega (arith, thread_in c.self.inside c.args.self.now c.self.view_is c.args.t c.requires.thread, pins_length c.self.inside c.self.invariant)

pub end-requires : goal.end-requires
end-requires c =
    omega (arith, thread_in c.self.inside c.args.self.now c.self.view_is c.args.t c.requires.thread, states_length c.self.inside c.self.invariant)

-- the fields after the call
abbrev made : goal.After-end → Inside
made c = record {
  alloc = c.self.inside.alloc;
  program = c.self.inside.program;
  space = c.self.inside.space;
  pages = c.self.inside.pages;
  labels = c.self.inside.labels;
  cells = c.clear.new.self;
  states = c.end.new.self;
  pins = c.clear-2.new.self;
  commits = c.self.inside.commits;
  stats = c.self.inside.stats;
  counted = c.self.inside.counted;
  triggered = c.self.inside.triggered;
  finalizers = c.self.inside.finalizers;
  history = c.push.new.self;
  scratch = c.self.inside.scratch;
}

sound_made : (c : goal.After-end) → IsSound (made c)
sound_made c =
    let s = c.self.inside in
    let lt = thread_in s c.args.self.now c.self.view_is c.args.t c.requires.thread in
    let held : Holds (after s.program (heap s) (Ended c.args.t)) (record {
      words = s.space;
      pages = s.pages;
      labels = s.labels;
      cells = c.clear.new.self;
      states = c.end.new.self;
      pins = c.clear-2.new.self;
      commits = s.commits;
      stats = s.stats;
      counted = s.counted;
      triggered = s.triggered;
      finalizers = s.finalizers;
    }) =
    rw (c.clear.ensures, c.clear-2.ensures, c.end.ensures)
    (after_end_holds s.program (heap s) (parts_of s) c.args.t (thread_there s c.self.invariant c.args.t lt) c.self.invariant.holds) in
    sound_after s (made c) (Ended c.args.t) c.self.invariant refl c.in_ok-push.ensures.items
    (end_next s.program (heap s) c.args.t (ends_here s c.args.self.now c.args.t c.self.view_is c.requires.ends)) c.self.invariant.scratch held

pub invariant_of-self-2 : goal.invariant_of-self-2
invariant_of-self-2 c = sound_made c

pub returns-clause-ok : goal.returns-clause-ok
returns-clause-ok c =
    let s = c.self.inside in
    happens_after s (made c) c.args.self.now c.args.t (Ended c.args.t) c.self.view_is refl c.in_ok-push.ensures.items refl
    (end_next s.program (heap s) c.args.t (ends_here s c.args.self.now c.args.t c.self.view_is c.requires.ends)) (sound_made c)

pub returns-clause-agrees : goal.returns-clause-agrees
returns-clause-agrees c =
    let s = c.self.inside in
    let lt = thread_in s c.args.self.now c.self.view_is c.args.t c.requires.thread in
    subst (λ (a : NamedHeap). Agrees a (empty_parcel c.args.t)) (sym (heap_after s (made c) (Ended c.args.t) refl c.in_ok-push.ensures.items))
    (end_empty s.program (heap s) c.args.t (thread_there s c.self.invariant c.args.t lt))

pub returns-clause-others : goal.returns-clause-others
returns-clause-others c = λ q apart. (
    let s = c.self.inside in
    agrees_after s (made c) c.args.self.now (Ended c.args.t) q q c.self.view_is refl c.in_ok-push.ensures.items
    (end_others s.program (heap s) c.args.t q apart))
