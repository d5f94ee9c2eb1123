-- A collection is one event.
use Rattle.std.proofs.Common.{◌≡◌, ◌*◌, List, [], ◌∷◌, ◌++◌, length, refl, ◌∙◌, ap, arith, None}
use Rattle.heap_terms.specs.declared.events.Event.{Event}
use Rattle.heap_terms.specs.declared.events.Event.TheVariants.{Collected}
use Rattle.heap_terms.specs.declared.events.PassRecord.{PassRecord}
use Rattle.std.proofs.lemmas.List.{length-map}
use Rattle.std.specs.List.{sum_by}
use Rattle.collect_pass.specs.Pass.{IsReservedFor}
use Rattle.lisp_heap.specs.CellsView.{with_exact_words}
use Rattle.lisp_heap.specs.State.{state_closed, with_owed}
use Rattle.lisp_heap.specs.declared.recording.RecordSizes.{RecordSizes}
use Rattle.lisp_heap.specs.declared.world.World.TheInside.{Inside}
use Rattle.lisp_heap.proofs.CollectingWith.{can_begin, can_queue, exact_long, has_room, have_rooms, Written, sound_then, happens, agrees}
use Rattle.lisp_heap.proofs.Soundness.{states_length}
use Rattle.lisp_heap.proofs.WordReading.{thread_in}
use Rattle.lisp_heap.proofs.world.World.collect_with.Given as given
use Rattle.lisp_heap.proofs.world.World.collect_with.Goals as goal

pub make_passes-requires : goal.make_passes-requires
make_passes-requires g c =
    let s = c.self.inside in
    let ambiguous = c.gather.new.roots.ambiguous.items in
    let was = c.requires.1.1.1.1 in
    let more = c.reserve_queued.ensures in
    let reserved : IsReservedFor c.reserve_queued.new.self c.args.self.now.program.pages (56 * length c.args.self.now.program.threads) (sum_by length c.args.self.now.program.threads) = record {
      pages_are = more.pages ∙ was.pages_are;
      enough = omega (arith, was.enough, more.ambiguous);
      weak_enough = omega (arith, was.weak_enough, more.weak);
    } in
    let count = c.len-queued.ensures in
    let sizes : RecordSizes = record {
      moves = s.commits;
      pins = c.len.result;
      culls = c.len-2.result;
      breaks = s.commits;
      queued = c.len-queued.result;
      freed = c.len-3.result;
    } in (
      can_begin s c.self.invariant c.args.self.now c.self.view_is g.h c.requires.0 c.args.last c.gather.new.roots.exact.items ambiguous
          c.in_ok-gather.ensures.exact c.in_ok-gather.ensures.ambiguous,
      (
        has_room s c.self.invariant c.args.self.now c.self.view_is g.h c.requires.0 ambiguous c.reserve_queued.new.self c.in_ok-gather.ensures.ambiguous reserved,
        (
          have_rooms s c.self.invariant c.args.self.now c.self.view_is g.h c.requires.0 c.in_ok-rooms.rooms.items ambiguous sizes refl (c.len.ensures ∙ omega (arith, c.gather.new.roots.ambiguous.ok)) (c.len-2.ensures ∙ omega (arith, s.history.ok)) refl count c.len-3.ensures.value c.in_ok-rooms.ensures.rooms,
          (
            c.in_ok-rooms.ensures.six,
            (
              c.in_ok-passes.ensures.items,
              (
                omega (arith, c.in_ok-passes.ensures.capacity),
                can_queue s c.self.invariant c.args.self.now c.self.view_is g.h c.requires.0 c.reserve_queued.new.self (omega (arith, count, c.in_ok-reserve_queued.ensures.queued)),
              ),
            ),
          ),
        ),
      ),
    )

pub rewrite-requires : goal.rewrite-requires
rewrite-requires g c =
    let long = exact_long c.self.inside c.self.invariant c.args.self.now c.self.view_is g.h c.requires.0 c.args.t c.args.last c.requires.1.0 c.requires.1.1.0 c.requires.1.1.1.0
    c.make_passes.new.passes.items c.make_passes.new.space c.make_passes.new.pages c.make_passes.new.labels c.make_passes.new.scratch.roots.exact.items
    c.make_passes.new.scratch.roots.ambiguous.items c.make_passes.new.stats (c.make_passes.ensures.ambiguous ∙ c.in_ok-gather.ensures.ambiguous) c.make_passes.ensures.stand
    c.make_passes.ensures.passes c.make_passes.new.finalizers c.make_passes.ensures.finalizers in
    ap length c.as_slice.ensures.value ∙ long

pub set_owed-requires : goal.set_owed-requires
set_owed-requires g c =
    let s = c.self.inside in
    let here = thread_in s c.args.self.now c.self.view_is c.args.t c.requires.1.0 in
    omega (arith, here, ap length c.close_regions.ensures, length-map s.states state_closed, states_length s c.self.invariant)

-- the fields after the call
abbrev fields : (g : given.Over) (c : goal.After-set_owed g) → Inside
fields g c = record {
  alloc = c.self.inside.alloc;
  program = c.self.inside.program;
  space = c.make_passes.new.space;
  pages = c.make_passes.new.pages;
  labels = c.make_passes.new.labels;
  cells = c.rewrite.new.self;
  states = c.set_owed.new.self;
  pins = c.self.inside.pins;
  commits = c.self.inside.commits;
  stats = c.make_passes.new.stats;
  counted = c.self.inside.counted;
  triggered = c.self.inside.triggered;
  finalizers = c.make_passes.new.finalizers;
  history = c.push.new.self;
  scratch = c.self.inside.scratch;
}

written : (g : given.Over) (c : goal.After-set_owed g) → Written c.self.inside c.self.invariant c.args.self.now c.self.view_is g.h c.requires.0 c.args.t c.args.last c.requires.1.0 c.requires.1.1.0 c.requires.1.1.1.0
    c.make_passes.new.passes.items c.make_passes.new.space c.make_passes.new.pages c.make_passes.new.labels c.make_passes.new.scratch.roots.exact.items
    c.make_passes.new.scratch.roots.ambiguous.items c.make_passes.new.stats (c.make_passes.ensures.ambiguous ∙ c.in_ok-gather.ensures.ambiguous) c.make_passes.ensures.stand
    c.make_passes.ensures.passes c.make_passes.new.finalizers c.make_passes.ensures.finalizers (fields g c)
written g c =
    let s = c.self.inside in
    let added : c.push.new.self.items ≡ c.reserve.new.self.items ++ Collected c.args.t c.args.last c.from_vec.result ∷ [] = rw c.unwrap.ensures at c.push.ensures.items in
    record {
      program = refl;
      history = added ∙ ap (λ (es : List Event). es ++ Collected c.args.t c.args.last c.from_vec.result ∷ []) c.reserve.ensures.items
          ∙ ap (λ (rs : List PassRecord). s.history.items ++ Collected c.args.t c.args.last rs ∷ []) c.from_vec.ensures;
      space = refl;
      pages_are = refl;
      labels_are = refl;
      cells = c.rewrite.ensures ∙ ap (with_exact_words s.cells) c.as_slice.ensures.value;
      states = c.set_owed.ensures ∙ ap (λ states. with_owed states c.args.t None) c.close_regions.ensures;
      pins = refl;
      commits = refl;
      stats_are = refl;
      counted = refl;
      triggered = refl;
      finalizers = refl;
      scratch = c.self.invariant.scratch;
    }

pub invariant_of-self-2 : goal.invariant_of-self-2
invariant_of-self-2 g c =
    sound_then c.self.inside c.self.invariant c.args.self.now c.self.view_is g.h c.requires.0 c.args.t c.args.last c.requires.1.0 c.requires.1.1.0 c.requires.1.1.1.0
    c.make_passes.new.passes.items c.make_passes.new.space c.make_passes.new.pages c.make_passes.new.labels c.make_passes.new.scratch.roots.exact.items
    c.make_passes.new.scratch.roots.ambiguous.items c.make_passes.new.stats (c.make_passes.ensures.ambiguous ∙ c.in_ok-gather.ensures.ambiguous) c.make_passes.ensures.stand
    c.make_passes.ensures.passes c.make_passes.new.finalizers c.make_passes.ensures.finalizers
    (fields g c) (written g c)

pub returns-clause-ok : goal.returns-clause-ok
returns-clause-ok g c =
    happens c.self.inside c.self.invariant c.args.self.now c.self.view_is g.h c.requires.0 c.args.t c.args.last c.requires.1.0 c.requires.1.1.0 c.requires.1.1.1.0
    c.make_passes.new.passes.items c.make_passes.new.space c.make_passes.new.pages c.make_passes.new.labels c.make_passes.new.scratch.roots.exact.items
    c.make_passes.new.scratch.roots.ambiguous.items c.make_passes.new.stats (c.make_passes.ensures.ambiguous ∙ c.in_ok-gather.ensures.ambiguous) c.make_passes.ensures.stand
    c.make_passes.ensures.passes c.make_passes.new.finalizers c.make_passes.ensures.finalizers
    (fields g c) (written g c)

pub returns-clause-agrees : goal.returns-clause-agrees
returns-clause-agrees g c =
    agrees c.self.inside c.self.invariant c.args.self.now c.self.view_is g.h c.requires.0 c.args.t c.args.last c.requires.1.0 c.requires.1.1.0 c.requires.1.1.1.0
    c.make_passes.new.passes.items c.make_passes.new.space c.make_passes.new.pages c.make_passes.new.labels c.make_passes.new.scratch.roots.exact.items
    c.make_passes.new.scratch.roots.ambiguous.items c.make_passes.new.stats (c.make_passes.ensures.ambiguous ∙ c.in_ok-gather.ensures.ambiguous) c.make_passes.ensures.stand
    c.make_passes.ensures.passes c.make_passes.new.finalizers c.make_passes.ensures.finalizers
    (fields g c) (written g c)
