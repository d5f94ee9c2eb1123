-- The opening of a region is one event.
use Rattle.std.proofs.Common.{◌≡◌, ◌++◌, ◌∷◌, [], List, arith, subst, ap, ◌∙◌, sym, refl}
use Rattle.heap_terms.specs.declared.events.Event.{Event}
use Rattle.heap_terms.specs.declared.events.Event.TheVariants.{Opened}
use Rattle.heap_terms.specs.declared.pages.Entry.{Entry}
use Rattle.heap_terms.specs.Histories.{after}
use Rattle.heap_terms.specs.Regions.{IsFreeRun}
use Rattle.lisp_heap.specs.ParcelView.{with_region}
use Rattle.lisp_heap.specs.Standing.{Holds}
use Rattle.lisp_heap.specs.WorldSound.{IsSound}
use Rattle.lisp_heap.specs.declared.world.World.TheInside.{Inside}
use Rattle.lisp_heap.proofs.ParcelParts.{agrees_others}
use Rattle.lisp_heap.proofs.Soundness.{heap, states_length, well_formed}
use Rattle.lisp_heap.proofs.Stepping.{sound_after, happens_after, agrees_after}
use Rattle.lisp_heap.proofs.RegionLemmas.{is_opened, inside, least, run, opened_next, opened_holds, opened_agrees}
use Rattle.lisp_heap.proofs.world.World.open.Goals as goal

pub open-requires-clause-least : goal.open-requires-clause-least
open-requires-clause-least c =
    let f = is_opened c.self.inside c.args.self.now c.self.view_is c.args.t c.args.ty c.args.first c.args.pages c.requires.thread c.requires.opens c.requires.opening in
    least c.self.inside c.self.invariant c.args.t c.args.ty c.args.first c.args.pages f

pub open-requires-clause-most : goal.open-requires-clause-most
open-requires-clause-most c =
    let f = is_opened c.self.inside c.args.self.now c.self.view_is c.args.t c.args.ty c.args.first c.args.pages c.requires.thread c.requires.opens c.requires.opening in
    inside c.self.inside c.self.invariant c.args.t c.args.ty c.args.first c.args.pages f

pub take_run-requires : goal.take_run-requires
take_run-requires c =
    let f = is_opened c.self.inside c.args.self.now c.self.view_is c.args.t c.args.ty c.args.first c.args.pages c.requires.thread c.requires.opens c.requires.opening in
    subst (λ (ps : List Entry). IsFreeRun ps c.args.first c.args.pages) (sym c.self.invariant.holds.pages)
    (run c.self.inside c.self.invariant c.args.t c.args.ty c.args.first c.args.pages f)

pub open_region-requires : goal.open_region-requires
open_region-requires c =
    let f = is_opened c.self.inside c.args.self.now c.self.view_is c.args.t c.args.ty c.args.first c.args.pages c.requires.thread c.requires.opens c.requires.opening in
    omega (arith, f.lt, states_length c.self.inside c.self.invariant)

-- the fields after the call
abbrev made : goal.After-open_region → Inside
made c = record {
  alloc = c.self.inside.alloc;
  program = c.self.inside.program;
  space = c.self.inside.space;
  pages = c.take_run.new.self;
  labels = c.self.inside.labels;
  cells = c.self.inside.cells;
  states = c.open_region.new.self;
  pins = c.self.inside.pins;
  commits = c.self.inside.commits;
  stats = c.self.inside.stats;
  counted = c.self.inside.counted;
  triggered = c.self.inside.triggered;
  finalizers = c.self.inside.finalizers;
  history = c.push.new.self;
  scratch = c.self.inside.scratch;
}

abbrev event : goal.After-open_region → Event
event c = Opened c.args.t c.args.ty c.args.first c.args.pages

pushed : (c : goal.After-open_region) → c.push.new.self.items ≡ c.self.inside.history.items ++ event c ∷ []
pushed c =
    let added : c.push.new.self.items ≡ c.reserve.new.self.items ++ event c ∷ [] = rw c.unwrap.ensures at c.push.ensures.items in
    added ∙ ap (λ (es : List Event). es ++ event c ∷ []) c.reserve.ensures.items

sound_made : (c : goal.After-open_region) → IsSound (made c)
sound_made c =
    let f = is_opened c.self.inside c.args.self.now c.self.view_is c.args.t c.args.ty c.args.first c.args.pages c.requires.thread c.requires.opens c.requires.opening in
    let s = c.self.inside in
    let held : Holds (after s.program (heap s) (event c)) (record {
      words = s.space;
      pages = c.take_run.new.self;
      labels = s.labels;
      cells = s.cells;
      states = c.open_region.new.self;
      pins = s.pins;
      commits = s.commits;
      stats = s.stats;
      counted = s.counted;
      triggered = s.triggered;
      finalizers = s.finalizers;
    }) =
    rw (c.take_run.ensures.opened refl, c.open_region.ensures) (opened_holds s c.self.invariant c.args.t c.args.ty c.args.first c.args.pages f) in
    sound_after s (made c) (event c) c.self.invariant refl (pushed c) (opened_next s c.self.invariant c.args.t c.args.ty c.args.first c.args.pages f) c.self.invariant.scratch held

pub invariant_of-self-2 : goal.invariant_of-self-2
invariant_of-self-2 c = sound_made c

pub returns-clause-ok : goal.returns-clause-ok
returns-clause-ok c =
    let f = is_opened c.self.inside c.args.self.now c.self.view_is c.args.t c.args.ty c.args.first c.args.pages c.requires.thread c.requires.opens c.requires.opening in
    happens_after c.self.inside (made c) c.args.self.now c.args.t (event c) c.self.view_is refl (pushed c) refl
    (opened_next c.self.inside c.self.invariant c.args.t c.args.ty c.args.first c.args.pages f) (sound_made c)

pub returns-clause-agrees : goal.returns-clause-agrees
returns-clause-agrees c = λ q owner. (
    let f = is_opened c.self.inside c.args.self.now c.self.view_is c.args.t c.args.ty c.args.first c.args.pages c.requires.thread c.requires.opens c.requires.opening in
    agrees_after c.self.inside (made c) c.args.self.now (event c) q (with_region q c.args.ty c.args.first c.args.pages) c.self.view_is refl (pushed c)
    (opened_agrees c.self.inside c.self.invariant c.args.t c.args.ty c.args.first c.args.pages f q owner))

pub returns-clause-others : goal.returns-clause-others
returns-clause-others c = λ q other. (
    let f = is_opened c.self.inside c.args.self.now c.self.view_is c.args.t c.args.ty c.args.first c.args.pages c.requires.thread c.requires.opens c.requires.opening in
    agrees_after c.self.inside (made c) c.args.self.now (event c) q q c.self.view_is refl (pushed c)
    (agrees_others c.self.inside.program (heap c.self.inside) (event c) c.self.invariant.valid (well_formed c.self.inside c.self.invariant)
    (opened_next c.self.inside c.self.invariant c.args.t c.args.ty c.args.first c.args.pages f) refl q other))
