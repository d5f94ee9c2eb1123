-- Object by object of the page.
use Rattle.std.proofs.Common.{◌≡◌, ◌*◌, ◌<◌, ◌≤◌, ◌++◌, List, length, map, take, refl, sym, ◌∙◌, ap, arith}
use Rattle.std.proofs.lemmas.List.{length-map, map-id}
use Rattle.std.proofs.lemmas.Iterator.Consumers.{YieldsList-from_first, YieldsList-turn, YieldsList-so_far, YieldsList-end}
use Rattle.heap_terms.specs.LaidOut.{object_starts, AreObjectsOn}
use Rattle.object_walk.specs.declared.found.Found.{Found}
use Rattle.object_walk.specs.Walks.{found_at}
use Rattle.ambiguous_roots.specs.Pinning.{referred}
use Rattle.ambiguous_roots.proofs.Along.{its-inside, its-hint, its-new, its-room, its-small}
use Rattle.ambiguous_roots.proofs.pins.pin_walked.Goals as goal

pub pin_if_hit-requires : goal.pin_if_hit-requires
pin_if_hit-requires c =
    let starts = object_starts (512 * c.args.page) c.requires.laid.pieces in
    let on : AreObjectsOn c.args.space.now c.args.pages.now c.args.page starts = record { pieces = c.requires.laid.pieces; on_page = c.requires.laid.on_page; starts_are = refl } in
    let all = map found_at starts in
    let walk = YieldsList-from_first (λ (f : Found). f) (λ (fs : List Found). fs) all (c.into_iter-found-iterator.ensures.into_iter_gives ∙ c.new-found-items.ensures starts on) in
    let turn = YieldsList-turn walk c.loop-found.yielded _ c.loop-found.yielded_by _ _ c.in-Some.found c.in-Some.is c.next.ensures.steps in
    let so_far : c.loop-found.yielded ≡ take (length c.loop-found.yielded) all =
    sym (map-id c.loop-found.yielded) ∙ YieldsList-so_far walk c.loop-found.yielded _ c.loop-found.yielded_by in
    let can = c.requires.can starts on in
    let listed : c.loop-found.pins.listed ≡ c.args.pins.now.listed ++ referred c.args.ambiguous.now (take (length c.loop-found.yielded) all) =
    c.loop-found.invariant.listed ∙ ap (λ (fs : List Found). c.args.pins.now.listed ++ referred c.args.ambiguous.now fs) so_far in
    record {
      inside = its-inside c.args.ambiguous.now c.args.hints.now c.args.pins.now c.loop-found.pins all (length c.loop-found.yielded) c.in-Some.found can turn.0 turn.1 listed c.loop-found.invariant.most;
      hinted = its-hint c.args.ambiguous.now c.args.hints.now c.args.pins.now c.loop-found.pins all (length c.loop-found.yielded) c.in-Some.found can turn.0 turn.1 listed c.loop-found.invariant.most;
      unpinned = its-new c.args.ambiguous.now c.args.hints.now c.args.pins.now c.loop-found.pins all (length c.loop-found.yielded) c.in-Some.found can turn.0 turn.1 listed c.loop-found.invariant.most;
      room = its-room c.args.ambiguous.now c.args.hints.now c.args.pins.now c.loop-found.pins all (length c.loop-found.yielded) c.in-Some.found can turn.0 turn.1 listed c.loop-found.invariant.most;
      small = its-small c.args.ambiguous.now c.args.hints.now c.args.pins.now c.loop-found.pins all (length c.loop-found.yielded) c.in-Some.found can turn.0 turn.1 listed c.loop-found.invariant.most;
    }

pub overflow_add-count : goal.overflow_add-count
overflow_add-count c =
    let starts = object_starts (512 * c.args.page) c.requires.laid.pieces in
    let on : AreObjectsOn c.args.space.now c.args.pages.now c.args.page starts = record { pieces = c.requires.laid.pieces; on_page = c.requires.laid.on_page; starts_are = refl } in
    let all = map found_at starts in
    let walk = YieldsList-from_first (λ (f : Found). f) (λ (fs : List Found). fs) all (c.into_iter-found-iterator.ensures.into_iter_gives ∙ c.new-found-items.ensures starts on) in
    let turn = YieldsList-turn walk c.loop-found.yielded _ c.loop-found.yielded_by _ _ c.in-Some.found c.in-Some.is c.next.ensures.steps in
    let few : length all ≤ 512 = (c.requires.can starts on).few in
    let count : c.loop-found.count ≡ length c.loop-found.yielded = c.loop-found.invariant.count in
    let below : length c.loop-found.yielded < length all = turn.0 in
    omega (arith, few, count, below)

pub returns-clause-count : goal.returns-clause-count
returns-clause-count c starts on =
    let all = map found_at starts in
    let walk = YieldsList-from_first (λ (f : Found). f) (λ (fs : List Found). fs) all (c.into_iter-found-iterator.ensures.into_iter_gives ∙ c.new-found-items.ensures starts on) in
    let end = YieldsList-end walk c.loop-found.yielded _ c.loop-found.yielded_by _ _ c.in-None.is c.next.ensures.steps in
    c.loop-found.invariant.count ∙ end.1 ∙ length-map starts found_at
