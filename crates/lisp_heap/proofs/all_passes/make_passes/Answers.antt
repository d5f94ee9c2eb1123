-- Each pass is made over the heap after those before it.
use Rattle.std.proofs.Common.{◌≡◌, ℕ, ◌+◌, List, [], ◌∷◌, ◌++◌, length, refl, sym, ◌∙◌, subst, ap, arith, Option, Some}
use Rattle.std.proofs.lemmas.List.Elements.{All-pop}
use Rattle.std.proofs.lemmas.List.{length_push}
use Rattle.std.specs.Option.{option_to_list}
use Rattle.std.specs.Prelude.{IfSome}
use Rattle.collect_pass.specs.Pass.{CanQueue, IsReservedFor}
use Rattle.finalizers.specs.Standing.{FinalizersStand}
use Rattle.generation_policy.proofs.Loops.{after_one_more}
use Rattle.heap_terms.specs.Heap.{NamedHeap}
use Rattle.copy_space.specs.declared.notes.Pass.{Pass}
use Rattle.generation_policy.specs.Plan.{pass_over}
use Rattle.heap_terms.specs.declared.events.PassRecord.{PassRecord}
use Rattle.heap_terms.specs.Collections.{after_passes}
use Rattle.lisp_heap.specs.AllPasses.{IsNextPass, IsPlanned, Stand}
use Rattle.lisp_heap.specs.Recording.{HasRoom, sizes_of}
use Rattle.lisp_heap.specs.declared.recording.RecordRoom.{RecordRoom}
use Rattle.lisp_heap.proofs.FinalizersKept.{registered_long}
use Rattle.lisp_heap.proofs.RecordSizing.{room_within}
use Rattle.lisp_heap.proofs.PassesSoFar.{planned_more, stand_more, stand_now}
use Rattle.lisp_heap.proofs.all_passes.make_passes.Goals as goal

pub loop-planned-init : goal.loop-planned-init
loop-planned-init g c =
    let ambiguous = c.args.scratch.now.roots.ambiguous.items in
    let none : c.args.passes.now.items ≡ [] = c.requires.1.1.1.1.0 in
    let first : Pass = pass_over g.h.heap c.args.last 0 in
    let next : IsNextPass g.h.heap c.args.last 0 first = record { is = refl; low = omega arith; empty = λ x o e. omega arith } in
    let plan : IsPlanned g.h.heap c.args.last [] c.plan_next-planned.result =
    subst (IsPlanned g.h.heap c.args.last []) (sym (c.plan_next-planned.ensures.planned g.h.heap c.requires.0.counted)) (tt, next) in
    record {
      stand = subst (Stand g.h c.args.last c.args.space.now c.args.pages.now c.args.labels.now c.args.scratch.now.roots.exact.items ambiguous c.args.stats.now) (sym none) c.requires.0;
      planned = subst (λ (rs : List PassRecord). IsPlanned g.h.heap c.args.last rs c.plan_next-planned.result) (sym none) plan;
      ambiguous = refl;
      room_pages = refl;
      room_ambiguous = refl;
      room_weak = refl;
      finalizers = subst (λ (rs : List PassRecord). FinalizersStand (after_passes g.h.heap c.args.last 0 rs) c.args.finalizers.now) (sym none) c.requires.1.1.1.1.1.1.stand;
      fewer = omega arith;
      room_queued = refl;
      rooms = c.requires.1.1.0;
      left = omega (arith, c.requires.1.1.1.0, c.args.passes.now.ok, ap (λ (rs : List PassRecord). length rs) none);
      capacity = c.requires.1.1.1.1.1.0;
    }

pub unwrap-room-requires : goal.unwrap-room-requires
unwrap-room-requires g c =
    let l = c.loop-planned in
    let plan : IsPlanned g.h.heap c.args.last l.passes.items (Some c.in-Some.pass) = subst (IsPlanned g.h.heap c.args.last l.passes.items) c.in-Some.is c.loop-planned.invariant.planned in
    c.pop.ensures.variant.1 (let one = l.passes.ok.0 in let two = l.rooms.ok.0 in omega (arith, c.loop-planned.invariant.left, plan.1.low, one, two))

pub make_next-planned-requires : goal.make_next-planned-requires
make_next-planned-requires g c =
    let l = c.loop-planned in
    let inv = c.loop-planned.invariant in
    let b = after_passes g.h.heap c.args.last 0 l.passes.items in
    let plan : IsPlanned g.h.heap c.args.last l.passes.items (Some c.in-Some.pass) = subst (IsPlanned g.h.heap c.args.last l.passes.items) c.in-Some.is inv.planned in
    let sizes = sizes_of g.h.heap (length c.args.scratch.now.roots.ambiguous.items) in
    let fits : HasRoom c.unwrap-room.result sizes =
    subst (λ (o : Option RecordRoom). IfSome o (λ (room : RecordRoom). HasRoom room sizes)) c.unwrap-room.ensures
    (All-pop (λ (room : RecordRoom). HasRoom room sizes) l.rooms.items c.pop.new.self.items c.pop.result c.pop.ensures.items inv.rooms).1 in
    let same : length l.scratch.roots.ambiguous.items ≡ length c.args.scratch.now.roots.ambiguous.items = ap (λ (ws : List ℕ). length ws) inv.ambiguous in
    let reserved : IsReservedFor l.scratch.room (length b.pages) (length l.scratch.roots.ambiguous.items) (length b.objects) = record {
      pages_are = inv.room_pages ∙ c.requires.1.0.pages_are ∙ sym inv.stand.pages_long;
      enough = omega (arith, c.requires.1.0.enough, inv.room_ambiguous, same);
      weak_enough = omega (arith, c.requires.1.0.weak_enough, inv.room_weak, inv.stand.objects_long);
    } in
    let reserved_queue = c.requires.1.1.1.1.1.1.reserved in
    let queue : CanQueue b l.finalizers l.scratch.room = record { stand = inv.finalizers; reserved = omega (arith, reserved_queue, inv.room_queued, inv.fewer) } in
    let registered = registered_long b l.finalizers inv.finalizers in
    let registered_first = registered_long g.h.heap c.args.finalizers.now c.requires.1.1.1.1.1.1.stand in
    let room : HasRoom c.unwrap-room.result (sizes_of b (length l.scratch.roots.ambiguous.items)) =
    room_within c.unwrap-room.result (sizes_of b (length l.scratch.roots.ambiguous.items)) sizes fits (record {
      moves = omega (arith, inv.stand.objects_long);
      pins = omega (arith, same);
      culls = inv.stand.pairs_few;
      breaks = omega (arith, inv.stand.objects_long);
      queued = omega (arith, registered, registered_first, inv.fewer);
      freed = omega (arith, inv.stand.pages_long);
    }) in (
      stand_now g.h c.args.last l.passes.items l.space l.pages l.labels l.scratch.roots.exact.items l.scratch.roots.ambiguous.items l.stats inv.stand,
      (plan.1, (reserved, (room, (omega (arith, inv.capacity, plan.1.low, l.passes.ok), queue)))),
    )

pub loop-planned-preserved : goal.loop-planned-preserved
loop-planned-preserved g c =
    let l = c.loop-planned in
    let inv = c.loop-planned.invariant in
    let made = c.make_next-planned in
    let plan : IsPlanned g.h.heap c.args.last l.passes.items (Some c.in-Some.pass) = subst (IsPlanned g.h.heap c.args.last l.passes.items) c.in-Some.is inv.planned in
    let step = made.ensures.stepped in
    let popped : l.rooms.items ≡ c.pop.new.self.items ++ c.unwrap-room.result ∷ [] =
    subst (λ (o : Option RecordRoom). l.rooms.items ≡ c.pop.new.self.items ++ option_to_list o) c.unwrap-room.ensures c.pop.ensures.items in
    let one_less : length l.rooms.items ≡ length c.pop.new.self.items + 1 = ap (λ (rs : List RecordRoom). length rs) popped ∙ length_push c.pop.new.self.items c.unwrap-room.result in
    record {
      stand = stand_more g.h c.args.last l.passes.items l.space l.pages l.labels l.scratch.roots.exact.items l.scratch.roots.ambiguous.items l.stats inv.stand c.in-Some.pass plan
          made.new.space made.new.pages made.new.labels made.new.scratch.roots.exact.items made.new.scratch.roots.ambiguous.items made.new.stats step.0 made.result step.2
          made.new.passes.items step.1;
      planned = planned_more g.h c.args.last l.passes.items l.space l.pages l.labels l.scratch.roots.exact.items l.scratch.roots.ambiguous.items l.stats inv.stand c.in-Some.pass plan
          made.new.space made.new.pages made.new.labels made.new.scratch.roots.exact.items made.new.scratch.roots.ambiguous.items made.new.stats step.0 made.result step.2
          made.new.passes.items step.1;
      ambiguous = made.ensures.ambiguous ∙ inv.ambiguous;
      room_pages = made.ensures.room_pages ∙ inv.room_pages;
      room_ambiguous = made.ensures.room_ambiguous ∙ inv.room_ambiguous;
      room_weak = made.ensures.room_weak ∙ inv.room_weak;
      finalizers = subst (λ (rs : List PassRecord). FinalizersStand (after_passes g.h.heap c.args.last 0 rs) made.new.finalizers) (sym step.1)
          (subst (λ (x : NamedHeap). FinalizersStand x made.new.finalizers) (sym (after_one_more g.h.heap c.args.last 0 (length l.passes.items) l.passes.items step.0 (omega arith))) step.3);
      fewer = omega (arith, made.ensures.fewer, inv.fewer);
      room_queued = made.ensures.room_queued ∙ inv.room_queued;
      rooms = (All-pop (λ (room : RecordRoom). HasRoom room (sizes_of g.h.heap (length c.args.scratch.now.roots.ambiguous.items)))
          l.rooms.items c.pop.new.self.items c.pop.result c.pop.ensures.items inv.rooms).0;
      left = omega (arith, made.ensures.count, inv.left, one_less, l.rooms.ok.0, c.pop.new.self.ok.0);
      capacity = omega (arith, made.ensures.capacity, inv.capacity);
    }
