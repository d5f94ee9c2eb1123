-- One pass, step by step.
use Rattle.std.proofs.Common.{◌≡◌, ℕ, List, [], ◌++◌, take, drop, length, refl, sym, ◌∙◌, ap, subst, arith}
use Rattle.std.proofs.lemmas.List.{append-nil, drop_all, take_all}
use Rattle.ambiguous_roots.specs.HitStarts.{AreHitStarts}
use Rattle.collect_pass.specs.Pass.{IsPassDone, RoomView}
use Rattle.collect_pass.proofs.Begins.{can-trace}
use Rattle.collect_pass.proofs.Passing.{can-sweep, held-clear, freed-none, freed-room, can-finish, can-clear, pass-done, room-again}
use Rattle.collect_pass.proofs.pass.run_pass.Goals as goal

pub trace-requires : goal.trace-requires
trace-requires g c =
    let queued = ap (λ (v : RoomView). v.queued) c.room.view_is in
    let kept = c.clear_notes.ensures.queued_room in
    let enough = c.requires.1.reserved in
    let hit = subst (λ (ws : List ℕ). AreHitStarts g.h.heap c.args.pass.generation ws c.find_pins-count.new.pins.listed) c.as_slice-ambiguous.ensures.value c.find_pins-count.ensures.pins in (
      can-trace g.h c.args.space.now c.args.pages.now c.args.roots.now.exact.items c.args.roots.now.ambiguous.items c.args.pass c.args.room.now c.requires.0 c.room.inside c.room.invariant c.room.view_is
          c.find_pins-count.new.pins.listed c.as_mut_slice-exact.result.now c.clear_notes.new.notes hit c.as_mut_slice-exact.ensures.value c.clear_notes.ensures,
      (record { stand = c.requires.1.stand; none = c.clear_notes.ensures.queued; room = omega arith }, c.find_pins-count.ensures.count),
    )

pub sweep-requires : goal.sweep-requires
sweep-requires g c =
    let hit = subst (λ (ws : List ℕ). AreHitStarts g.h.heap c.args.pass.generation ws c.find_pins-count.new.pins.listed) c.as_slice-ambiguous.ensures.value c.find_pins-count.ensures.pins in (
      can-sweep g.h c.args.space.now c.args.pages.now c.args.roots.now.exact.items c.args.roots.now.ambiguous.items c.args.pass c.args.room.now c.requires.0 c.room.inside c.room.invariant c.room.view_is
          c.find_pins-count.new.pins hit c.find_pins-count.ensures.most c.find_pins-count.result c.find_pins-count.ensures.count c.clear_notes.new.notes c.clear_notes.ensures
          c.trace.new.space c.trace.new.pages c.trace.new.marks c.trace.new.exact c.trace.new.notes c.trace.ensures.traced c.trace.ensures.notes
          _ c.as_slice.result.now c.as_slice.ensures.value refl refl refl refl c.target_of-target.ensures,
      (
        held-clear g.h c.args.space.now c.args.pages.now c.args.roots.now.exact.items c.args.roots.now.ambiguous.items c.args.pass c.args.room.now c.requires.0 c.room.inside c.room.invariant c.room.view_is
            c.find_pins-count.new.pins hit c.find_pins-count.ensures.most c.find_pins-count.result c.find_pins-count.ensures.count c.clear_notes.new.notes c.clear_notes.ensures
            c.trace.new.space c.trace.new.pages c.trace.new.marks c.trace.new.exact c.trace.new.notes c.trace.ensures.traced c.trace.ensures.notes,
        (
          freed-none g.h c.args.space.now c.args.pages.now c.args.roots.now.exact.items c.args.roots.now.ambiguous.items c.args.pass c.args.room.now c.requires.0 c.room.inside c.room.invariant c.room.view_is
              c.find_pins-count.new.pins hit c.find_pins-count.ensures.most c.find_pins-count.result c.find_pins-count.ensures.count c.clear_notes.new.notes c.clear_notes.ensures
              c.trace.new.space c.trace.new.pages c.trace.new.marks c.trace.new.exact c.trace.new.notes c.trace.ensures.traced c.trace.ensures.notes,
          freed-room g.h c.args.space.now c.args.pages.now c.args.roots.now.exact.items c.args.roots.now.ambiguous.items c.args.pass c.args.room.now c.requires.0 c.room.inside c.room.invariant c.room.view_is
              c.find_pins-count.new.pins hit c.find_pins-count.ensures.most c.find_pins-count.result c.find_pins-count.ensures.count c.clear_notes.new.notes c.clear_notes.ensures
              c.trace.new.space c.trace.new.pages c.trace.new.marks c.trace.new.exact c.trace.new.notes c.trace.ensures.traced c.trace.ensures.notes,
        ),
      ),
    )

pub finish_notes-requires : goal.finish_notes-requires
finish_notes-requires g c =
    let hit = subst (λ (ws : List ℕ). AreHitStarts g.h.heap c.args.pass.generation ws c.find_pins-count.new.pins.listed) c.as_slice-ambiguous.ensures.value c.find_pins-count.ensures.pins in
    can-finish g.h c.args.space.now c.args.pages.now c.args.roots.now.exact.items c.args.roots.now.ambiguous.items c.args.pass c.args.room.now c.requires.0 c.room.inside c.room.invariant c.room.view_is
    c.find_pins-count.new.pins hit c.find_pins-count.ensures.most c.find_pins-count.result c.find_pins-count.ensures.count c.clear_notes.new.notes c.clear_notes.ensures
    c.trace.new.space c.trace.new.pages c.trace.new.marks c.trace.new.exact c.trace.new.notes c.trace.ensures.traced c.trace.ensures.notes
    _ refl refl

pub clear_marks-requires : goal.clear_marks-requires
clear_marks-requires g c =
    let hit = subst (λ (ws : List ℕ). AreHitStarts g.h.heap c.args.pass.generation ws c.find_pins-count.new.pins.listed) c.as_slice-ambiguous.ensures.value c.find_pins-count.ensures.pins in
    can-clear g.h c.args.space.now c.args.pages.now c.args.roots.now.exact.items c.args.roots.now.ambiguous.items c.args.pass c.args.room.now c.requires.0 c.room.inside c.room.invariant c.room.view_is
    c.find_pins-count.new.pins hit c.find_pins-count.ensures.most c.find_pins-count.result c.find_pins-count.ensures.count c.clear_notes.new.notes c.clear_notes.ensures
    c.trace.new.space c.trace.new.pages c.trace.new.marks c.trace.new.exact c.trace.new.notes c.trace.ensures.traced c.trace.ensures.notes
    c.as_slice-2.result.now (c.as_slice-2.ensures.value ∙ ap (λ v. v.items) c.finish_notes.ensures.moves)

pub invariant_of-room : goal.invariant_of-room
invariant_of-room g c =
    let hit = subst (λ (ws : List ℕ). AreHitStarts g.h.heap c.args.pass.generation ws c.find_pins-count.new.pins.listed) c.as_slice-ambiguous.ensures.value c.find_pins-count.ensures.pins in
    room-again g.h c.args.space.now c.args.pages.now c.args.roots.now.exact.items c.args.roots.now.ambiguous.items c.args.pass c.args.room.now c.requires.0 c.room.inside c.room.invariant c.room.view_is
    c.find_pins-count.new.pins hit c.find_pins-count.ensures.most c.find_pins-count.result c.find_pins-count.ensures.count c.clear_notes.new.notes c.clear_notes.ensures
    c.trace.new.space c.trace.new.pages c.trace.new.marks c.trace.new.exact c.trace.new.notes c.trace.ensures.traced c.trace.ensures.notes
    c.as_slice.result.now c.as_slice.ensures.value c.sweep.new.space c.sweep.new.pages c.sweep.new.freed.items c.target_of-target.result c.target_of-target.ensures c.sweep.ensures.swept
    _ c.finish_notes.new.notes refl refl refl refl refl c.finish_notes.ensures
    _ c.clear_marks.ensures c.find_pins-count.ensures.hints c.clear.ensures (ap (λ p. p.listed) c.clear-2.ensures) (ap (λ p. p.most) c.clear-2.ensures ∙ c.trace.ensures.most) c.sweep.ensures.held
    refl refl refl refl refl refl c.sweep.ensures.capacity

-- the exact roots as a whole
whole : (len : ℕ) (items now new : List ℕ) → now ≡ items → length now ≡ len → length new ≡ length now → take len (new ++ drop (length new) items) ≡ new
whole len items now new same long kept =
    let total = ap length same in
    let none : drop (length new) items ≡ [] = drop_all (length new) items (omega arith) in
    ap (λ (xs : List ℕ). take len (new ++ xs)) none ∙ ap (take len) (append-nil new) ∙ take_all len new (omega arith)

pub returns-clause-done : goal.returns-clause-done
returns-clause-done g c =
    let hit = subst (λ (ws : List ℕ). AreHitStarts g.h.heap c.args.pass.generation ws c.find_pins-count.new.pins.listed) c.as_slice-ambiguous.ensures.value c.find_pins-count.ensures.pins in
    let done = pass-done g.h c.args.space.now c.args.pages.now c.args.roots.now.exact.items c.args.roots.now.ambiguous.items c.args.pass c.args.room.now c.requires.0 c.room.inside c.room.invariant c.room.view_is
    c.find_pins-count.new.pins hit c.find_pins-count.ensures.most c.find_pins-count.result c.find_pins-count.ensures.count c.clear_notes.new.notes c.clear_notes.ensures
    c.trace.new.space c.trace.new.pages c.trace.new.marks c.trace.new.exact c.trace.new.notes c.trace.ensures.traced c.trace.ensures.notes
    c.as_slice.result.now c.as_slice.ensures.value c.sweep.new.space c.sweep.new.pages c.sweep.new.freed.items c.target_of-target.result c.target_of-target.ensures c.sweep.ensures.swept
    _ c.finish_notes.new.notes refl refl refl refl refl c.finish_notes.ensures
    c.args.finalizers.now c.trace.new.finalizers c.requires.1.stand c.trace.ensures.finalizers in
    let all = whole c.args.roots.now.exact.len c.args.roots.now.exact.items c.as_mut_slice-exact.result.now c.trace.new.exact c.as_mut_slice-exact.ensures.value c.as_mut_slice-exact.ensures.len c.trace.auto.exact in
    subst (λ (ws : List ℕ). IsPassDone g.h c.sweep.new.space c.sweep.new.pages c.trace.new.finalizers ws c.args.roots.now.ambiguous.items c.args.pass c.finish_notes.new.notes) (sym all) done
