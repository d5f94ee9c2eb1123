-- One pair more.
use Rattle.std.proofs.Common.{◌≡◌, ℕ, ◌<◌, length, refl, sym, ◌∙◌, ap, subst, arith}
use Rattle.std.proofs.lemmas.List.{append-nil}
use Rattle.heap_terms.specs.Objects.{Object}
use Rattle.copy_space.specs.State.{state}
use Rattle.weak_refs.specs.Culling.{ArePairsKept, AreCullsNoted}
use Rattle.weak_refs.specs.Tables.{IsTableNow, pair_at}
use Rattle.weak_refs.proofs.Noting.{rest-same, parts-same, culled-on, parts-on}
use Rattle.weak_refs.proofs.Pairs.{kept-none, keep-can, keep-key, keep-value, keep-next, keep-noted, keep-room, same-table, ready-any}
use Rattle.weak_refs.proofs.culling.keep_pairs.Goals as goal

pub loop-pair-init : goal.loop-pair-init
loop-pair-init g c = record {
  kept = λ q. kept-none g.a (state c.args.copier.now) c.args.start c.requires.can.places q (ready-any g.a (state c.args.copier.now) c.args.start c.requires.can.places c.requires.can.table q c.requires.can.ready);
  noted = λ q. sym (append-nil c.args.copier.now.notes.now.culls.items);
  room = refl;
  notes = record { rest = rest-same c.args.copier.now.notes.now; breaks = refl; queued = refl };
  parts = parts-same c.args.copier.now;
}

pub keep_pair-to-requires : goal.keep_pair-to-requires
keep_pair-to-requires g c =
    let s = state c.args.copier.now in
    let can = c.requires.can in
    let count = c.requires.count_is in
    let test = c.loop-pair-test.true in
    let inside : c.loop-pair.pair < length can.table.pairs = omega arith in
    keep-can g.a s c.args.start can.places can.table can.ready c.loop-pair.pair inside (state c.loop-pair.copier) c.loop-pair.to c.loop-pair.copier.notes.now (c.loop-pair.invariant.kept can.table)
    (keep-room g.a s c.args.start can.places can.table can.ready c.loop-pair.pair inside c.args.copier.now.notes.now c.loop-pair.copier.notes.now (c.loop-pair.invariant.noted can.table)
    c.loop-pair.invariant.room can.room)

pub loop-pair-preserved : goal.loop-pair-preserved
loop-pair-preserved g c =
    let s = state c.args.copier.now in
    let r = state c.loop-pair.copier in
    let t = state c.keep_pair-to.new.copier in
    let can = c.requires.can in
    let count = c.requires.count_is in
    let test = c.loop-pair-test.true in
    let ready = λ (q : IsTableNow g.a s c.args.start). ready-any g.a s c.args.start can.places can.table q can.ready in
    let inside : (q : IsTableNow g.a s c.args.start) → c.loop-pair.pair < length q.pairs =
    λ q. (let same = ap length (same-table g.a s c.args.start can.places can.table q).pairs in omega arith) in
    let one = λ (q : IsTableNow g.a s c.args.start). c.keep_pair-to.ensures.kept (pair_at q.pairs c.loop-pair.pair).0 (pair_at q.pairs c.loop-pair.pair).1
    (keep-key g.a s c.args.start can.places q (ready q) c.loop-pair.pair (inside q) r c.loop-pair.to (c.loop-pair.invariant.kept q))
    (keep-value g.a s c.args.start can.places q (ready q) c.loop-pair.pair (inside q) r c.loop-pair.to (c.loop-pair.invariant.kept q)) in
    record {
      kept = λ q. keep-next g.a s c.args.start can.places q (ready q) c.loop-pair.pair (inside q) r t c.loop-pair.to c.args.place c.keep_pair-to.result c.loop-pair.copier.notes.now c.keep_pair-to.new.copier.notes.now
          (c.loop-pair.invariant.kept q) (one q);
      noted = λ q. keep-noted g.a s c.args.start can.places q (ready q) c.loop-pair.pair (inside q) r t c.loop-pair.to c.args.place c.keep_pair-to.result
          c.args.copier.now.notes.now c.loop-pair.copier.notes.now c.keep_pair-to.new.copier.notes.now (c.loop-pair.invariant.kept q)
          (c.requires.place_is ∙ ap (λ (o : Object). o.place) (same-table g.a s c.args.start can.places can.table q).o) (c.loop-pair.invariant.noted q) (one q);
      room = c.keep_pair-to.ensures.room ∙ c.loop-pair.invariant.room;
      notes = culled-on c.args.copier.now.notes.now c.loop-pair.copier.notes.now c.keep_pair-to.new.copier.notes.now c.loop-pair.invariant.notes c.keep_pair-to.ensures.notes;
      parts = parts-on c.args.copier.now c.loop-pair.copier c.keep_pair-to.new.copier c.loop-pair.invariant.parts c.keep_pair-to.ensures.parts;
    }

pub returns-clause-kept : goal.returns-clause-kept
returns-clause-kept g c = λ q.
    (let count = c.requires.count_is in
    let same = ap length (same-table g.a (state c.args.copier.now) c.args.start c.requires.can.places c.requires.can.table q).pairs in
    let test = c.loop-pair-test.false in
    let end : c.loop-pair.pair ≡ length q.pairs = omega arith in
    subst (λ (n : ℕ). ArePairsKept g.a (state c.args.copier.now) (state c.loop-pair.copier) c.args.start q n c.loop-pair.to) end (c.loop-pair.invariant.kept q))

pub returns-clause-noted : goal.returns-clause-noted
returns-clause-noted g c = λ q.
    (let count = c.requires.count_is in
    let same = ap length (same-table g.a (state c.args.copier.now) c.args.start c.requires.can.places c.requires.can.table q).pairs in
    let test = c.loop-pair-test.false in
    let end : c.loop-pair.pair ≡ length q.pairs = omega arith in
    subst (λ (n : ℕ). AreCullsNoted g.a (state c.args.copier.now) c.args.start q n c.args.copier.now.notes.now c.loop-pair.copier.notes.now) end (c.loop-pair.invariant.noted q))
