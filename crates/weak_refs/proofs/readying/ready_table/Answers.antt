-- One pair more.
use Rattle.std.proofs.Common.{◌≡◌, ◌+◌, ◌*◌, ◌<◌, length, ◌∙◌, ap, arith}
use Rattle.std.specs.Prelude.{slice_index}
use Rattle.copy_space.specs.State.{state}
use Rattle.scavenge.proofs.Frames.{same-on, same-self}
use Rattle.weak_refs.specs.Tables.{IsTableNow, pair_at}
use Rattle.weak_refs.proofs.Pairs.{same-table}
use Rattle.weak_refs.proofs.Readies.{pair-later, readies-same, readies-on}
use Rattle.weak_refs.proofs.TableReady.{pair-in, key-then, value-then, pair-can, table-ready, pairs-ready-on}
use Rattle.weak_refs.proofs.TablesNow.{table-inside}
use Rattle.weak_refs.proofs.readying.ready_table.Goals as goal

pub read-requires : goal.read-requires
read-requires g c =
    let inside = table-inside g.a (state c.args.copier.now) c.args.start c.requires.midway.places c.requires.table in
    rw c.space.ensures (omega arith)

pub pair_count-count-requires : goal.pair_count-count-requires
pair_count-count-requires g c = record { places = c.requires.midway.places; table = c.requires.table }

pub loop-pair-init : goal.loop-pair-init
loop-pair-init g c = record {
  readies = readies-same g.a (state c.args.copier.now) c.requires.midway;
  ready = λ q same k l. absurd (omega (arith, l));
  same = same-self c.args.copier.now;
}

pub read-key-requires : goal.read-key-requires
read-key-requires g c =
    let count = c.pair_count-count.ensures c.requires.table in
    let test = c.loop-pair-test.true in
    let inside = pair-in g.a (state c.args.copier.now) c.args.start c.requires.midway c.requires.table (state c.loop-pair.copier) c.loop-pair.invariant.readies c.loop-pair.pair (omega arith) in
    rw c.space-in-loop-pair.ensures (omega arith)

pub read-value-requires : goal.read-value-requires
read-value-requires g c =
    let count = c.pair_count-count.ensures c.requires.table in
    let test = c.loop-pair-test.true in
    let inside = pair-in g.a (state c.args.copier.now) c.args.start c.requires.midway c.requires.table (state c.loop-pair.copier) c.loop-pair.invariant.readies c.loop-pair.pair (omega arith) in
    rw c.space-in-loop-pair-2.ensures (omega arith)

pub ready_pair-requires : goal.ready_pair-requires
ready_pair-requires g c =
    let s = state c.args.copier.now in
    let q = c.requires.table in
    let count = c.pair_count-count.ensures q in
    let test = c.loop-pair-test.true in
    let word : c.read.result ≡ slice_index s.words (c.args.start + 1) = rw c.space.ensures at c.read.ensures in
    let key_at : c.read-key.result ≡ slice_index (state c.loop-pair.copier).words (c.args.start + 4 + 2 * c.loop-pair.pair) = rw c.space-in-loop-pair.ensures at c.read-key.ensures in
    let value_at : c.read-value.result ≡ slice_index (state c.loop-pair.copier).words (c.args.start + 4 + 2 * c.loop-pair.pair + 1) = rw c.space-in-loop-pair-2.ensures at c.read-value.ensures in
    pair-can g.a s c.args.start c.requires.midway q (state c.loop-pair.copier) c.loop-pair.invariant.readies c.loop-pair.pair (omega arith)
    c.weakness_from-weakness.result c.read-key.result c.read-value.result (c.weakness_from-weakness.ensures q.w (word ∙ q.words.weakness)) key_at value_at

pub note_pair-requires : goal.note_pair-requires
note_pair-requires g c =
    let s = state c.args.copier.now in
    let q = c.requires.table in
    let count = c.pair_count-count.ensures q in
    let test = c.loop-pair-test.true in
    let word : c.read.result ≡ slice_index s.words (c.args.start + 1) = rw c.space.ensures at c.read.ensures in
    let key_at : c.read-key.result ≡ slice_index (state c.loop-pair.copier).words (c.args.start + 4 + 2 * c.loop-pair.pair) = rw c.space-in-loop-pair.ensures at c.read-key.ensures in
    let value_at : c.read-value.result ≡ slice_index (state c.loop-pair.copier).words (c.args.start + 4 + 2 * c.loop-pair.pair + 1) = rw c.space-in-loop-pair-2.ensures at c.read-value.ensures in
    pair-later g.a (state c.loop-pair.copier) (state c.ready_pair.new.copier) c.weakness_from-weakness.result c.read-key.result c.read-value.result c.ready_pair.ensures.readies
    (pair-can g.a s c.args.start c.requires.midway q (state c.loop-pair.copier) c.loop-pair.invariant.readies c.loop-pair.pair (omega arith)
    c.weakness_from-weakness.result c.read-key.result c.read-value.result (c.weakness_from-weakness.ensures q.w (word ∙ q.words.weakness)) key_at value_at)

pub loop-pair-preserved : goal.loop-pair-preserved
loop-pair-preserved g c =
    let s = state c.args.copier.now in
    let r = state c.loop-pair.copier in
    let t = state c.ready_pair.new.copier in
    let count = c.pair_count-count.ensures c.requires.table in
    let test = c.loop-pair-test.true in
    let word : c.read.result ≡ slice_index s.words (c.args.start + 1) = rw c.space.ensures at c.read.ensures in
    let key_at : c.read-key.result ≡ slice_index r.words (c.args.start + 4 + 2 * c.loop-pair.pair) = rw c.space-in-loop-pair.ensures at c.read-key.ensures in
    let value_at : c.read-value.result ≡ slice_index r.words (c.args.start + 4 + 2 * c.loop-pair.pair + 1) = rw c.space-in-loop-pair-2.ensures at c.read-value.ensures in
    let inside : (q : IsTableNow g.a s c.args.start) → c.loop-pair.pair < length q.pairs =
    λ q. (let same = ap length (same-table g.a s c.args.start c.requires.midway.places c.requires.table q).pairs in omega arith) in
    let h = c.loop-pair.invariant.readies in
    record {
      readies = readies-on g.a s r t h c.ready_pair.ensures.readies;
      ready = λ q. pairs-ready-on g.a s r t q.w c.weakness_from-weakness.result q.pairs c.loop-pair.pair h c.ready_pair.ensures.readies (c.loop-pair.invariant.ready q)
          (c.weakness_from-weakness.ensures q.w (word ∙ q.words.weakness))
          (c.ready_pair.ensures.ready (pair_at q.pairs c.loop-pair.pair).0 (pair_at q.pairs c.loop-pair.pair).1
          (key-then g.a s c.args.start c.requires.midway q r h c.loop-pair.pair (inside q) c.read-key.result key_at)
          (value-then g.a s c.args.start c.requires.midway q r h c.loop-pair.pair (inside q) c.read-value.result value_at));
      same = same-on c.args.copier.now c.loop-pair.copier c.ready_pair.new.copier c.loop-pair.invariant.same c.ready_pair.ensures.same;
    }

pub returns-clause-ready : goal.returns-clause-ready
returns-clause-ready g c = λ same.
    (let q = c.requires.table in
    let count = c.pair_count-count.ensures q in
    let test = c.loop-pair-test.false in
    table-ready g.a (state c.args.copier.now) c.args.start c.requires.midway q (state c.loop-pair.copier) c.loop-pair.invariant.readies
    (λ k l. c.loop-pair.invariant.ready q same k (omega arith) l))
