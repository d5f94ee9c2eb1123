-- The pair is one of the table's.
use Rattle.std.proofs.Common.{◌≡◌, ◌+◌, ◌*◌, ◌∙◌, arith}
use Rattle.std.specs.Prelude.{slice_index}
use Rattle.copy_space.specs.State.{state}
use Rattle.weak_refs.proofs.Readies.{readies-same}
use Rattle.weak_refs.proofs.TableReady.{pair-can, pair-in}
use Rattle.weak_refs.proofs.TablesNow.{table-inside}
use Rattle.weak_refs.proofs.releasing.ready_one.Goals as goal

pub read-requires : goal.read-requires
read-requires g c =
    let inside = table-inside g.a (state c.args.copier.now) c.args.start c.requires.midway.places c.requires.table in
    rw c.space.ensures (omega arith)

pub read-key-requires : goal.read-key-requires
read-key-requires g c =
    let s = state c.args.copier.now in
    let count = c.pair_count-count.ensures c.requires.table in
    let test = c.if-pair-count.false in
    let inside = pair-in g.a s c.args.start c.requires.midway c.requires.table s (readies-same g.a s c.requires.midway) c.args.pair (omega arith) in
    rw c.space-2.ensures (omega arith)

pub read-value-requires : goal.read-value-requires
read-value-requires g c =
    let s = state c.args.copier.now in
    let count = c.pair_count-count.ensures c.requires.table in
    let test = c.if-pair-count.false in
    let inside = pair-in g.a s c.args.start c.requires.midway c.requires.table s (readies-same g.a s c.requires.midway) c.args.pair (omega arith) in
    rw c.space-3.ensures (omega arith)

pub ready_pair-requires : goal.ready_pair-requires
ready_pair-requires g c =
    let s = state c.args.copier.now in
    let q = c.requires.table in
    let count = c.pair_count-count.ensures q in
    let test = c.if-pair-count.false in
    let word : c.read.result ≡ slice_index s.words (c.args.start + 1) = rw c.space.ensures at c.read.ensures in
    let key_at : c.read-key.result ≡ slice_index s.words (c.args.start + 4 + 2 * c.args.pair) = rw c.space-2.ensures at c.read-key.ensures in
    let value_at : c.read-value.result ≡ slice_index s.words (c.args.start + 4 + 2 * c.args.pair + 1) = rw c.space-3.ensures at c.read-value.ensures in
    pair-can g.a s c.args.start c.requires.midway q s (readies-same g.a s c.requires.midway) c.args.pair (omega arith)
    c.weakness_from-weakness.result c.read-key.result c.read-value.result (c.weakness_from-weakness.ensures q.w (word ∙ q.words.weakness)) key_at value_at
