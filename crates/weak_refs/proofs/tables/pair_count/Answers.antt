-- The count's word is twice the number of pairs.
use Rattle.std.proofs.Common.{◌≡◌, ◌+◌, arith}
use Rattle.std.specs.Prelude.{slice_index}
use Rattle.copy_space.specs.State.{state}
use Rattle.weak_refs.proofs.TablesNow.{table-inside}
use Rattle.weak_refs.proofs.tables.pair_count.Goals as goal

pub read-requires : goal.read-requires
read-requires g c =
    let inside = table-inside g.a (state c.args.copier.now) c.args.start c.requires.places c.requires.table in
    rw c.space.ensures (omega arith)

pub returns : goal.returns
returns g c = λ q.
    (let words = q.words.count in
    let read : c.read.result ≡ slice_index (state c.args.copier.now).words (c.args.start + 3) = rw c.space.ensures at c.read.ensures in
    omega arith)
