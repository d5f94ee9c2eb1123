use Rattle.std.proofs.Common.{[], ◌∷◌, ◌++◌, refl, arith}
use Rattle.eq_index.specs.Tables.{PairWords}
use Rattle.eq_index.proofs.Changes.{unchanged}
use Rattle.eq_index.proofs.inserting.insert_last.Goals as goal

pub returns-then-count-capacity : goal.returns-then-count-capacity
returns-then-count-capacity c = λ b pairs t.
    let n = c.count-count.ensures b pairs t in
    let m = c.capacity.ensures b pairs t in
    (pairs, (c.requires.absent b pairs t, omega (arith, n, m), refl), unchanged c.args.space.now c.args.table b pairs t)

pub add-requires-clause-room : goal.add-requires-clause-room
add-requires-clause-room c = λ b pairs t.
    let n = c.count-count.ensures b pairs t in
    let m = c.capacity.ensures b pairs t in
    (n, omega (arith, n, m, t.room), c.requires.absent b pairs t)

pub returns : goal.returns
returns c = λ b pairs t.
    let n = c.count-count.ensures b pairs t in
    let m = c.capacity.ensures b pairs t in
    let p : PairWords = record { key = c.args.key; value = c.args.value } in
    (pairs ++ p ∷ [], (c.requires.absent b pairs t, omega (arith, n, m, t.room), refl), c.add.ensures b pairs t)
