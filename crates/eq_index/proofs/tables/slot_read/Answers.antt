use Rattle.std.proofs.Common.{◌<◌, ◌∙◌, sym, length, arith}
use Rattle.eq_index.proofs.tables.slot_read.Goals as goal

pub overflow_mul-slot : goal.overflow_mul-slot
overflow_mul-slot c =
    let n = c.count-slot-end.ensures c.requires.b c.requires.pairs c.requires.is in
    omega (arith, n, c.requires.is.room, c.requires.is.most)

pub overflow_add-table-in-loop-slot : goal.overflow_add-table-in-loop-slot
overflow_add-table-in-loop-slot c =
    let n = c.count-slot-end.ensures c.requires.b c.requires.pairs c.requires.is in
    omega (arith, n, c.requires.is.room, c.requires.is.low)

pub read-requires : goal.read-requires
read-requires c =
    let n = c.count-slot-end.ensures c.requires.b c.requires.pairs c.requires.is in
    omega (arith, n, c.requires.is.room, c.requires.is.within)

pub returns-then-read-key : goal.returns-then-read-key
returns-then-read-key c = λ b pairs t.
    let n = c.count-slot-end.ensures b pairs t in
    let lt : c.loop-slot.slot < length pairs = omega (arith, n) in
    (lt, sym (t.keys c.loop-slot.slot lt) ∙ sym c.read.ensures ∙ c.if-read-key.true)

pub returns : goal.returns
returns c = λ b pairs t k lt e.
    let n = c.count-slot-end.ensures b pairs t in
    let below : k < c.loop-slot.slot = omega (arith, n, lt) in
    c.loop-slot.invariant k below (t.keys k lt ∙ e)
