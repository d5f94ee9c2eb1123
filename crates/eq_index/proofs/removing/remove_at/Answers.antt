use Rattle.std.proofs.Common.{◌≡◌, ℕ, ◌+◌, ◌-◌, ◌*◌, List, ◌∙◌, length, sym, ap, subst, refl, arith}
use Rattle.std.proofs.lemmas.List.{length-set}
use Rattle.eq_index.specs.Answers.{without}
use Rattle.eq_index.specs.Tables.{Becomes}
use Rattle.eq_index.proofs.Changes.{removed, removed_words}
use Rattle.eq_index.proofs.removing.remove_at.Goals as goal

pub overflow_sub-last : goal.overflow_sub-last
overflow_sub-last c =
    let t = c.requires.table.is in
    let slot = c.requires.there c.requires.table.b c.requires.table.pairs t in
    let n = c.count-last.ensures c.requires.table.b c.requires.table.pairs t in
    omega (arith, slot, n)

pub overflow_mul-behind : goal.overflow_mul-behind
overflow_mul-behind c =
    let t = c.requires.table.is in
    let slot = c.requires.there c.requires.table.b c.requires.table.pairs t in
    let n = c.count-last.ensures c.requires.table.b c.requires.table.pairs t in
    omega (arith, slot, n, t.room, t.most)

pub overflow_add-behind-2 : goal.overflow_add-behind-2
overflow_add-behind-2 c =
    let t = c.requires.table.is in
    let slot = c.requires.there c.requires.table.b c.requires.table.pairs t in
    let n = c.count-last.ensures c.requires.table.b c.requires.table.pairs t in
    omega (arith, slot, n, t.room, t.low)

pub overflow_mul-slot : goal.overflow_mul-slot
overflow_mul-slot c =
    let t = c.requires.table.is in
    let slot = c.requires.there c.requires.table.b c.requires.table.pairs t in
    let n = c.count-last.ensures c.requires.table.b c.requires.table.pairs t in
    omega (arith, slot, n, t.room, t.most)

pub overflow_add-table-2 : goal.overflow_add-table-2
overflow_add-table-2 c =
    let t = c.requires.table.is in
    let slot = c.requires.there c.requires.table.b c.requires.table.pairs t in
    let n = c.count-last.ensures c.requires.table.b c.requires.table.pairs t in
    omega (arith, slot, n, t.room, t.low)

pub close_up-requires-clause-order : goal.close_up-requires-clause-order
close_up-requires-clause-order c =
    let t = c.requires.table.is in
    let slot = c.requires.there c.requires.table.b c.requires.table.pairs t in
    let n = c.count-last.ensures c.requires.table.b c.requires.table.pairs t in
    omega (arith, slot, n)

pub close_up-requires-clause-within : goal.close_up-requires-clause-within
close_up-requires-clause-within c =
    let t = c.requires.table.is in
    let slot = c.requires.there c.requires.table.b c.requires.table.pairs t in
    let n = c.count-last.ensures c.requires.table.b c.requires.table.pairs t in
    omega (arith, slot, n, t.room, t.within)

pub close_up-requires-clause-low : goal.close_up-requires-clause-low
close_up-requires-clause-low c =
    let t = c.requires.table.is in
    let slot = c.requires.there c.requires.table.b c.requires.table.pairs t in
    let n = c.count-last.ensures c.requires.table.b c.requires.table.pairs t in
    omega (arith, slot, n, t.room, t.low)

pub write-requires : goal.write-requires
write-requires c =
    let t = c.requires.table.is in
    let slot = c.requires.there c.requires.table.b c.requires.table.pairs t in
    let n = c.count-last.ensures c.requires.table.b c.requires.table.pairs t in
    omega (arith, slot, n, t.room, t.within, c.close_up.ensures.long)

pub overflow_add-behind-3 : goal.overflow_add-behind-3
overflow_add-behind-3 c =
    let t = c.requires.table.is in
    let slot = c.requires.there c.requires.table.b c.requires.table.pairs t in
    let n = c.count-last.ensures c.requires.table.b c.requires.table.pairs t in
    omega (arith, slot, n, t.room, t.low)

pub write-requires-2 : goal.write-requires-2
write-requires-2 c =
    let t = c.requires.table.is in
    let slot = c.requires.there c.requires.table.b c.requires.table.pairs t in
    let n = c.count-last.ensures c.requires.table.b c.requires.table.pairs t in
    let long : length c.write.new.self ≡ length c.close_up.new.space = ap length c.write.ensures ∙ length-set c.close_up.new.space (c.args.table + 4 + 2 * (c.count-last.result - 1)) 0x51 in
    omega (arith, slot, n, t.room, t.within, c.close_up.ensures.long, long)

pub returns : goal.returns
returns c = λ b pairs t.
    let slot = c.requires.there b pairs t in
    let n = c.count-last.ensures b pairs t in
    let last = c.count-last.result - 1 in
    let whole : c.write-3.new.self ≡ removed_words c.close_up.new.space c.args.table last =
    rw (c.write-3.ensures, c.write-2.ensures, c.write.ensures, c.from.ensures) refl in
    subst (λ (words : List ℕ). Becomes c.args.space.now words c.args.table b (without pairs c.args.slot)) (sym whole)
    (removed c.args.space.now c.close_up.new.space c.args.table b c.args.slot last pairs t c.close_up.ensures slot (omega (arith, slot, n)))
