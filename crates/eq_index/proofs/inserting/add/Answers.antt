use Rattle.std.proofs.Common.{◌≡◌, ℕ, ◌+◌, ◌*◌, List, [], ◌∷◌, ◌++◌, ◌∙◌, length, sym, ap, subst, refl, arith}
use Rattle.std.proofs.lemmas.List.{length-set}
use Rattle.eq_index.specs.Tables.{PairWords, Becomes}
use Rattle.eq_index.proofs.Changes.{added, added_words}
use Rattle.eq_index.proofs.inserting.add.Goals as goal

pub overflow_mul-at : goal.overflow_mul-at
overflow_mul-at c =
    let t = c.requires.table.is in
    let room = c.requires.room c.requires.table.b c.requires.table.pairs t in
    omega (arith, room.0, room.1, t.most)

pub overflow_add-at-2 : goal.overflow_add-at-2
overflow_add-at-2 c =
    let t = c.requires.table.is in
    let room = c.requires.room c.requires.table.b c.requires.table.pairs t in
    omega (arith, room.0, room.1, t.low)

pub write-requires : goal.write-requires
write-requires c =
    let t = c.requires.table.is in
    let room = c.requires.room c.requires.table.b c.requires.table.pairs t in
    omega (arith, room.0, room.1, t.within)

pub overflow_add-at-3 : goal.overflow_add-at-3
overflow_add-at-3 c =
    let t = c.requires.table.is in
    let room = c.requires.room c.requires.table.b c.requires.table.pairs t in
    omega (arith, room.0, room.1, t.low)

pub write-requires-2 : goal.write-requires-2
write-requires-2 c =
    let t = c.requires.table.is in
    let room = c.requires.room c.requires.table.b c.requires.table.pairs t in
    let long : length c.write.new.self ≡ length c.args.space.now = ap length c.write.ensures ∙ length-set c.args.space.now (c.args.table + 4 + 2 * c.args.count) c.args.key in
    omega (arith, room.0, room.1, t.within, long)

pub overflow_add-count : goal.overflow_add-count
overflow_add-count c =
    let t = c.requires.table.is in
    let room = c.requires.room c.requires.table.b c.requires.table.pairs t in
    omega (arith, room.0, room.1, t.most)

pub returns : goal.returns
returns c = λ b pairs t.
    let room = c.requires.room b pairs t in
    let p : PairWords = record { key = c.args.key; value = c.args.value } in
    let whole : c.write-3.new.self ≡ added_words c.args.space.now c.args.table c.args.count c.args.key c.args.value =
    rw (c.write-3.ensures, c.write-2.ensures, c.write.ensures, c.from.ensures) refl in
    subst (λ (words : List ℕ). Becomes c.args.space.now words c.args.table b (pairs ++ p ∷ [])) (sym whole)
    (added c.args.space.now c.args.table b c.args.count pairs p t room.0 (omega (arith, room.0, room.1)) room.2)
