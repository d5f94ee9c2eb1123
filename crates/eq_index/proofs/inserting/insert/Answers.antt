use Rattle.std.proofs.Common.{ℕ, List, set, sym, subst, refl, arith}
use Rattle.eq_index.specs.Tables.{PairWords, Becomes}
use Rattle.eq_index.proofs.Changes.{replaced}
use Rattle.eq_index.proofs.inserting.insert.Goals as goal

pub overflow_mul-slot : goal.overflow_mul-slot
overflow_mul-slot c =
    let t = c.requires.is in
    let found = c.in-Some.ensures c.requires.b c.requires.pairs t in
    omega (arith, found.0, t.room, t.most)

pub overflow_add-table-in-Some : goal.overflow_add-table-in-Some
overflow_add-table-in-Some c =
    let t = c.requires.is in
    let found = c.in-Some.ensures c.requires.b c.requires.pairs t in
    omega (arith, found.0, t.room, t.low)

pub overflow_add-table-in-Some-2 : goal.overflow_add-table-in-Some-2
overflow_add-table-in-Some-2 c =
    let t = c.requires.is in
    let found = c.in-Some.ensures c.requires.b c.requires.pairs t in
    omega (arith, found.0, t.room, t.low)

pub write-requires : goal.write-requires
write-requires c =
    let t = c.requires.is in
    let found = c.in-Some.ensures c.requires.b c.requires.pairs t in
    omega (arith, found.0, t.room, t.within)

pub returns-in-Some : goal.returns-in-Some
returns-in-Some c = λ b pairs t.
    let slot = c.in-Some.slot in
    let found = c.in-Some.ensures b pairs t in
    let p : PairWords = record { key = c.args.key; value = c.args.value } in (
      set pairs slot p,
      (slot, found, refl),
      subst (λ (words : List ℕ). Becomes c.args.space.now words c.args.table b (set pairs slot p)) (sym c.write.ensures)
          (replaced c.args.space.now c.args.table b pairs slot c.args.value p t found.0 (sym found.1) refl),
    )

pub returns-in-None : goal.returns-in-None
returns-in-None c = c.insert_last.ensures

pub insert_last-requires-clause-absent : goal.insert_last-requires-clause-absent
insert_last-requires-clause-absent c = c.in-None.ensures
