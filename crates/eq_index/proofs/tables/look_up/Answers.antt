use Rattle.std.proofs.Common.{◌≡◌, ◌+◌, ◌*◌, ◌∙◌, sym, subst, arith, ap, ℕ, Option}
use Rattle.std.specs.Prelude.{slice_index}
use Rattle.eq_index.specs.Answers.{LooksUp}
use Rattle.eq_index.proofs.tables.look_up.Goals as goal

pub returns-in_err-slot-clause-found : goal.returns-in_err-slot-clause-found
returns-in_err-slot-clause-found c = λ b pairs t.
    subst (λ (o : Option ℕ). LooksUp pairs c.args.key o) (sym c.from_residual.ensures) (c.in_err-slot.ensures.found b pairs t)

pub overflow_mul-slot : goal.overflow_mul-slot
overflow_mul-slot c =
    let t = c.requires.is in
    let slot = c.in_ok-slot.ensures.found c.requires.b c.requires.pairs t in
    omega (arith, slot.0, t.room, t.most)

pub overflow_add-table-2 : goal.overflow_add-table-2
overflow_add-table-2 c =
    let t = c.requires.is in
    let slot = c.in_ok-slot.ensures.found c.requires.b c.requires.pairs t in
    omega (arith, slot.0, t.room, t.low)

pub overflow_add-table-3 : goal.overflow_add-table-3
overflow_add-table-3 c =
    let t = c.requires.is in
    let slot = c.in_ok-slot.ensures.found c.requires.b c.requires.pairs t in
    omega (arith, slot.0, t.room, t.low)

pub read-requires : goal.read-requires
read-requires c =
    let t = c.requires.is in
    let slot = c.in_ok-slot.ensures.found c.requires.b c.requires.pairs t in
    let now = c.find.ensures.same c.requires.b c.requires.pairs t in
    omega (arith, slot.0, t.room, now.is.within)

pub returns-clause-found : goal.returns-clause-found
returns-clause-found c = λ b pairs t.
    let slot = c.in_ok-slot.ensures.found b pairs t in
    let now = c.find.ensures.same b pairs t in
    let at : c.args.table + 5 + 2 * c.in_ok-slot.slot ≡ c.args.table + 4 + 2 * c.in_ok-slot.slot + 1 = omega arith in
    (c.in_ok-slot.slot, slot, sym (now.is.values c.in_ok-slot.slot slot.0) ∙ ap (λ (i : ℕ). slice_index c.find.new.space i) at ∙ sym c.read.ensures)
