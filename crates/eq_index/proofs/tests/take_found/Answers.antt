use Rattle.std.proofs.Common.{◌∙◌, arith}
use Rattle.eq_index.specs.Answers.{without}
use Rattle.eq_index.proofs.tests.take_found.Goals as goal

pub returns-in_err-slot-clause-table : goal.returns-in_err-slot-clause-table
returns-in_err-slot-clause-table c = record { b = c.requires.b; pairs = c.requires.pairs; is = (c.find.ensures.same c.requires.b c.requires.pairs c.requires.is).is }

pub returns-in_err-slot-clause-long : goal.returns-in_err-slot-clause-long
returns-in_err-slot-clause-long c = (c.find.ensures.same c.requires.b c.requires.pairs c.requires.is).elsewhere.long

pub remove_at-requires-clause-table : goal.remove_at-requires-clause-table
remove_at-requires-clause-table c = record { b = c.requires.b; pairs = c.requires.pairs; is = (c.find.ensures.same c.requires.b c.requires.pairs c.requires.is).is }

-- the number of pairs stands in the words
pub remove_at-requires-clause-there : goal.remove_at-requires-clause-there
remove_at-requires-clause-there c = λ b pairs t.
    let found = c.in_ok-slot.ensures.found c.requires.b c.requires.pairs c.requires.is in
    let now = (c.find.ensures.same c.requires.b c.requires.pairs c.requires.is).is in
    omega (arith, found.0, now.count, t.count)

pub returns-clause-table : goal.returns-clause-table
returns-clause-table c =
    let now = (c.find.ensures.same c.requires.b c.requires.pairs c.requires.is).is in
    record { b = c.requires.b; pairs = without c.requires.pairs c.in_ok-slot.slot; is = (c.remove_at.ensures c.requires.b c.requires.pairs now).is }

pub returns-clause-long : goal.returns-clause-long
returns-clause-long c =
    let now = c.find.ensures.same c.requires.b c.requires.pairs c.requires.is in
    (c.remove_at.ensures c.requires.b c.requires.pairs now.is).elsewhere.long ∙ now.elsewhere.long
