use Rattle.eq_index.proofs.tests.put.Goals as goal

pub returns-clause-table : goal.returns-clause-table
returns-clause-table c =
    let did = c.insert.ensures c.requires.b c.requires.pairs c.requires.is in
    record { b = c.requires.b; pairs = did.0; is = did.2.is }

pub returns-clause-long : goal.returns-clause-long
returns-clause-long c = (c.insert.ensures c.requires.b c.requires.pairs c.requires.is).2.elsewhere.long
