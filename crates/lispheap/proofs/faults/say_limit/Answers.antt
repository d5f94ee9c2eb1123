use Rattle.lispheap.proofs.faults.say_limit.Goals as goal

pub returns-in-Commands-clause-said : goal.returns-in-Commands-clause-said
returns-in-Commands-clause-said g c = rw c.in-Commands.is c.put_text-in-Commands.ensures.said

pub returns-in-Schedule-clause-said : goal.returns-in-Schedule-clause-said
returns-in-Schedule-clause-said g c = rw c.in-Schedule.is c.put_text-in-Schedule.ensures.said
