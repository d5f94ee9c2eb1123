use Rattle.lispheap.proofs.faults.say.Goals as goal

pub returns-in-Usage-clause-said : goal.returns-in-Usage-clause-said
returns-in-Usage-clause-said g c = rw c.in-Usage.is c.put_text.ensures.said

pub returns-in-Read-clause-said : goal.returns-in-Read-clause-said
returns-in-Read-clause-said g c = rw c.in-Read.is c.put_text-in-Read.ensures.said

pub returns-in-Write-clause-said : goal.returns-in-Write-clause-said
returns-in-Write-clause-said g c = rw c.in-Write.is c.put_text-in-Write.ensures.said

pub returns-in-Memory-clause-said : goal.returns-in-Memory-clause-said
returns-in-Memory-clause-said g c = rw c.in-Memory.is c.put_text-in-Memory.ensures.said
