use Rattle.scavenge.proofs.fields.scan_field.Given as goal

abbrev pub ghost-evacuate : goal.ghost-evacuate
ghost-evacuate g a = g.a
