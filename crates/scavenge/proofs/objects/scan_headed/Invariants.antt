use Rattle.scavenge.proofs.objects.scan_headed.Given as goal

abbrev pub ghost-scan_fields : goal.ghost-scan_fields
ghost-scan_fields g a = g.a
