use Rattle.scavenge.proofs.objects.scan_object.Given as goal

abbrev pub ghost-scan_headed : goal.ghost-scan_headed
ghost-scan_headed g a = g.a

abbrev pub ghost-scan_field : goal.ghost-scan_field
ghost-scan_field g a = g.a
