use Rattle.scavenge.proofs.older.scan_piece.Given as goal

abbrev pub ghost-scan_object : goal.ghost-scan_object
ghost-scan_object g a = g.a
