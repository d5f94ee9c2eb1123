use Rattle.scavenge.proofs.older.scan_page.Given as goal

abbrev pub ghost-scan_pieces : goal.ghost-scan_pieces
ghost-scan_pieces g a = g.a
