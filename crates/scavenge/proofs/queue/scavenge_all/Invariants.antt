use Rattle.scavenge.proofs.queue.scavenge_all.Given as goal

abbrev pub ghost-scan_pins : goal.ghost-scan_pins
ghost-scan_pins g a = g.a

abbrev pub ghost-scan_moves : goal.ghost-scan_moves
ghost-scan_moves g a = g.a
