use Rattle.ambiguous_roots.proofs.pins.find_pins.Given as goal

abbrev pub ghost-pin_pages : goal.ghost-pin_pages
ghost-pin_pages g a = g.a
