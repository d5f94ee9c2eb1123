use Rattle.page_sweep.proofs.sweeping.sweep_page.Given as goal

abbrev pub ghost-wipe : goal.ghost-wipe
ghost-wipe g a = g.at
