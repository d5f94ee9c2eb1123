use Rattle.page_sweep.proofs.sweeping.sweep.Given as goal

abbrev pub ghost-sweep_pages : goal.ghost-sweep_pages
ghost-sweep_pages g a = g.at
