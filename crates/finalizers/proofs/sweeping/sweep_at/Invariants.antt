use Rattle.finalizers.proofs.sweeping.sweep_at.Given as goal

abbrev pub ghost-word_now : goal.ghost-word_now
ghost-word_now g a = g.a
