use Rattle.thread_scripts.proofs.running.run_threads.Given as goal

abbrev pub ghosts-run_named : goal.ghosts-run_named
ghosts-run_named g a = record { program = a.program }
