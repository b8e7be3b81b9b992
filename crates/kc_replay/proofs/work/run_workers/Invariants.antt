use Rattle.kc_replay.proofs.work.run_workers.Given as goal

abbrev pub ghosts-run_beside : goal.ghosts-run_beside
ghosts-run_beside g a = record { config = a.config.now; calls = a.calls.now }
