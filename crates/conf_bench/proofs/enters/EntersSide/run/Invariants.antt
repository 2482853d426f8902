use Rattle.conf_bench.proofs.enters.EntersSide.run.Given as goal

-- the history that was just opened
abbrev pub ghosts-run_named : goal.ghosts-run_named
ghosts-run_named g a = record { history = a.opened }
