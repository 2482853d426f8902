use Rattle.conf_shared.proofs.tests.a_change_is_found_by_the_next_enter.Given as goal

-- the history that was just opened
abbrev pub ghosts-found_by_one : goal.ghosts-found_by_one
ghosts-found_by_one g a = record { history = a.opened }
