use Rattle.conf_shared.proofs.tests.two_threads_find_rising_numbers.Given as goal

-- the history that was just opened
abbrev pub ghosts-seen_in_threads : goal.ghosts-seen_in_threads
ghosts-seen_in_threads g a = record { history = a.opened }
