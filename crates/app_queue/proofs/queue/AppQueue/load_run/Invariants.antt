use Rattle.app_queue.specs.Told.{SeesRun}
use Rattle.app_queue.proofs.Places.{number_of}
use Rattle.app_queue.proofs.queue.AppQueue.load_run.Given as goal

abbrev pub ghosts-load_word : goal.ghosts-load_word
ghosts-load_word a = record { tells = SeesRun (number_of a.place) a.seat.now.me.0 }
