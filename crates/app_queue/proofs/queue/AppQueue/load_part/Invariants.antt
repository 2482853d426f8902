use Rattle.app_queue.specs.Told.{SeesPart}
use Rattle.app_queue.proofs.Places.{number_of}
use Rattle.app_queue.proofs.queue.AppQueue.load_part.Given as goal

abbrev pub ghosts-load_word : goal.ghosts-load_word
ghosts-load_word a = record { tells = SeesPart (number_of a.place) a.seat.now.me.0 }
