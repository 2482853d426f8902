use Rattle.app_queue.specs.Told.{Settles}
use Rattle.app_queue.proofs.Places.{number_of}
use Rattle.app_queue.proofs.queue.AppQueue.exchange_tag.Given as goal

abbrev pub ghosts-exchange_word : goal.ghosts-exchange_word
ghosts-exchange_word a = record { tells = Settles (number_of a.place) a.old a.seat.now.me.0 }
