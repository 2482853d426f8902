use Rattle.app_queue.specs.Told.{Helps}
use Rattle.app_queue.proofs.Places.{side_of}
use Rattle.app_queue.proofs.queue.AppQueue.exchange_tail.Given as goal

abbrev pub ghosts-exchange_word : goal.ghosts-exchange_word
ghosts-exchange_word a = record { tells = λ found. Helps (side_of a.place) a.old a.seat.now.me.0 }
