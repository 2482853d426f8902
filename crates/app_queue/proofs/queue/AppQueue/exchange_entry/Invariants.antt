use Rattle.app_queue.specs.Told.{Puts}
use Rattle.app_queue.proofs.Places.{side_of}
use Rattle.app_queue.proofs.queue.AppQueue.exchange_entry.Given as goal

abbrev pub ghosts-exchange_word : goal.ghosts-exchange_word
ghosts-exchange_word a = record { tells = Puts a.self.now.table.shared.key.0 (side_of a.place) a._at a.old a._value a.seat.now.me.0 }
