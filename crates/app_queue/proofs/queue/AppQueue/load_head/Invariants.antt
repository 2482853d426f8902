use Rattle.app_queue.specs.Told.{SeesHead}
use Rattle.app_queue.proofs.Places.{side_of}
use Rattle.app_queue.proofs.queue.AppQueue.load_head.Given as goal

abbrev pub ghosts-load_word : goal.ghosts-load_word
ghosts-load_word a = record { tells = SeesHead a.self.now.table.shared.key.0 (side_of a.place) a.seat.now.me.0 }
