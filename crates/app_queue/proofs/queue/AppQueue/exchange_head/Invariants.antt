use Rattle.std.proofs.Common.{◌%◌}
use Rattle.app_queue.specs.Told.{Takes}
use Rattle.app_queue.proofs.Places.{side_of}
use Rattle.app_queue.proofs.queue.AppQueue.exchange_head.Given as goal

abbrev pub ghosts-exchange_word : goal.ghosts-exchange_word
ghosts-exchange_word a = record { tells = Takes a.self.now.table.shared.key.0 (side_of a.place) a.old (a._value % a.self.now.table.shared.key.0) a.seat.now.me.0 }
