use Rattle.app_queue.specs.Told.{SeesEntry}
use Rattle.app_queue.proofs.Places.{side_of}
use Rattle.app_queue.proofs.queue.AppQueue.load_entry.Given as goal

abbrev pub ghosts-load_word : goal.ghosts-load_word
ghosts-load_word a = record { tells = SeesEntry a.self.now.table.shared.key.0 (side_of a.place) a._at a.seat.now.me.0 }
