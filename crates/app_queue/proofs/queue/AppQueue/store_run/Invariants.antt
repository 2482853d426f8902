use Rattle.std.proofs.Common.{◌≡◌}
use Rattle.app_queue.specs.declared.view.ItemEvent.TheVariants.{RunNoted}
use Rattle.app_queue.specs.Views.{after}
use Rattle.app_queue.proofs.Places.{number_of}
use Rattle.app_queue.proofs.queue.AppQueue.store_run.Given as goal

abbrev pub ghosts-store_word : goal.ghosts-store_word
ghosts-store_word a = record { tells = λ found u. u ≡ after (RunNoted (number_of a.place) a.new) a.seat.now.me.0 }
