use Rattle.fabric_rule.specs.Seats.{handed, without_works, works_of}
use Rattle.fabric_rule.proofs.table.FabricTable.hand_on.Given as goal

abbrev pub ghosts-split : goal.ghosts-split
ghosts-split g a = record { stays = without_works (handed a.seat.now.seat.me.0); leaves = works_of (handed a.seat.now.seat.me.0) }
