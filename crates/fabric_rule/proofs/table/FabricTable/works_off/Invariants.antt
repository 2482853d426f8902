use Rattle.fabric_rule.specs.Seats.{without_works, works_of}
use Rattle.fabric_rule.proofs.table.FabricTable.works_off.Given as goal

abbrev pub ghosts-split : goal.ghosts-split
ghosts-split g a = record { stays = without_works a.seat.now.seat.me.0; leaves = works_of a.seat.now.seat.me.0 }
