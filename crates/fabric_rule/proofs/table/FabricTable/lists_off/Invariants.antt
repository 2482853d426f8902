use Rattle.fabric_rule.specs.Seats.{lists_of, without_lists}
use Rattle.fabric_rule.proofs.table.FabricTable.lists_off.Given as goal

abbrev pub ghosts-split : goal.ghosts-split
ghosts-split g a = record { stays = without_lists a.seat.now.seat.me.0; leaves = lists_of a.seat.now.seat.me.0 }
