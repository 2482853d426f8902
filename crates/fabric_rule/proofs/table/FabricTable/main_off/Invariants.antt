use Rattle.fabric_rule.specs.Opening.{ledger_of}
use Rattle.fabric_rule.specs.Seats.{main_of, without_first_lists}
use Rattle.fabric_rule.proofs.table.FabricTable.main_off.Given as goal

abbrev pub ghosts-split : goal.ghosts-split
ghosts-split g a = record { stays = without_first_lists a.seat.now.seat.me.0; leaves = main_of (ledger_of a.seat.now.seat.me.0) a.seat.now.seat.me.0 }
