use Rattle.std.proofs.Common.{◌+◌}
use Rattle.fabric_rule.specs.Seats.{first_from, fresh_main}
use Rattle.fabric_rule.proofs.table.FabricTable.first_main.Given as goal

abbrev pub ghosts-split : goal.ghosts-split
ghosts-split g a = record { stays = first_from a.self.now.table.shared.key (a._about + 1); leaves = fresh_main a.self.now.table.shared.key a._about }
