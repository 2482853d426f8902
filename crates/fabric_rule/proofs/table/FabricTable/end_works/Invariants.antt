use Rattle.fabric_rule.specs.Seats.{ended, together}
use Rattle.fabric_rule.specs.Views.{empty}
use Rattle.fabric_rule.proofs.table.FabricTable.end_works.Given as goal

abbrev pub ghosts-join : goal.ghosts-join
ghosts-join g a = record { both = ended (together a.seat.now.seat.me.0 a.other.seat.me.0); spent = empty a.self.now.table.shared.key }
