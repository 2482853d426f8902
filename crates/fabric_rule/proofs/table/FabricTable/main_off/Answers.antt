use Rattle.fabric_rule.proofs.SeatViews.{main_leaves}
use Rattle.fabric_rule.proofs.table.FabricTable.main_off.Goals as goal

pub split-requires-clause-parted : goal.split-requires-clause-parted
split-requires-clause-parted g c = main_leaves c.args.seat.now.seat.me.0 c.requires.rest c.requires.some c.requires.role
