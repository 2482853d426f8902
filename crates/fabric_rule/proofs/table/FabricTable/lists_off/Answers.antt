use Rattle.fabric_rule.proofs.SeatViews.{lists_leave}
use Rattle.fabric_rule.proofs.table.FabricTable.lists_off.Goals as goal

pub split-requires-clause-parted : goal.split-requires-clause-parted
split-requires-clause-parted g c = lists_leave c.args.seat.now.seat.me.0 c.requires.works c.requires.posts c.requires.popped
