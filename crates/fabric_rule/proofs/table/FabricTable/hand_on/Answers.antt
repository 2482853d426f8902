use Rattle.fabric_rule.proofs.SeatViews.{popped_leaves}
use Rattle.fabric_rule.proofs.table.FabricTable.hand_on.Goals as goal

pub split-requires-clause-parted : goal.split-requires-clause-parted
split-requires-clause-parted g c = popped_leaves c.args.seat.now.seat.me.0 c.requires.lists c.requires.worker c.requires.posts c.requires.chunks
