use Rattle.fabric_rule.proofs.SeatViews.{all_end}
use Rattle.fabric_rule.proofs.table.FabricTable.end_works.Goals as goal

pub join-requires-clause-joined : goal.join-requires-clause-joined
join-requires-clause-joined g c = all_end c.args.seat.now.seat.me.0 c.args.other.seat.me.0 c.requires.may c.requires.end
