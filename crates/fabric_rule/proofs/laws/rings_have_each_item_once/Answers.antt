use Rattle.fabric_rule.proofs.RingValues.{rings_distinct}
use Rattle.fabric_rule.proofs.laws.rings_have_each_item_once.Goals as goal

pub returns : goal.returns
returns g c = rings_distinct g.row.H.Denot
