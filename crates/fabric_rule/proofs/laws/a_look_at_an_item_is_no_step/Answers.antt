use Rattle.fabric_rule.proofs.ItemLooks.{look_at_item}
use Rattle.fabric_rule.proofs.laws.a_look_at_an_item_is_no_step.Goals as goal

pub returns : goal.returns
returns g c = look_at_item g.row.H.Denot
