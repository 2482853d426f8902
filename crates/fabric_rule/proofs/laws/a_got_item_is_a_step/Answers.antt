use Rattle.fabric_rule.proofs.GetSteps.{get_item}
use Rattle.fabric_rule.proofs.laws.a_got_item_is_a_step.Goals as goal

pub returns : goal.returns
returns g c = get_item g.row.H.Denot
