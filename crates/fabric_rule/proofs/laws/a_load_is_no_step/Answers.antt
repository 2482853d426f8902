use Rattle.fabric_rule.proofs.Loads.{load}
use Rattle.fabric_rule.proofs.laws.a_load_is_no_step.Goals as goal

pub returns : goal.returns
returns g c = load g.row.H.Denot
