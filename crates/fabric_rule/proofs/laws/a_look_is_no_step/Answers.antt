use Rattle.fabric_rule.proofs.LookSteps.{look}
use Rattle.fabric_rule.proofs.laws.a_look_is_no_step.Goals as goal

pub returns : goal.returns
returns g c = look g.row.H.Denot
