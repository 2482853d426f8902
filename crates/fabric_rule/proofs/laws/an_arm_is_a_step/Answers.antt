use Rattle.fabric_rule.proofs.ArmSteps.{arm_line}
use Rattle.fabric_rule.proofs.laws.an_arm_is_a_step.Goals as goal

pub returns : goal.returns
returns g c = arm_line g.row.H.Denot
