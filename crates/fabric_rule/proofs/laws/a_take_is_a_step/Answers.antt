use Rattle.fabric_rule.proofs.TakeSteps.{take}
use Rattle.fabric_rule.proofs.laws.a_take_is_a_step.Goals as goal

pub returns : goal.returns
returns g c = take g.row.H.Denot
