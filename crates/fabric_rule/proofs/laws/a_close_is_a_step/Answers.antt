use Rattle.fabric_rule.proofs.CloseSteps.{close}
use Rattle.fabric_rule.proofs.laws.a_close_is_a_step.Goals as goal

pub returns : goal.returns
returns g c = close g.row.H.Denot
