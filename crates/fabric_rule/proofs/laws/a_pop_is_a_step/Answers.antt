use Rattle.fabric_rule.proofs.PopSteps.{pop}
use Rattle.fabric_rule.proofs.laws.a_pop_is_a_step.Goals as goal

pub returns : goal.returns
returns g c = pop g.row.H.Denot
