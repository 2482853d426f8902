use Rattle.fabric_rule.proofs.OpenSteps.{open_more}
use Rattle.fabric_rule.proofs.laws.an_opening_is_a_step.Goals as goal

pub returns : goal.returns
returns g c = open_more g.row.H.Denot
