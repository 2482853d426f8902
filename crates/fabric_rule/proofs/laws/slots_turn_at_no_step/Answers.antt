use Rattle.fabric_rule.proofs.BringSteps.{bring}
use Rattle.fabric_rule.proofs.laws.slots_turn_at_no_step.Goals as goal

pub returns : goal.returns
returns g c = bring g.row.H.Denot
