use Rattle.fabric_rule.proofs.ReceiveSteps.{receive}
use Rattle.fabric_rule.proofs.laws.a_received_part_is_a_step.Goals as goal

pub returns : goal.returns
returns g c = receive g.row.H.Denot
