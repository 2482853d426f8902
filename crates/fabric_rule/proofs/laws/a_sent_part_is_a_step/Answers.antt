use Rattle.fabric_rule.proofs.PartPuts.{push_part}
use Rattle.fabric_rule.proofs.SendSteps.{send}
use Rattle.fabric_rule.proofs.laws.a_sent_part_is_a_step.Goals as goal

pub returns-clause-arm : goal.returns-clause-arm
returns-clause-arm g c = send g.row.H.Denot

pub returns-clause-push : goal.returns-clause-push
returns-clause-push g c = push_part g.row.H.Denot
