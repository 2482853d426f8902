use Rattle.fabric_rule.proofs.AbandonSteps.{abandon}
use Rattle.fabric_rule.proofs.CancelSteps.{nothing_received}
use Rattle.fabric_rule.proofs.laws.a_lost_cancel_is_a_step.Goals as goal

pub returns-clause-lost : goal.returns-clause-lost
returns-clause-lost g c = abandon g.row.H.Denot

pub returns-clause-nothing : goal.returns-clause-nothing
returns-clause-nothing g c = nothing_received g.row.H.Denot
