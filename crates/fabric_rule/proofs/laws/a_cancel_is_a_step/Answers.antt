use Rattle.fabric_rule.proofs.CancelSteps.{cancel, unpushed}
use Rattle.fabric_rule.proofs.laws.a_cancel_is_a_step.Goals as goal

pub returns-clause-won : goal.returns-clause-won
returns-clause-won g c = cancel g.row.H.Denot

pub returns-clause-unpushed : goal.returns-clause-unpushed
returns-clause-unpushed g c = unpushed g.row.H.Denot
