use Rattle.fabric_rule.proofs.ClaimSteps.{claim}
use Rattle.fabric_rule.proofs.ReleaseSteps.{release}
use Rattle.fabric_rule.proofs.laws.a_bit_is_a_step.Goals as goal

pub returns-clause-claim : goal.returns-clause-claim
returns-clause-claim g c = claim g.row.H.Denot

pub returns-clause-release : goal.returns-clause-release
returns-clause-release g c = release g.row.H.Denot
