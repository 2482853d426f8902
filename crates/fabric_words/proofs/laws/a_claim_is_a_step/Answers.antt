use Rattle.fabric_words.proofs.OtherSteps.{claim_step}
use Rattle.fabric_words.proofs.laws.a_claim_is_a_step.Goals as goal

pub returns : goal.returns
returns c = claim_step
