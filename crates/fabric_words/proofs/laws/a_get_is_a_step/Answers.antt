use Rattle.fabric_words.proofs.RingSteps.{get_step}
use Rattle.fabric_words.proofs.laws.a_get_is_a_step.Goals as goal

pub returns : goal.returns
returns c = get_step
