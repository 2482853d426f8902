use Rattle.fabric_words.proofs.RingSteps.{push_step}
use Rattle.fabric_words.proofs.laws.a_push_is_a_step.Goals as goal

pub returns : goal.returns
returns c = push_step
