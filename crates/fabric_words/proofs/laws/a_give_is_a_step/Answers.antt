use Rattle.fabric_words.proofs.RingSteps.{give_step}
use Rattle.fabric_words.proofs.laws.a_give_is_a_step.Goals as goal

pub returns : goal.returns
returns c = give_step
