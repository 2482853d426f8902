use Rattle.fabric_words.proofs.ItemSteps.{arm_step}
use Rattle.fabric_words.proofs.laws.an_arm_is_a_step.Goals as goal

pub returns : goal.returns
returns c = arm_step
