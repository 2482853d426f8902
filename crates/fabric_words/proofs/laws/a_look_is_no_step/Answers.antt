use Rattle.fabric_words.proofs.OtherSteps.{stay_step}
use Rattle.fabric_words.proofs.laws.a_look_is_no_step.Goals as goal

pub returns : goal.returns
returns c = stay_step
