use Rattle.fabric_words.proofs.OtherSteps.{release_step}
use Rattle.fabric_words.proofs.laws.a_release_is_a_step.Goals as goal

pub returns : goal.returns
returns c = release_step
