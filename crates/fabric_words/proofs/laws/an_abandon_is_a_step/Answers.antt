use Rattle.fabric_words.proofs.OtherSteps.{abandon_step}
use Rattle.fabric_words.proofs.laws.an_abandon_is_a_step.Goals as goal

pub returns : goal.returns
returns c = abandon_step
