use Rattle.fabric_words.proofs.OtherSteps.{open_step}
use Rattle.fabric_words.proofs.laws.an_opening_is_a_step.Goals as goal

pub returns : goal.returns
returns c = open_step
