use Rattle.fabric_words.proofs.ItemSteps.{settle_step}
use Rattle.fabric_words.proofs.laws.a_settle_is_a_step.Goals as goal

pub returns : goal.returns
returns c = settle_step
