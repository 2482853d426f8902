use Rattle.fabric_words.proofs.OtherSteps.{draw_step}
use Rattle.fabric_words.proofs.laws.a_draw_is_a_step.Goals as goal

pub returns : goal.returns
returns c = draw_step
