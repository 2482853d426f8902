use Rattle.fabric_words.proofs.RingSteps.{pop_step}
use Rattle.fabric_words.proofs.laws.a_pop_is_a_step.Goals as goal

pub returns : goal.returns
returns c = pop_step
