use Rattle.fabric_words.proofs.RingSteps.{help_step}
use Rattle.fabric_words.proofs.laws.a_helped_tail_is_no_step.Goals as goal

pub returns : goal.returns
returns c = help_step
