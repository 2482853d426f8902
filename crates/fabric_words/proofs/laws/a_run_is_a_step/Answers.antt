use Rattle.fabric_words.proofs.ItemSteps.{set_run_step}
use Rattle.fabric_words.proofs.laws.a_run_is_a_step.Goals as goal

pub returns : goal.returns
returns c = set_run_step
