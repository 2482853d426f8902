use Rattle.fabric_words.proofs.ItemSteps.{set_part_step}
use Rattle.fabric_words.proofs.laws.a_part_is_a_step.Goals as goal

pub returns : goal.returns
returns c = set_part_step
