use Rattle.conf_validate.proofs.GoalLemmas.{passes_have_goals}
use Rattle.conf_validate.proofs.laws.passes_have_goals.Goals as goal

pub returns : goal.returns
returns c = passes_have_goals
