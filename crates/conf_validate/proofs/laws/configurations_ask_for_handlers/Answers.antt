use Rattle.conf_validate.proofs.GoalLemmas.{asks_only_for}
use Rattle.conf_validate.proofs.laws.configurations_ask_for_handlers.Goals as goal

pub returns : goal.returns
returns c = asks_only_for
