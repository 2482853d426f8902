use Rattle.fabric_words.proofs.ItemSteps.{arm_gives_run, settle_gives_run}
use Rattle.fabric_words.proofs.laws.runs_change_hands.Goals as goal

pub returns-clause-arm : goal.returns-clause-arm
returns-clause-arm c = arm_gives_run

pub returns-clause-settle : goal.returns-clause-settle
returns-clause-settle c = settle_gives_run
