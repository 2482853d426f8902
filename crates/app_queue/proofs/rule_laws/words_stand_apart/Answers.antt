use Rattle.app_queue.proofs.Places.{is_layout}
use Rattle.app_queue.proofs.rule_laws.words_stand_apart.Goals as goal

pub returns : goal.returns
returns c n = is_layout n
