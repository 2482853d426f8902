use Rattle.fabric_rule.proofs.CoreIs.{core_is}
use Rattle.fabric_rule.proofs.laws.the_core_is_that_of_words_and_views.Goals as goal

pub returns : goal.returns
returns g c = core_is g.row.H.Denot
