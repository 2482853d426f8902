use Rattle.fabric_rule.proofs.Helping.{help}
use Rattle.fabric_rule.proofs.laws.a_helped_tail_is_no_step.Goals as goal

pub returns : goal.returns
returns g c = help g.row.H.Denot
