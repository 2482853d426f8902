use Rattle.fabric_rule.proofs.DrawSteps.{draw}
use Rattle.fabric_rule.proofs.laws.a_draw_is_a_step.Goals as goal

pub returns : goal.returns
returns g c = draw g.row.H.Denot
