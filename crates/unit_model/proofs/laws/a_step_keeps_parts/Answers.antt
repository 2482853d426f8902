use Rattle.unit_model.proofs.PartLaw.{keeps}
use Rattle.unit_model.proofs.laws.a_step_keeps_parts.Goals as goal

pub returns : goal.returns
returns c core step held streams old enabled = keeps core step held streams old enabled
