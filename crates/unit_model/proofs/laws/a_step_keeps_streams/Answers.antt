use Rattle.unit_model.proofs.StreamLaw.{keeps}
use Rattle.unit_model.proofs.laws.a_step_keeps_streams.Goals as goal

pub returns : goal.returns
returns c core step old enabled = keeps core step old enabled
