use Rattle.unit_model.proofs.SoundRuns.{keeps_sound}
use Rattle.unit_model.proofs.laws.a_step_stays_sound.Goals as goal

pub returns : goal.returns
returns c core step old met = keeps_sound core step old met
