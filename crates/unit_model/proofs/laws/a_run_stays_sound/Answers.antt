use Rattle.unit_model.proofs.SoundRuns.{sound_by_all}
use Rattle.unit_model.proofs.laws.a_run_stays_sound.Goals as goal

pub returns : goal.returns
returns c core steps old all = sound_by_all core steps old all
