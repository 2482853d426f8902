use Rattle.unit_model.proofs.SoundRuns.{sound_at_first}
use Rattle.unit_model.proofs.laws.a_core_begins_sound.Goals as goal

pub returns : goal.returns
returns c shape valid = sound_at_first shape valid
