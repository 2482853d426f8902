use Rattle.unit_model.proofs.SoundRuns.{points_of_sound, sound_of_points}
use Rattle.unit_model.proofs.laws.sound_is_each_point.Goals as goal

pub returns : goal.returns
returns c core = (points_of_sound core, sound_of_points core)
