use Rattle.unit_model.proofs.HeldSound.{sound_from_held, names_from_held, held_from_sound}
use Rattle.unit_model.proofs.laws.held_right_is_each_point.Goals as goal

pub returns : goal.returns
returns c = λ core. ((λ held. (sound_from_held core held, names_from_held core held, held.streams)), (λ all. held_from_sound core all.0 all.1 all.2))
