use Rattle.carried_slots.proofs.RunMoving.{right_gathered}
use Rattle.carried_slots.proofs.laws.what_is_gathered_is_right.Goals as goal

pub returns : goal.returns
returns g c = right_gathered g.J.RightValues.right
