use Rattle.unit_model.proofs.HeldOpening.{opened_holds_right}
use Rattle.unit_model.proofs.laws.all_is_held_right_at_first.Goals as goal

pub returns : goal.returns
returns c = opened_holds_right
