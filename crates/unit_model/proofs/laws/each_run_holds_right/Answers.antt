use Rattle.unit_model.proofs.HeldSteps.{steps_hold_right}
use Rattle.unit_model.proofs.laws.each_run_holds_right.Goals as goal

pub returns : goal.returns
returns c = steps_hold_right
