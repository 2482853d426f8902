use Rattle.unit_model.proofs.HeldSteps.{step_holds_right}
use Rattle.unit_model.proofs.laws.each_step_holds_right.Goals as goal

pub returns : goal.returns
returns c = step_holds_right
