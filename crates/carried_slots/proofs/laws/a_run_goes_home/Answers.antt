use Rattle.carried_slots.proofs.RunMoving.{run_given}
use Rattle.carried_slots.proofs.laws.a_run_goes_home.Goals as goal

pub returns : goal.returns
returns g c = run_given
