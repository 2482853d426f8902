use Rattle.carried_slots.proofs.RunMoving.{run_gathered}
use Rattle.carried_slots.proofs.laws.a_run_is_gathered.Goals as goal

pub returns : goal.returns
returns g c = run_gathered
