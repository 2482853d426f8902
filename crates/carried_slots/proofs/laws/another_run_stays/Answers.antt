use Rattle.carried_slots.proofs.RunMoving.{run_stays}
use Rattle.carried_slots.proofs.laws.another_run_stays.Goals as goal

pub returns : goal.returns
returns g c = run_stays g.row.T.Denot
