use Rattle.carried_slots.proofs.RunMoving.{runs_apart}
use Rattle.carried_slots.proofs.laws.runs_lie_apart.Goals as goal

pub returns : goal.returns
returns g c = runs_apart g.row.S.Denot
