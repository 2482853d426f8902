use Rattle.app_queue.proofs.ArmFrames.{placed_stay}
use Rattle.app_queue.proofs.laws.arms_stay_placed.Goals as goal

pub returns : goal.returns
returns g c = placed_stay g.row.V.Denot g.J.Getting.got
