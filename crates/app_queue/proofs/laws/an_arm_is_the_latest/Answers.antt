use Rattle.app_queue.proofs.ArmFrames.{placed_arm}
use Rattle.app_queue.proofs.laws.an_arm_is_the_latest.Goals as goal

pub returns : goal.returns
returns g c = placed_arm g.row.V.Denot g.J.Getting.got
