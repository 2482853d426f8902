use Rattle.app_queue.proofs.RingFrames.{rings_step}
use Rattle.app_queue.proofs.laws.a_rings_step_leaves_the_others.Goals as goal

pub returns : goal.returns
returns g c = rings_step g.row.V.Denot
