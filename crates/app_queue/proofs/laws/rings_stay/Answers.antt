use Rattle.app_queue.proofs.RingFrames.{rings_stay}
use Rattle.app_queue.proofs.laws.rings_stay.Goals as goal

pub returns : goal.returns
returns g c = rings_stay g.row.V.Denot
