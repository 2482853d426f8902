use Rattle.app_queue.proofs.ArmFrames.{placed_get}
use Rattle.app_queue.proofs.laws.an_item_got_is_fresh.Goals as goal

pub returns : goal.returns
returns g c = placed_get g.row.V.Denot g.J.Getting.got
