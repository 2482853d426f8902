use Rattle.app_queue.proofs.RingFrames.{rings_split, rings_join}
use Rattle.app_queue.proofs.seat_laws.rings_stay_with_seats.Goals as goal

pub returns-clause-split : goal.returns-clause-split
returns-clause-split g c = rings_split g.row.V.Denot

pub returns-clause-join : goal.returns-clause-join
returns-clause-join g c = rings_join g.row.V.Denot
