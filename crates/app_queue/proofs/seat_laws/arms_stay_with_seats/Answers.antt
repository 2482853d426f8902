use Rattle.app_queue.proofs.ArmSeats.{placed_split, placed_join}
use Rattle.app_queue.proofs.seat_laws.arms_stay_with_seats.Goals as goal

pub returns-clause-split : goal.returns-clause-split
returns-clause-split g c = placed_split g.row.V.Denot g.J.Getting.got

pub returns-clause-join : goal.returns-clause-join
returns-clause-join g c = placed_join g.row.V.Denot g.J.Getting.got
