use Rattle.app_queue.proofs.HistoryFrames.{histories_split, histories_join}
use Rattle.app_queue.proofs.seat_laws.histories_stay_with_seats.Goals as goal

pub returns-clause-split : goal.returns-clause-split
returns-clause-split g c = histories_split g.row.V.Denot

pub returns-clause-join : goal.returns-clause-join
returns-clause-join g c = histories_join g.row.V.Denot
