use Rattle.app_queue.proofs.ItemFrames.{items_split, items_join}
use Rattle.app_queue.proofs.seat_laws.items_stay_with_seats.Goals as goal

pub returns-clause-split : goal.returns-clause-split
returns-clause-split g c = items_split g.row.V.Denot

pub returns-clause-join : goal.returns-clause-join
returns-clause-join g c = items_join g.row.V.Denot
