use Rattle.app_queue.proofs.TagFrames.{counted_splits, counted_joins}
use Rattle.app_queue.proofs.seat_laws.counts_stay_with_seats.Goals as goal

pub returns-clause-split : goal.returns-clause-split
returns-clause-split g c = counted_splits g.row.V.Denot

pub returns-clause-join : goal.returns-clause-join
returns-clause-join g c = counted_joins g.row.V.Denot
