use Rattle.app_queue.proofs.KnownFrames.{tags_known_split, tags_known_join}
use Rattle.app_queue.proofs.seat_laws.known_tags_stay_with_seats.Goals as goal

pub returns-clause-split : goal.returns-clause-split
returns-clause-split g c = tags_known_split g.row.V.Denot g.J.Saying.says

pub returns-clause-join : goal.returns-clause-join
returns-clause-join g c = tags_known_join g.row.V.Denot g.J.Saying.says
