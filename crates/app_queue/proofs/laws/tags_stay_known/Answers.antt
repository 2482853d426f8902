use Rattle.app_queue.proofs.KnownFrames.{tags_known, tags_known_one}
use Rattle.app_queue.proofs.laws.tags_stay_known.Goals as goal

pub returns-clause-stay : goal.returns-clause-stay
returns-clause-stay g c = tags_known g.row.V.Denot g.J.Saying.says

pub returns-clause-one : goal.returns-clause-one
returns-clause-one g c = tags_known_one g.row.V.Denot g.J.Saying.says
