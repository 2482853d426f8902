use Rattle.app_queue.proofs.KnownFrames.{tags_known_won}
use Rattle.app_queue.proofs.TagFrames.{tags_won}
use Rattle.app_queue.proofs.laws.tags_are_won.Goals as goal

pub returns-clause-counted : goal.returns-clause-counted
returns-clause-counted g c = tags_won g.row.V.Denot

pub returns-clause-known : goal.returns-clause-known
returns-clause-known g c = tags_known_won g.row.V.Denot g.J.Saying.says
