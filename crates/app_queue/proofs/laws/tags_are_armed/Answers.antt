use Rattle.app_queue.proofs.KnownFrames.{tags_known_set}
use Rattle.app_queue.proofs.TagFrames.{tags_armed}
use Rattle.app_queue.proofs.laws.tags_are_armed.Goals as goal

pub returns-clause-counted : goal.returns-clause-counted
returns-clause-counted g c = tags_armed g.row.V.Denot

pub returns-clause-known : goal.returns-clause-known
returns-clause-known g c = tags_known_set g.row.V.Denot g.J.Saying.says
