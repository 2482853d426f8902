use Rattle.app_queue.proofs.TagFrames.{tags_counted}
use Rattle.app_queue.proofs.laws.tags_stay_counted.Goals as goal

pub returns : goal.returns
returns g c = tags_counted g.row.V.Denot
