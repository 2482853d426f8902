use Rattle.nncq_ring.proofs.Noting.{notes_stay}
use Rattle.nncq_ring.proofs.laws.notes_stay_true.Goals as goal

pub returns : goal.returns
returns c n w w' log later noted = notes_stay n w w' log later noted
