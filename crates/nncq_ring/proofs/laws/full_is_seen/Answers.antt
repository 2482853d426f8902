use Rattle.nncq_ring.proofs.Noting.{full_seen}
use Rattle.nncq_ring.proofs.laws.full_is_seen.Goals as goal

pub returns : goal.returns
returns c n t w fine has = full_seen n t w fine has
