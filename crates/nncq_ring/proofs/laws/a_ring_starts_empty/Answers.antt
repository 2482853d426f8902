use Rattle.nncq_ring.proofs.Noting.{starts}
use Rattle.nncq_ring.proofs.laws.a_ring_starts_empty.Goals as goal

pub returns : goal.returns
returns c n w pos turned same filled = starts n w pos turned same filled
