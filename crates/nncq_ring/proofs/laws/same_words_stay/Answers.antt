use Rattle.nncq_ring.proofs.Staying.{ring_stays}
use Rattle.nncq_ring.proofs.laws.same_words_stay.Goals as goal

pub returns : goal.returns
returns c n w w' fine same = ring_stays n w w' fine same
