use Rattle.nncq_ring.proofs.Full.{full_fine, full_starts, full_tail}
use Rattle.nncq_ring.proofs.laws.a_ring_starts_full.Goals as goal

pub returns : goal.returns
returns c n start w pos turned full = (full_fine n start w pos turned full, full_tail n start w pos turned full, full_starts n start w pos turned full)
