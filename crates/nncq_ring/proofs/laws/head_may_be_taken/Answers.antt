use Rattle.nncq_ring.proofs.Noting.{may_take}
use Rattle.nncq_ring.proofs.laws.head_may_be_taken.Goals as goal

pub returns : goal.returns
returns c n h x w is has noted = may_take n h x w is has noted
