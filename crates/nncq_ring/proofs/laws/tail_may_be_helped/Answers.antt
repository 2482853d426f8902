use Rattle.nncq_ring.proofs.Noting.{may_help}
use Rattle.nncq_ring.proofs.laws.tail_may_be_helped.Goals as goal

pub returns : goal.returns
returns c n t w is above = may_help n t w is above
