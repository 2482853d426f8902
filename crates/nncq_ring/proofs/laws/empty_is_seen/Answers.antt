use Rattle.nncq_ring.proofs.Noting.{empty_seen}
use Rattle.nncq_ring.proofs.laws.empty_is_seen.Goals as goal

pub returns : goal.returns
returns c n h w fine seen before = empty_seen n h w fine seen before
