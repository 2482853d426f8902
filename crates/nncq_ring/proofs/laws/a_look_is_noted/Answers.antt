use Rattle.nncq_ring.proofs.Noting.{look_noted}
use Rattle.nncq_ring.proofs.laws.a_look_is_noted.Goals as goal

pub returns : goal.returns
returns c n place w fine = look_noted n place w fine
