use Rattle.nncq_ring.proofs.Exchanges.{helped_fine, helped_tail, helped_line}
use Rattle.nncq_ring.proofs.Rising.{helped_later}
use Rattle.nncq_ring.proofs.laws.won_tail_exchange.Goals as goal

pub returns-clause-line : goal.returns-clause-line
returns-clause-line c n w w' fine full sets = (helped_fine n w w' fine full sets, helped_tail n w w' fine full sets, helped_line n w w' fine full sets)

pub returns-clause-later : goal.returns-clause-later
returns-clause-later c n w w' fine full sets = helped_later n w w' fine full sets
