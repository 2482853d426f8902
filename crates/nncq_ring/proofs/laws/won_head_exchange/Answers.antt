use Rattle.nncq_ring.proofs.Exchanges.{popped_fine, popped_tail, popped_line}
use Rattle.nncq_ring.proofs.Rising.{popped_later}
use Rattle.nncq_ring.proofs.laws.won_head_exchange.Goals as goal

pub returns-clause-line : goal.returns-clause-line
returns-clause-line c n w w' fine full sets = (popped_fine n w w' fine full sets, popped_tail n w w' fine full sets, popped_line n w w' fine full sets)

pub returns-clause-later : goal.returns-clause-later
returns-clause-later c n w w' fine full sets = popped_later n w w' fine full sets
