use Rattle.nncq_ring.proofs.Exchanges.{tail_at, pushed_fine, pushed_tail, pushed_line}
use Rattle.nncq_ring.proofs.Rising.{pushed_later}
use Rattle.nncq_ring.proofs.laws.won_entry_exchange.Goals as goal

pub returns-clause-line : goal.returns-clause-line
returns-clause-line c n t v w w' fine seen before small room sets =
    let at = tail_at n w t fine seen before in
    (pushed_fine n t v w w' fine seen before small room sets, at.0, at.1, pushed_tail n t v w w' fine seen before small room sets, pushed_line n t v w w' fine seen before small room sets)

pub returns-clause-later : goal.returns-clause-later
returns-clause-later c n t v w w' fine seen before small room sets = pushed_later n t v w w' fine seen before small room sets
