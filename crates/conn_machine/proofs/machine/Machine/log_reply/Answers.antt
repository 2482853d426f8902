use Rattle.conn_machine.proofs.GrowsLemmas.{grows_lines}
use Rattle.conn_machine.proofs.machine.Machine.log_reply.Goals as goal

pub returns-in_ok-line-clause-grows : goal.returns-in_ok-line-clause-grows
returns-in_ok-line-clause-grows g c = rw (← c.self.view_is, c.in_ok-line.ensures.ok) (grows_lines _ _)
