use Rattle.conn_machine.proofs.machine.Machine.on_busy.Goals as goal

pub returns-clause-ok : goal.returns-clause-ok
returns-clause-ok g c = c.conclude.ensures.ok
