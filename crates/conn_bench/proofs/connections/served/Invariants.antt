use Rattle.conf_validate.specs.Current.{numbered}
use Rattle.conn_machine.specs.Shows.{IsAfter}
use Rattle.conn_bench.proofs.connections.served.Given as goal

abbrev pub invariant-loop : goal.invariant-loop
invariant-loop l = IsAfter l.machine.met (numbered l.fn.conf)
