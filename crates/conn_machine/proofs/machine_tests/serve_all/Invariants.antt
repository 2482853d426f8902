use Rattle.std.proofs.Common.{◌≡◌}
use Rattle.conf_validate.specs.Current.{numbered}
use Rattle.conn_machine.specs.Shows.{IsAfter}
use Rattle.conn_machine.proofs.machine_tests.serve_all.Given as goal

abbrev pub invariant-loop : goal.invariant-loop
invariant-loop l = record {
  after : IsAfter l.machine.met (numbered l.fn.conf);
  ended : l.machine.ended ≡ l.initial.machine.ended;
  given_up : l.machine.given_up ≡ l.initial.machine.given_up;
}
