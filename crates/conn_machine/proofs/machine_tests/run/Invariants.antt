use Rattle.std.proofs.Common.{◌≡◌, false}
use Rattle.conf_validate.specs.Current.{numbered}
use Rattle.conn_machine.specs.Shows.{IsAfter}
use Rattle.conn_machine.proofs.machine_tests.run.Given as goal

abbrev pub invariant-loop-piece : goal.invariant-loop-piece
invariant-loop-piece l = record {
  after : IsAfter l.machine.met (numbered l.fn.conf);
  ended : l.machine.ended ≡ false;
  given_up : l.machine.given_up ≡ false;
}
