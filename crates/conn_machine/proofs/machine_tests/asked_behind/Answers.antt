use Rattle.conf_validate.specs.Current.{numbered}
use Rattle.conn_machine.proofs.GrowsLemmas.{after_self}
use Rattle.conn_machine.proofs.machine_tests.asked_behind.Goals as goal

pub loop-piece-preserved : goal.loop-piece-preserved
loop-piece-preserved c =
    let now = numbered c.args.conf.now in
    record {
      after = c.on_bytes.ensures.after now c.loop-piece.invariant.after (after_self now);
      ended = c.on_bytes.ensures.ended;
      given_up = c.on_bytes.ensures.given_up;
    }
