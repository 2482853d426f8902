use Rattle.conf_validate.specs.Current.{numbered}
use Rattle.conn_bench.proofs.Afters.{after_itself, after_none}
use Rattle.conn_bench.proofs.connections.served.Goals as goal

-- src/connections.rt:93:5
pub loop-init : goal.loop-init
loop-init c =
    let now = numbered c.args.conf.now in
    c.on_bytes.ensures.after now (after_none c.in_ok-machine.machine.met now c.in_ok-machine.ensures.met) (after_itself now)
