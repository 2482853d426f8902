use Rattle.conf_validate.specs.Current.{numbered}
use Rattle.conn_machine.proofs.AfterLemmas.{after_rises}
use Rattle.conn_machine.proofs.machine_tests.send_later.Goals as goal

pub send-requires-clause-after : goal.send-requires-clause-after
send-requires-clause-after c =
    after_rises c.args.machine.now.met (numbered c.args.earlier.now) (numbered c.args.conf.now) c.requires.after c.requires.rises
