use Rattle.conf_validate.specs.Current.{numbered}
use Rattle.conn_machine.proofs.GrowsLemmas.{after_self}
use Rattle.conn_machine.proofs.machine_tests.reply.Goals as goal

pub returns-then-eq-clause-after : goal.returns-then-eq-clause-after
returns-then-eq-clause-after c = let now = numbered c.args.conf.now in c.on_busy.ensures.after now c.requires.after (after_self now)

pub returns-then-is_some-clause-after : goal.returns-then-is_some-clause-after
returns-then-is_some-clause-after c = let now = numbered c.args.conf.now in c.on_late.ensures.after now c.requires.after (after_self now)

pub returns-clause-after : goal.returns-clause-after
returns-clause-after c = let now = numbered c.args.conf.now in c.on_reply.ensures.after now c.requires.after (after_self now)
