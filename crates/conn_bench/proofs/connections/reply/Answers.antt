use Rattle.conf_validate.specs.Current.{numbered}
use Rattle.conn_bench.proofs.Afters.{after_itself}
use Rattle.conn_bench.proofs.connections.reply.Goals as goal

-- src/connections.rt:116:1
pub returns : goal.returns
returns c = let now = numbered c.args.conf.now in c.on_reply.ensures.after now c.requires.after (after_itself now)
