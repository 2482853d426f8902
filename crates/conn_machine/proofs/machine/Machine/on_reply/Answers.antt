use Rattle.std.proofs.lemmas.Result.{on_ok_weaker}
use Rattle.conf_validate.specs.Current.{numbered}
use Rattle.conn_machine.specs.declared.receipt.Kind.TheVariants.{App}
use Rattle.conn_machine.proofs.AskingLemmas.{asked_status}
use Rattle.conn_machine.proofs.ReplyingLemmas.{handler_replied}
use Rattle.conn_machine.proofs.machine.Machine.on_reply.Goals as goal

pub conclude-requires-clause-status : goal.conclude-requires-clause-status
conclude-requires-clause-status g c =
    asked_status g.H.Handlers.reply_of c.args.self.now c.args.reply.now g.met.H.Handlers.replies_fit c.requires.ask c.requires.reply

pub returns-clause-ok : goal.returns-clause-ok
returns-clause-ok g c =
    on_ok_weaker c.conclude.result (λ gives connection a is.
    handler_replied g.H.Handlers.reply_of connection a (numbered c.args.conf.now) c.args.self.now c.conclude.new.self c.args.stream App c.args.reply.now
    is c.requires.ask c.requires.reply (gives connection a is)) c.conclude.ensures.ok
