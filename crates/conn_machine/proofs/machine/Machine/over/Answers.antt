use Rattle.std.proofs.Common.{sym, ap, subst, Option}
use Rattle.conf_validate.specs.Current.{numbered}
use Rattle.conn_machine.specs.Answers.{Connection}
use Rattle.conn_machine.specs.Calls.{Account, opened}
use Rattle.conn_machine.specs.Shows.{Held, IsAfter, Stands, connection_of}
use Rattle.conn_machine.specs.States.{Numbered}
use Rattle.conn_machine.specs.Steps.{fed, with_bytes}
use Rattle.conn_machine.proofs.EndedLemmas.{over_stands}
use Rattle.conn_machine.proofs.machine.Machine.over.Goals as goal

-- before its first request it has no configuration
pub settle-requires : goal.settle-requires
settle-requires g c =
    subst (λ (o : Option Numbered). IsAfter o (numbered c.args.conf.now)) (sym (ap (λ (m : Held). m.met) c.in_ok-machine.ensures)) (λ m some. absurd (cc some))

pub returns-clause-after : goal.returns-clause-after
returns-clause-after g c next now =
    c.settle.ensures.after next (subst (λ (o : Option Numbered). IsAfter o next) (sym (ap (λ (m : Held). m.met) c.in_ok-machine.ensures)) (λ m some. absurd (cc some))) now

pub returns-clause-shows : goal.returns-clause-shows
returns-clause-shows g c =
    let connection : Connection = connection_of c.args.listener c.args.from c.args.to g.H.Handlers.reply_of in
    let account : Account = record { told = with_bytes c.args.bytes opened.told; state = fed opened.state c.args.bytes } in
    c.in_ok-settle.ensures.ok connection account
    (subst (λ (m : Held). Stands g.H.Handlers.reply_of connection account m) (sym c.in_ok-machine.ensures)
    (over_stands g.H.Handlers.reply_of c.args.listener c.args.from c.args.to c.args.bytes c.over-reader.result c.over-reader.ensures.read))
