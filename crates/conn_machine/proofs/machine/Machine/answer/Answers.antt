use Rattle.std.proofs.Common.{◌∙◌, sym, ap, subst, false, IfOk, Option, None}
use Rattle.unit_types.specs.declared.message.Reply.{Reply}
use Rattle.http_front.specs.declared.next_unit.Next.{Next}
use Rattle.conn_machine.specs.Answers.{Connection}
use Rattle.conn_machine.specs.Calls.{Account}
use Rattle.conn_machine.specs.declared.receipt.Kind.TheVariants.{Cut, Own}
use Rattle.conn_machine.specs.Settling.{Grows, IsAnswered, IsFound, replied_in}
use Rattle.conn_machine.specs.Shows.{Held, ended_with, number_or}
use Rattle.conn_machine.specs.States.{Numbered}
use Rattle.conn_machine.specs.Turns.{receipt_of}
use Rattle.conn_machine.proofs.AnsweredLemmas.{answered_bad, answered_cut, answered_none}
use Rattle.conn_machine.proofs.BackLemmas.{grows_same}
use Rattle.conn_machine.proofs.GrowsLemmas.{grows_ended}
use Rattle.conn_machine.proofs.machine.Machine.answer.Goals as goal

pub returns-in-Request-clause-ok : goal.returns-in-Request-clause-ok
returns-in-Request-clause-ok g c =
    subst (λ (next : Next). IfOk c.serve.result (λ goes. (connection : Connection) (bound : Numbered) (a : Account)
    → IsFound g.H.Handlers.reply_of connection bound a next c.args.self.now → IsAnswered g.H.Handlers.reply_of connection bound a goes c.serve.new.self))
    (sym c.in-Request.is) c.serve.ensures.ok

pub returns-in_err-refusal-in-Bad-clause-grows : goal.returns-in_err-refusal-in-Bad-clause-grows
returns-in_err-refusal-in-Bad-clause-grows g c = grows_same c.args.self.now

pub returns-in_ok-reply-in-Bad-clause-ok : goal.returns-in_ok-reply-in-Bad-clause-ok
returns-in_ok-reply-in-Bad-clause-ok g c connection bound a found =
    let old = c.args.self.now in
    let way = ap (λ s. s.bound) (sym found.carries.state) ∙ found.way in
    subst (λ (held : Held). IsAnswered g.H.Handlers.reply_of connection bound a false held)
    (sym (c.in_ok-reply-in-Bad.ensures.ok bound way
    ∙ ap (λ (r : Reply). replied_in bound (receipt_of bound.0 0 Own) None r old) c.in_ok-refusal-in-Bad.ensures))
    (answered_bad g.H.Handlers.reply_of connection bound a old c.args.next found c.in-Bad.status c.in-Bad.is)

pub returns-in-Cut-clause-ok : goal.returns-in-Cut-clause-ok
returns-in-Cut-clause-ok g c connection bound a found =
    let old = c.args.self.now in
    let way = ap (λ s. s.bound) (sym found.carries.state) ∙ found.way in
    subst (λ (held : Held). IsAnswered g.H.Handlers.reply_of connection bound a false held)
    (sym (c.end_with.ensures ∙ (λ i. ended_with ((c.number_or-number.ensures ∙ ap (λ (o : Option Numbered). number_or o 0) way) i) 0 Cut old)))
    (answered_cut g.H.Handlers.reply_of connection bound a old c.args.next found c.in-Cut.is)

pub returns-in_default-clause-ok : goal.returns-in_default-clause-ok
returns-in_default-clause-ok g c connection bound a found =
    answered_none g.H.Handlers.reply_of connection bound a c.args.self.now c.args.next found
    c.in_default.not-Request c.in_default.not-Bad c.in_default.not-Cut c.requires.none

pub returns-in-Cut-clause-grows : goal.returns-in-Cut-clause-grows
returns-in-Cut-clause-grows g c =
    subst (λ (held : Held). Grows c.args.self.now held) (sym c.end_with.ensures) (grows_ended c.args.self.now c.number_or-number.result 0 Cut)

pub returns-in_default-clause-grows : goal.returns-in_default-clause-grows
returns-in_default-clause-grows g c = grows_same c.args.self.now
