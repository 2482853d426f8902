use Rattle.std.proofs.Common.{sym, subst, false, Some}
use Rattle.conn_machine.specs.Settling.{Grows, IsAnswered}
use Rattle.conn_machine.specs.Shows.{Held}
use Rattle.conn_machine.proofs.AnsweredLemmas.{none_goes, served_later, served_own}
use Rattle.conn_machine.proofs.BackLemmas.{grows_same}
use Rattle.conn_machine.proofs.GrowsLemmas.{grows_pending}
use Rattle.conn_machine.proofs.machine.Machine.serve.Goals as goal

pub pending_for-requires-clause-goes : goal.pending_for-requires-clause-goes
pending_for-requires-clause-goes g c =
    none_goes c.args.self.now c.in_ok-outcome.outcome c.in_ok-outcome.own c.args.request c.in_ok-outcome.ensures.reply c.requires.way c.in-None.is

pub returns-in_ok-reply-in-Some-clause-ok : goal.returns-in_ok-reply-in-Some-clause-ok
returns-in_ok-reply-in-Some-clause-ok g c connection bound a found =
    served_own c.args.self.now c.in_ok-outcome.outcome c.in_ok-outcome.own c.args.request c.in_ok-outcome.ensures.reply c.in_ok-outcome.ensures.outcome
    g.H.Handlers.reply_of connection bound a found c.in-Some.reply c.reply.new.self c.in-Some.is c.in_ok-reply-in-Some.ensures.ok

pub returns-in_ok-pending-in-None-clause-ok : goal.returns-in_ok-pending-in-None-clause-ok
returns-in_ok-pending-in-None-clause-ok g c connection bound a found =
    subst (λ (m : Held). IsAnswered g.H.Handlers.reply_of connection bound a false (record m { pending = Some c.in_ok-pending-in-None.pending })) (sym c.self.view_is)
    (served_later c.args.self.now c.in_ok-outcome.outcome c.in_ok-outcome.own c.args.request c.in_ok-outcome.ensures.reply c.in_ok-outcome.ensures.outcome
    g.H.Handlers.reply_of connection bound a found c.in_ok-pending-in-None.pending c.in-None.is c.in_ok-pending-in-None.ensures)

pub returns-in_ok-pending-in-None-clause-grows : goal.returns-in_ok-pending-in-None-clause-grows
returns-in_ok-pending-in-None-clause-grows g c =
    subst (λ (m : Held). Grows c.args.self.now (record m { pending = Some c.in_ok-pending-in-None.pending })) (sym c.self.view_is)
    (grows_pending c.args.self.now (Some c.in_ok-pending-in-None.pending))

pub returns-in_err-outcome-clause-grows : goal.returns-in_err-outcome-clause-grows
returns-in_err-outcome-clause-grows g c = grows_same c.args.self.now

pub returns-in_err-pending-in-None-clause-grows : goal.returns-in_err-pending-in-None-clause-grows
returns-in_err-pending-in-None-clause-grows g c = grows_same c.args.self.now
