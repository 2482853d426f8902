use Rattle.std.proofs.Common.{sym, subst, Option}
use Rattle.conn_machine.specs.Shows.{IsAfter}
use Rattle.conn_machine.specs.States.{Numbered}
use Rattle.conn_machine.proofs.machine.Machine.conclude_request.Goals as goal

pub returns-clause-after : goal.returns-clause-after
returns-clause-after g c next old now =
    c.settle.ensures.after next (subst (λ (o : Option Numbered). IsAfter o next) (sym c.in_ok-reply.ensures.met) old) now
