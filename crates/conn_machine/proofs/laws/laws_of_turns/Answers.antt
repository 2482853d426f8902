use Rattle.conn_machine.proofs.NamedTurns.{app_is, own_is, busy_is, late_is, refusal_is, cut_is, gone_is, memory_is, same_is}
use Rattle.conn_machine.proofs.laws.laws_of_turns.Goals as goal

pub returns-clause-app : goal.returns-clause-app
returns-clause-app c connection conf number stream m used asks drawn = app_is connection conf number stream m used asks drawn

pub returns-clause-own : goal.returns-clause-own
returns-clause-own c connection conf number m used asks = own_is connection conf number 0 m used asks

pub returns-clause-refusal : goal.returns-clause-refusal
returns-clause-refusal c connection conf number status = refusal_is connection conf number status

pub returns-clause-busy : goal.returns-clause-busy
returns-clause-busy c connection conf number stream m used cause asks why_is = busy_is connection conf number stream m used cause asks why_is

pub returns-clause-late : goal.returns-clause-late
returns-clause-late c connection conf number stream m used seconds deadline now has drawn past =
    late_is connection conf number stream m used seconds deadline now has drawn past

pub returns-clause-cut : goal.returns-clause-cut
returns-clause-cut c connection conf number = cut_is connection conf number

pub returns-clause-gone : goal.returns-clause-gone
returns-clause-gone c connection conf number stream found = gone_is connection conf number stream found

pub returns-clause-memory : goal.returns-clause-memory
returns-clause-memory c connection conf number stream found = memory_is connection conf number stream found

pub returns-clause-same : goal.returns-clause-same
returns-clause-same c a b = same_is a b
