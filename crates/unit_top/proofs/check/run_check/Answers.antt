use Rattle.unit_io.specs.Status.{status_in}
use Rattle.unit_top.specs.Check.{check_outcome, verdict_status}
use Rattle.unit_top.proofs.EndLemmas.{ends_unread, read_before_fault}
use Rattle.unit_top.proofs.check.run_check.Goals as goal

pub returns-in-Ok-clause-read : goal.returns-in-Ok-clause-read
returns-in-Ok-clause-read g c = λ trace is.
    read_before_fault (verdict_status c.in-Ok.verdict) (status_in c.tell_verdict.result) trace (g.S.Source.left c.judge.new.src) c.tell_verdict.ensures.status (c.in-Ok.ensures.read trace is)

pub returns-in-Err-clause-outcome : goal.returns-in-Err-clause-outcome
returns-in-Err-clause-outcome g c = λ trace is.
    ends_unread (check_outcome trace) c.in-Err.stop (g.K.Sink.written c.args.out.now) c.in-Err.ensures.stops (λ six. c.in-Err.ensures.too_long six trace is)
