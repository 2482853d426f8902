use Rattle.header_rewrite.proofs.PlainLemmas.{reply_stays, request_stays}
use Rattle.header_rewrite.proofs.laws.steps_that_change_nothing_leave_all.Goals as goal

pub returns : goal.returns
returns c = record { request = request_stays; reply = reply_stays }
