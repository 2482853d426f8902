use Rattle.request_context.proofs.Compared.{is_known, is_unknown}
use Rattle.request_context.proofs.comparing.is_record_of.Goals as goal

pub returns-in-Some : goal.returns-in-Some
returns-in-Some c = is_known c.args.asked.now c.args.bytes.now c.in-Some.rest.now c.is_empty.result c.in-Some.ensures c.is_empty.ensures

pub returns-in-None : goal.returns-in-None
returns-in-None c = is_unknown c.args.asked.now c.args.bytes.now (rw c.in-None.is at c.after_asked.ensures)
