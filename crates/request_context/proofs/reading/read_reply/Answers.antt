use Rattle.std.proofs.Common.{◌≢◌, ◌∙◌, sym, arith, length}
use Rattle.std.proofs.lemmas.Bool.{eqb-true, eqb-false}
use Rattle.unit_types.specs.Record.{reply_record}
use Rattle.request_context.specs.Record.{HasReplyRecord}
use Rattle.request_context.specs.Reading.{reply_at}
use Rattle.request_context.proofs.Records.{reply_read, is_whole, is_longer, is_none}
use Rattle.request_context.proofs.reading.read_reply.Goals as goal

pub returns-then-not-is_empty : goal.returns-then-not-is_empty
returns-then-not-is_empty c =
    let left : length c.in-Ok.rest.now ≢ 0 = eqb-false _ _ (sym c.is_empty.ensures ∙ c.if-not-is_empty.true) in
    is_longer reply_at reply_record HasReplyRecord reply_read c.args.bytes.now c.in-Ok.reply c.in-Ok.rest.now c.in-Ok.ensures (omega (arith, left))

pub returns-else-not-is_empty : goal.returns-else-not-is_empty
returns-else-not-is_empty c =
    is_whole reply_at reply_record HasReplyRecord reply_read c.args.bytes.now c.in-Ok.reply c.in-Ok.rest.now (λ i. omega (arith, c.type_inv.bytes i)) c.in-Ok.ensures (eqb-true _ _ (sym c.is_empty.ensures ∙ c.if-not-is_empty.false))

pub returns-in-Err-NoRecord : goal.returns-in-Err-NoRecord
returns-in-Err-NoRecord c = is_none reply_at reply_record HasReplyRecord reply_read c.args.bytes.now (rw c.in-Err-NoRecord.field-0-is at c.in-Err-NoRecord.ensures)
