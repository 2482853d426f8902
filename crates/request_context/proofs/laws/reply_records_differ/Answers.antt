use Rattle.unit_types.specs.Record.{reply_record}
use Rattle.request_context.specs.Reading.{reply_at}
use Rattle.request_context.specs.Record.{HasReplyRecord}
use Rattle.request_context.proofs.Records.{reply_read, is_apart}
use Rattle.request_context.proofs.laws.reply_records_differ.Goals as goal

pub returns : goal.returns
returns c = is_apart reply_at reply_record HasReplyRecord reply_read
