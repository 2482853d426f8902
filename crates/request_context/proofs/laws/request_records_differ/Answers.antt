use Rattle.request_context.specs.Reading.{asked_at}
use Rattle.request_context.specs.Record.{request_record, HasRecord}
use Rattle.request_context.proofs.Records.{asked_read, is_apart}
use Rattle.request_context.proofs.laws.request_records_differ.Goals as goal

pub returns : goal.returns
returns c = is_apart asked_at request_record HasRecord asked_read
