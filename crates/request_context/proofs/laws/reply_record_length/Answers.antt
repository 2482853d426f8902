use Rattle.request_context.proofs.Lengths.{reply_length}
use Rattle.request_context.proofs.laws.reply_record_length.Goals as goal

pub returns : goal.returns
returns c = reply_length
