use Rattle.request_context.proofs.Lengths.{request_length}
use Rattle.request_context.proofs.laws.request_record_length.Goals as goal

pub returns : goal.returns
returns c = request_length
