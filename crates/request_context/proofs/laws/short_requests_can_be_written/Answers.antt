use Rattle.request_context.proofs.Fits.{is_recordable_request}
use Rattle.request_context.proofs.laws.short_requests_can_be_written.Goals as goal

pub returns : goal.returns
returns c = is_recordable_request
