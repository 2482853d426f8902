use Rattle.plain_fabric.proofs.Visits.{answered}
use Rattle.plain_fabric.proofs.laws.a_request_is_answered_from_rest_to_rest.Goals as goal

pub returns : goal.returns
returns c = answered
