use Rattle.plain_fabric.proofs.Visits.{hung_up}
use Rattle.plain_fabric.proofs.laws.a_request_is_cancelled_from_rest_to_rest.Goals as goal

pub returns : goal.returns
returns c = hung_up
