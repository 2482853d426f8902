use Rattle.route_match.proofs.LocationLemmas.{same_location}
use Rattle.route_match.proofs.laws.plain_locations_stay.Goals as goal

pub returns : goal.returns
returns c = same_location
