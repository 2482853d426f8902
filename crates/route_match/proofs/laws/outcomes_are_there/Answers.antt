use Rattle.route_match.proofs.ThereLemmas.{outcome_there}
use Rattle.route_match.proofs.laws.outcomes_are_there.Goals as goal

pub returns : goal.returns
returns c = outcome_there
