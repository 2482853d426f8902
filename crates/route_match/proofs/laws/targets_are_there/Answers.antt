use Rattle.route_match.proofs.ThereLemmas.{target_there}
use Rattle.route_match.proofs.laws.targets_are_there.Goals as goal

pub returns : goal.returns
returns c = target_there
