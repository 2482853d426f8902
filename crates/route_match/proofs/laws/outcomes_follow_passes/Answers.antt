use Rattle.route_match.proofs.PassLemmas.{one_end, outcome_ends}
use Rattle.route_match.proofs.laws.outcomes_follow_passes.Goals as goal

pub returns : goal.returns
returns c = record { is = outcome_ends; one = one_end }
