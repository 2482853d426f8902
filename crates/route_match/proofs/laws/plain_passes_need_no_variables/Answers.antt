use Rattle.std.proofs.Common.{ap}
use Rattle.route_match.proofs.PlainLawLemmas.{same_outcome}
use Rattle.route_match.proofs.laws.plain_passes_need_no_variables.Goals as goal

pub returns : goal.returns
returns c = record {
  target = λ conf listener request plain. ap (λ outcome. outcome.target) (same_outcome conf listener request plain);
  step = λ conf listener request plain. ap (λ outcome. outcome.step) (same_outcome conf listener request plain);
}
