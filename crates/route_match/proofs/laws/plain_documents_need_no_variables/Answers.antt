use Rattle.std.proofs.Common.{ap}
use Rattle.conf_validate.specs.Configuration.{configuration_of}
use Rattle.route_match.proofs.LocationLemmas.{plain_locations, same_location}
use Rattle.route_match.proofs.PlainLawLemmas.{plain_passes, same_outcome}
use Rattle.route_match.proofs.laws.plain_documents_need_no_variables.Goals as goal

pub returns : goal.returns
returns c = record {
  target = λ document listener request plain. ap (λ outcome. outcome.target) (same_outcome (configuration_of document) listener request (plain_passes document plain));
  step = λ document listener request plain. ap (λ outcome. outcome.step) (same_outcome (configuration_of document) listener request (plain_passes document plain));
  location = λ document step request plain. same_location (configuration_of document) step request (plain_locations document plain);
}
