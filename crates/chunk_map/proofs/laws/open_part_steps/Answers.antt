use Rattle.chunk_map.proofs.OpenSegments.{open_steps}
use Rattle.chunk_map.proofs.laws.open_part_steps.Goals as goal

pub returns : goal.returns
returns c segments opened opened' word word' views k u = open_steps segments (λ v. v) opened opened' word word' views k u
