use Rattle.std.proofs.Common.{arith}
use Rattle.unit_model.proofs.runs.no_longer_run.Goals as goal

pub returns : goal.returns
returns c = λ seen n m le none segment first there fits free. none segment first there (omega arith) (λ i lt. free i (omega arith))
