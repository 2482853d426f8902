use Rattle.std.proofs.Common.{arith}
use Rattle.request_context.specs.Parts.{part_size}
use Rattle.request_context.proofs.Cuts.{is_cut}
use Rattle.request_context.proofs.laws.parts_join.Goals as goal

pub returns : goal.returns
returns c = λ bytes. is_cut part_size bytes (omega arith)
