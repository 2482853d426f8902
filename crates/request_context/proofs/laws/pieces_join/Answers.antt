use Rattle.std.proofs.Common.{arith}
use Rattle.request_context.specs.Parts.{piece_size}
use Rattle.request_context.proofs.Cuts.{is_cut}
use Rattle.request_context.proofs.laws.pieces_join.Goals as goal

pub returns : goal.returns
returns c = λ bytes. is_cut piece_size bytes (omega arith)
