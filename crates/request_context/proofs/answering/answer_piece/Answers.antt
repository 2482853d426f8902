use Rattle.std.proofs.Common.{◌*◌, ◌<◌, length, arith}
use Rattle.request_context.specs.Parts.{piece_size}
use Rattle.request_context.proofs.Cuts.{begins_within}
use Rattle.request_context.proofs.answering.answer_piece.Goals as goal

pub stretch-requires : goal.stretch-requires
stretch-requires g c =
    let within : piece_size * c.args.index < length c.args.bytes.now = begins_within piece_size c.args.bytes.now c.args.index (omega arith) c.requires.index in
    omega (arith, within)
