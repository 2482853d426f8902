use Rattle.std.proofs.Common.{◌*◌, ◌<◌, length, arith}
use Rattle.std.specs.Arc.{arc_value}
use Rattle.request_context.specs.Parcels.{PiecesValue, answers_of}
use Rattle.request_context.specs.Parts.{part_size}
use Rattle.request_context.proofs.Cuts.{begins_within}
use Rattle.request_context.proofs.Lists.{one_more_seen}
use Rattle.request_context.proofs.answering.all_parts.Goals as goal

pub stretch-of_part-requires : goal.stretch-of_part-requires
stretch-of_part-requires g c =
    let within : part_size * c.loop-part.part < length c.args.bytes.now = begins_within part_size c.args.bytes.now c.loop-part.part (omega arith) (omega (arith, c.count_stretches-count.ensures, c.loop-part-test.true)) in
    omega (arith, within)

pub loop-part-preserved : goal.loop-part-preserved
loop-part-preserved g c =
    one_more_seen (λ (p : PiecesValue g.row.H.Denot). p.parcels) (answers_of {H = g.row.H.Denot} g.H.Handlers.reply_of (arc_value c.args.asked.now)) c.loop-part.part c.loop-part.rest.items _ _
    c.loop-part.invariant c.in_ok-part_pieces.ensures c.in_ok-push_back.ensures.items
