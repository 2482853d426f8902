use Rattle.std.proofs.Common.{arith}
use Rattle.std.specs.Arc.{arc_value}
use Rattle.request_context.specs.Parcels.{answer_of}
use Rattle.request_context.proofs.Fits.{few_pieces}
use Rattle.request_context.proofs.Lists.{one_more}
use Rattle.request_context.proofs.answering.part_pieces.Goals as goal

pub overflow_cast-count : goal.overflow_cast-count
overflow_cast-count g c = omega (arith, few_pieces c.args.bytes.now c.requires.short, c.count_stretches-count.ensures)

pub loop-index-preserved : goal.loop-index-preserved
loop-index-preserved g c = record {
  parcels = one_more (answer_of {H = g.row.H.Denot} g.H.Handlers.reply_of (arc_value c.args.asked.now) c.args.part) c.loop-index.index c.loop-index.pieces.parcels _ _ c.loop-index.invariant.parcels c.in_ok-answer_piece.ensures c.push.ensures.parcels;
  spare = omega (arith, c.loop-index.invariant.spare, c.push.ensures.spare);
}
