use Rattle.std.proofs.Common.{◌≡◌, ◌≤◌, ◌+◌, map}
use Rattle.std.specs.Arc.{arc_value}
use Rattle.std.specs.List.{range_with_len}
use Rattle.request_context.specs.Parcels.{answer_of}
use Rattle.request_context.proofs.answering.part_pieces.Given as goal

abbrev pub invariant-loop-index : goal.invariant-loop-index
invariant-loop-index g l = record {
  parcels : l.pieces.parcels ≡ map (answer_of g.H.Handlers.reply_of (arc_value l.asked) l.part) (range_with_len 0 l.index);
  spare : l.count ≤ l.index + l.pieces.spare;
}
