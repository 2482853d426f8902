use Rattle.std.proofs.Common.{◌≡◌, map}
use Rattle.std.specs.Arc.{arc_value}
use Rattle.std.specs.List.{range_with_len}
use Rattle.request_context.specs.Parcels.{PiecesValue, answers_of}
use Rattle.request_context.proofs.answering.all_parts.Given as goal

abbrev pub invariant-loop-part : goal.invariant-loop-part
invariant-loop-part g l = map (λ (p : PiecesValue g.row.H.Denot). p.parcels) l.rest.items ≡ map (answers_of g.H.Handlers.reply_of (arc_value l.asked)) (range_with_len 0 l.part)
