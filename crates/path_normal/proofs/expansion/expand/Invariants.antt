use Rattle.std.proofs.Common.{◌≡◌, ◌++◌}
use Rattle.std.specs.List.{flat_map}
use Rattle.path_normal.specs.PiecesLeft.{pieces_left}
use Rattle.path_normal.specs.Variables.{piece_value, variable_value, shown, expansion_with}
use Rattle.path_normal.proofs.expansion.expand.Given as goal

abbrev pub invariant-loop-piece : goal.invariant-loop-piece
invariant-loop-piece l = l.out.items ++ flat_map (piece_value (λ name. shown l.escapes (variable_value l.request name))) (pieces_left l.piece-iterator) ≡ expansion_with (λ name. shown l.escapes (variable_value l.request name)) l.text
