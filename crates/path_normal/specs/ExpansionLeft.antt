-- What the iterator over the expansion of a text has left to give.
use Rattle.std.specs.Prelude.{ℕ, List, ◌++◌}
use Rattle.std.specs.List.{flat_map}
use Rattle.path_normal.specs.declared.expansion.Expansion.{Expansion}
use Rattle.path_normal.specs.Variables.{piece_value, variable_value}
use Rattle.path_normal.specs.PiecesLeft.{pieces_left}
use Rattle.path_normal.specs.Value.{value_left}

-- the bytes that are left to give
abbrev pub expansion_left : Expansion → List ℕ
expansion_left s = value_left s.value ++ flat_map (piece_value (variable_value s.request.now)) (pieces_left s.pieces)
