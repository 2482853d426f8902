-- What the iterator over the pieces of a text has left to give.
use Rattle.std.specs.Prelude.{ℕ, List, ◌≡◌, true, false, take, Option, MatchOption}
use Rattle.std.specs.Borrow.{Bor}
use Rattle.path_normal.specs.declared.pieces.Piece.{Piece}
use Rattle.path_normal.specs.declared.pieces.Piece.TheVariants.{Byte, Variable, Stray}
use Rattle.path_normal.specs.declared.pieces.Pieces.{Pieces}
use Rattle.path_normal.specs.Variables.{PieceText, byte, variable, stray, pieces_of, run_len, begins_closed_name}

-- what a piece says
abbrev pub piece_text : Piece → PieceText
piece_text (Byte b) = byte b
piece_text (Variable name) = variable name.now
piece_text Stray = stray

-- the pieces that are left to give
abbrev pub pieces_left : Pieces → List PieceText
pieces_left s = pieces_of s.rest.now

-- the run at the front is a name, where one with `}` behind it is there
abbrev pub IsNameInBraces : List ℕ → Option (Bor (List ℕ)) → Type 0
IsNameInBraces inside r =
    MatchOption r (begins_closed_name inside ≡ false)
    (λ name. (begins_closed_name inside ≡ true) × (name.now ≡ take (run_len inside) inside))
