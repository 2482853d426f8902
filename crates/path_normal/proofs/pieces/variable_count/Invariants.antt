use Rattle.std.proofs.Common.{◌≡◌, ◌+◌, ◌≤◌, map, length, option_map}
use Rattle.path_normal.specs.Variables.{known_among, variable_count}
use Rattle.path_normal.specs.PiecesLeft.{pieces_left}
use Rattle.path_normal.proofs.pieces.variable_count.Given as goal

abbrev pub invariant-loop-piece : goal.invariant-loop-piece
invariant-loop-piece l = record {
  fits : l.count + length (pieces_left l.piece-iterator) ≤ length l.text;
  counted : option_map (λ n. n + l.count) (known_among (map (λ name. name.now) l.further) (pieces_left l.piece-iterator)) ≡ variable_count (map (λ name. name.now) l.further) l.text;
}
