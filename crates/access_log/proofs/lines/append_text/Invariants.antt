use Rattle.std.proofs.Common.{◌≡◌, ◌++◌, take, option_map}
use Rattle.std.specs.List.{flat_map}
use Rattle.path_normal.specs.PiecesLeft.{pieces_left}
use Rattle.path_normal.specs.Variables.{piece_value}
use Rattle.access_log.specs.Buffer.{written}
use Rattle.access_log.specs.Line.{line_limit, log_text, log_value, logged}
use Rattle.access_log.proofs.lines.append_text.Given as goal

abbrev pub invariant-loop-piece : goal.invariant-loop-piece
invariant-loop-piece l =
    take line_limit (written l.buffer ++ flat_map (piece_value (λ name. logged (log_value l.exchange.from (option_map (λ r. r.now) l.exchange.request) l.exchange.status l.exchange.body name))) (pieces_left l.piece-iterator))
    ≡ take line_limit (written l.fn.buffer ++ log_text l.format l.exchange.from (option_map (λ r. r.now) l.exchange.request) l.exchange.status l.exchange.body)
