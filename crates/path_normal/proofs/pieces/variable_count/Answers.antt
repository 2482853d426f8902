use Rattle.std.proofs.Common.{◌≡◌, ap, ◌∙◌, map, arith}
use Rattle.path_normal.specs.PiecesLeft.{pieces_left}
use Rattle.path_normal.specs.Variables.{pieces_of, known_among}
use Rattle.path_normal.proofs.PieceLemmas.{pieces_fit, counts_from_zero}
use Rattle.path_normal.proofs.pieces.variable_count.Goals as goal

pub loop-piece-init : goal.loop-piece-init
loop-piece-init c =
    let start : pieces_left c.into_iter-piece-iterator.result ≡ pieces_of c.args.text.now = ap pieces_left c.into_iter-piece-iterator.ensures.into_iter_gives ∙ c.pieces_in-piece-items.ensures in
    record {
      fits = rw start (omega (arith, pieces_fit c.args.text.now));
      counted = counts_from_zero _ ∙ ap (known_among (map (λ name. name.now) c.args.further.now)) start;
    }
