use Rattle.std.proofs.Common.{◌∷◌, ◌∙◌, sym, ap, length, arith}
use Rattle.path_normal.specs.Variables.{pieces_of}
use Rattle.path_normal.proofs.PieceLemmas.{pieces_at_dollar}
use Rattle.path_normal.proofs.pieces.PiecesIterator.next.Goals as goal

pub returns-clause-steps : goal.returns-clause-steps
returns-clause-steps c =
    ap pieces_of c.in_ok-first.ensures.cases.0 ∙ pieces_at_dollar c.in_ok-first.first.now c.in_ok-first.rest.now c.if-first-ne36.false ∙ (λ i. sym c.behind_dollar.ensures.piece i ∷ pieces_of (sym c.behind_dollar.ensures.behind i))

pub returns-clause-goes : goal.returns-clause-goes
returns-clause-goes c =
    let shorter = ap length (returns-clause-steps c) in
    record {
      on = λ finite. (tt, tt, omega (arith, shorter));
      keeps = tt;
      rests = λ finite. tt;
    }
