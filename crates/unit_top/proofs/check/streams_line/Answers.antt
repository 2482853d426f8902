use Rattle.std.proofs.Common.{◌≡◌, List, ℕ, [], ◌∷◌, IfOk, codes, string_bytes, subst, sym}
use Rattle.unit_top.proofs.TextLemmas.{long_line_told}
use Rattle.unit_top.proofs.check.streams_line.Goals as goal

pub returns : goal.returns
returns c =
    let numbers : List ℕ = c.args.accepted ∷ c.args.cancelled ∷ c.args.abandoned ∷ c.args.refused ∷ c.args.left_open ∷ [] in
    subst (λ (x : List ℕ). IfOk c.format.result (λ text. string_bytes text ≡ x)) (sym (long_line_told (codes "streams") c.args.drawn numbers)) c.format.ensures.ok
