use Rattle.std.proofs.Common.{◌≡◌, List, ℕ, [], ◌∷◌, IfOk, codes, string_bytes, subst, sym}
use Rattle.unit_top.proofs.TextLemmas.{line_told}
use Rattle.unit_top.proofs.check.chunks_line.Goals as goal

pub returns : goal.returns
returns c =
    subst (λ (x : List ℕ). IfOk c.format.result (λ text. string_bytes text ≡ x)) (sym (line_told (codes "chunks") (c.args.free ∷ c.args.chunks ∷ []))) c.format.ensures.ok
