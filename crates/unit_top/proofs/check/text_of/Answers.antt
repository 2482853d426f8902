use Rattle.std.proofs.Common.{◌≡◌, ℕ, List, [], ◌∷◌, IfOk, codes, string_bytes, subst, sym}
use Rattle.unit_top.proofs.TextLemmas.{line_told}
use Rattle.unit_top.proofs.check.text_of.Goals as goal

pub returns-in-Illegal : goal.returns-in-Illegal
returns-in-Illegal c =
    let v = c.in-Illegal in
    let numbers : List ℕ = v.line ∷ v.rule ∷ v.want ∷ v.found ∷ [] in
    rw v.is (subst (λ (x : List ℕ). IfOk c.format.result (λ text. string_bytes text ≡ x)) (sym (line_told (codes "illegal") numbers)) c.format.ensures.ok)
