use Rattle.std.proofs.Common.{◌≡◌, ◌∙◌, ◌++◌, List, ℕ, [], ◌∷◌, IfOk, ap, codes, decimal, string_bytes, subst, sym}
use Rattle.unit_top.specs.Load.{summary_text}
use Rattle.unit_top.specs.declared.load.Summary.{Summary}
use Rattle.unit_top.proofs.TextLemmas.{line_before, line_told}
use Rattle.unit_top.proofs.load.summary_text.Goals as goal

abbrev named : List ℕ → ℕ → List ℕ → List ℕ
named name n rest = name ++ (32 ∷ (decimal n ++ (10 ∷ rest)))

told : (s : Summary) → summary_text s ≡ named (codes "frames") s.frames (named (codes "in") s.input (named (codes "out") s.output (named (codes "steps") s.steps [])))
told s =
    line_before (codes "frames") s.frames _ ∙ ap (named (codes "frames") s.frames)
    (line_before (codes "in") s.input _ ∙ ap (named (codes "in") s.input)
    (line_before (codes "out") s.output _ ∙ ap (named (codes "out") s.output) (line_told (codes "steps") (s.steps ∷ []))))

pub returns : goal.returns
returns c = subst (λ (x : List ℕ). IfOk c.format.result (λ text. string_bytes text ≡ x)) (sym (told c.args.summary)) c.format.ensures.ok
