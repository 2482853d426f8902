-- A line of a text, number by number: as `format!` writes one of at most twelve pieces, and one of more.
use Rattle.std.proofs.Common.{ℕ, ◌≡◌, ◌++◌, ◌∙◌, ap, refl, List, [], ◌∷◌, append_assoc, append-nil, decimal}
use Rattle.unit_model.specs.Lines.{line, numbers_text}

-- each number after a space, and then the rest
abbrev pub told : List ℕ → List ℕ → List ℕ
told [] rest = rest
told (n ∷ ns) rest = 32 ∷ (decimal n ++ told ns rest)

numbers_told : (ns rest : List ℕ) → numbers_text ns ++ rest ≡ told ns rest
numbers_told [] rest = refl
numbers_told (n ∷ ns) rest = append_assoc (32 ∷ decimal n) (numbers_text ns) rest ∙ ap (λ (x : List ℕ). (32 ∷ decimal n) ++ x) (numbers_told ns rest)

pub line_told : (name ns : List ℕ) → line name ns ≡ name ++ told ns (10 ∷ [])
line_told name ns = append_assoc name (numbers_text ns) (10 ∷ []) ∙ ap (λ (x : List ℕ). name ++ x) (numbers_told ns (10 ∷ []))

-- each number after a space
abbrev pub spaced : ℕ → List ℕ → List ℕ
spaced n [] = 32 ∷ decimal n
spaced n (m ∷ ms) = 32 ∷ (decimal n ++ spaced m ms)

numbers_spaced : (n : ℕ) (ns : List ℕ) → numbers_text (n ∷ ns) ≡ spaced n ns
numbers_spaced n [] = append-nil (32 ∷ decimal n)
numbers_spaced n (m ∷ ms) = ap (λ (x : List ℕ). (32 ∷ decimal n) ++ x) (numbers_spaced m ms)

pub long_line_told : (name : List ℕ) (n : ℕ) (ns : List ℕ) → line name (n ∷ ns) ≡ (name ++ spaced n ns) ++ (10 ∷ [])
long_line_told name n ns = ap (λ (x : List ℕ). (name ++ x) ++ (10 ∷ [])) (numbers_spaced n ns)

-- a line of one number in front of more
pub line_before : (name : List ℕ) (n : ℕ) (rest : List ℕ) → line name (n ∷ []) ++ rest ≡ name ++ (32 ∷ (decimal n ++ (10 ∷ rest)))
line_before name n rest =
    ap (λ (text : List ℕ). text ++ rest) (line_told name (n ∷ [])) ∙ append_assoc name (told (n ∷ []) (10 ∷ [])) rest
    ∙ ap (λ (text : List ℕ). name ++ (32 ∷ text)) (append_assoc (decimal n) (10 ∷ []) rest)
