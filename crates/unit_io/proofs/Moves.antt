use Rattle.std.proofs.Common.{sym, ap, ◌∙◌, ◌≡◌, ◌+◌, ◌++◌, take, drop, List, ℕ}
use Rattle.std.proofs.lemmas.List.{take-append-drop, drop-drop}

-- what is left from a place on is its front of n, and then what is left from n places further
pub moved : (content front : List ℕ) (at n : ℕ) → front ≡ take n (drop at content) → drop at content ≡ front ++ drop (at + n) content
moved content front at n is =
    sym (take-append-drop n (drop at content))
    ∙ ap (λ (x : List ℕ). x ++ drop n (drop at content)) (sym is)
    ∙ ap (λ (x : List ℕ). front ++ x) (drop-drop n at content)
