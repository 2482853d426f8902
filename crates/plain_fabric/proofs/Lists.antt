-- A list that grows by one step after another.
use Rattle.std.proofs.Common.{◌≡◌, ℕ, suc, ◌+◌, List, [], ◌∷◌, ◌++◌, map, ap, ◌∙◌, arith}
use Rattle.std.proofs.lemmas.List.{append_assoc}
use Rattle.std.specs.List.{range_with_len}
use Rattle.plain_fabric.proofs.Passing.{one_turn_more}

pub one_more : {X : Type 0} (f : ℕ → X) (k : ℕ) (before now new : List X) → now ≡ before ++ map f (range_with_len 0 k) → new ≡ now ++ f k ∷ [] → new ≡ before ++ map f (range_with_len 0 (k + 1))
one_more {X = X} f k before now new is more =
    let at : k ≡ 0 + k = omega arith in
    let on : suc k ≡ k + 1 = omega arith in
    let grown : map f (range_with_len 0 k) ++ f k ∷ [] ≡ map f (range_with_len 0 (k + 1)) =
    ap (λ (j : ℕ). map f (range_with_len 0 k) ++ f j ∷ []) at ∙ one_turn_more f 0 k ∙ ap (λ (j : ℕ). map f (range_with_len 0 j)) on in
    more ∙ ap (λ (xs : List X). xs ++ f k ∷ []) is ∙ append_assoc before (map f (range_with_len 0 k)) (f k ∷ []) ∙ ap (λ (xs : List X). before ++ xs) grown
