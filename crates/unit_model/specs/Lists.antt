-- Lists of which one element changes.
use Rattle.std.specs.Prelude.{ℕ, zero, suc, List, [], ◌∷◌}

-- the list with the element at n changed, where there is one
abbrev pub change_at : {X : Type 0} → ℕ → (X → X) → List X → List X
change_at n change [] = []
change_at zero change (x ∷ xs) = change x ∷ xs
change_at (suc n) change (x ∷ xs) = x ∷ change_at n change xs
