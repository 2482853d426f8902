-- How bytes move into and out of an object that may tell what it holds.
use Rattle.std.specs.Prelude.{ℕ, ◌≡◌, ◌++◌, List, [], Option, Some}

-- where the contents are told, the new ones are the old ones with these behind
abbrev pub Adds : Option (List ℕ) → Option (List ℕ) → List ℕ → Type 0
Adds old new more = (contents : List ℕ) → old ≡ Some contents → new ≡ Some (contents ++ more)

-- where the contents are told, the new ones are the old ones with a front of these behind
abbrev pub AddsFront : Option (List ℕ) → Option (List ℕ) → List ℕ → Type 0
AddsFront old new more =
    (contents : List ℕ) → old ≡ Some contents
    → (front : List ℕ) × (rest : List ℕ) × (more ≡ front ++ rest) × (new ≡ Some (contents ++ front))

-- where what is left is told, it began with these, and the rest is left now
abbrev pub Takes : Option (List ℕ) → Option (List ℕ) → List ℕ → Type 0
Takes old new front =
    (left : List ℕ) → old ≡ Some left
    → (rest : List ℕ) × (left ≡ front ++ rest) × (new ≡ Some rest)

-- where what is left is told, it was these, and nothing is left now
abbrev pub TakesAll : Option (List ℕ) → Option (List ℕ) → List ℕ → Type 0
TakesAll old new all = (left : List ℕ) → old ≡ Some left → (left ≡ all) × (new ≡ Some [])

-- where what is left is told, it is nothing
abbrev pub IsAtEnd : Option (List ℕ) → Type 0
IsAtEnd told = (left : List ℕ) → told ≡ Some left → left ≡ []
