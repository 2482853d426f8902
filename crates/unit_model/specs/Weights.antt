-- Sums that say who holds what: 'exactly one of several' is a sum that is 1.
use Rattle.std.specs.Prelude.{ℕ, zero, suc, ◌+◌, ◌==◌, Bool, cond, List, [], ◌∷◌}

-- ---- over the elements of a list

abbrev pub weigh : {X : Type 0} → (X → ℕ) → List X → ℕ
weigh f [] = 0
weigh f (x ∷ xs) = f x + weigh f xs

-- 1 where the test holds, and 0 else
abbrev pub one_if : Bool → ℕ
one_if test = cond test 1 0

-- the weight of a number alone
abbrev pub is_number : ℕ → ℕ → ℕ
is_number n x = one_if (x == n)

-- how often the number stands in the list
abbrev pub times : ℕ → List ℕ → ℕ
times n xs = weigh (is_number n) xs

-- how many elements pass
abbrev pub count_of : {X : Type 0} → (X → Bool) → List X → ℕ
count_of test xs = weigh (λ x. one_if (test x)) xs

-- the list without the first element that passes
abbrev pub without_first : {X : Type 0} → (X → Bool) → List X → List X
without_first test [] = []
without_first test (x ∷ xs) = cond (test x) xs (x ∷ without_first test xs)

-- ---- over all seats, each of which has such a list

abbrev pub over_all : {S X : Type 0} → (X → ℕ) → (S → List X) → List S → ℕ
over_all f list seats = weigh (λ seat. weigh f (list seat)) seats

-- ---- over the numbers below n

abbrev pub below : (ℕ → ℕ) → ℕ → ℕ
below f zero = 0
below f (suc n) = below f n + f n
