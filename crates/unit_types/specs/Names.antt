-- Names in ascending order, and what stands under a name.
use Rattle.std.specs.Prelude.{ℕ, List, map, Option, bytes_eq, position}
use Rattle.std.specs.Cmp.Lexicographic.{slice_cmp}
use Rattle.std.specs.List.Sorted.{IsStrictlySortedBy}
use Rattle.std.specs.Ordering.{nat_cmp}

-- each name comes before all that follow it, byte by byte, so no name stands twice
abbrev pub Ascends : List (List ℕ) → Type 0
Ascends names = IsStrictlySortedBy (slice_cmp nat_cmp) names

-- the same of what has names
abbrev pub AscendsBy : {A : Type 0} → (A → List ℕ) → List A → Type 0
AscendsBy name xs = Ascends (map name xs)

-- the first index at which that name stands
abbrev pub index_of_name : {A : Type 0} → (A → List ℕ) → List ℕ → List A → Option ℕ
index_of_name name wanted xs = position (λ x. bytes_eq (name x) wanted) xs
