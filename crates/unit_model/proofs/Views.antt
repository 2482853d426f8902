-- Sums over all views after a step of one seat, a split or a join.
use Rattle.std.proofs.Common.{ℕ, ◌≡◌, ◌≢◌, ◌+◌, ◌≤◌, List, [], ◌∷◌, ◌++◌, set, refl, sym, ap, arith, zero, suc}
use mathlib.Core.Option.{some, some-injective, some-ne-none}
use lib.ListN.{get_elem?}
use Rattle.unit_model.specs.Weights.{weigh}
use Rattle.unit_model.proofs.Weights.{weigh_push}

pub sum_set : {V : Type 0} (f : V → ℕ) (vs : List V) (k : ℕ) (v u : V) → get_elem? vs k ≡ some v → weigh f (set vs k u) + f v ≡ weigh f vs + f u
sum_set f [] k v u at = absurd (some-ne-none v (sym at))
sum_set f (x ∷ xs) zero v u at = let same = ap f (some-injective x v at) in omega arith
sum_set f (x ∷ xs) (suc k) v u at = omega (arith, sum_set f xs k v u at)

-- one view's weight is a part of them all
pub sum_at : {V : Type 0} (f : V → ℕ) (vs : List V) (k : ℕ) (v : V) → get_elem? vs k ≡ some v → f v ≤ weigh f vs
sum_at f [] k v at = absurd (some-ne-none v (sym at))
sum_at f (x ∷ xs) zero v at = let same = ap f (some-injective x v at) in omega arith
sum_at f (x ∷ xs) (suc k) v at = omega (arith, sum_at f xs k v at)

pub sum_two : {V : Type 0} (f : V → ℕ) (vs : List V) (j k : ℕ) (v w : V) → j ≢ k → get_elem? vs j ≡ some v → get_elem? vs k ≡ some w → f v + f w ≤ weigh f vs
sum_two f [] j k v w apart one two = absurd (some-ne-none v (sym one))
sum_two f (x ∷ xs) zero zero v w apart one two = absurd (apart refl)
sum_two f (x ∷ xs) zero (suc k) v w apart one two = let same = ap f (some-injective x v one) in omega (arith, sum_at f xs k w two)
sum_two f (x ∷ xs) (suc j) zero v w apart one two = let same = ap f (some-injective x w two) in omega (arith, sum_at f xs j v one)
sum_two f (x ∷ xs) (suc j) (suc k) v w apart one two = omega (arith, sum_two f xs j k v w (λ same. apart (ap suc same)) one two)

-- one view is cut in two
pub sum_split : {V : Type 0} (f : V → ℕ) (vs : List V) (k : ℕ) (v left right : V) → get_elem? vs k ≡ some v → f left + f right ≡ f v → weigh f (set vs k left ++ right ∷ []) ≡ weigh f vs
sum_split f vs k v left right at parts = omega (arith, parts, weigh_push f (set vs k left) right, sum_set f vs k v left at)

-- two views are made one
pub sum_join : {V : Type 0} (f : V → ℕ) (vs : List V) (k other : ℕ) (v w both spent : V) → get_elem? vs k ≡ some v → get_elem? (set vs k both) other ≡ some w → f both + f spent ≡ f v + f w → weigh f (set (set vs k both) other spent) ≡ weigh f vs
sum_join f vs k other v w both spent at there parts = omega (arith, parts, sum_set f vs k v both at, sum_set f (set vs k both) other w spent there)

-- of one view alone, each view is it
pub only_view : {V : Type 0} (x v : V) (k : ℕ) → get_elem? (x ∷ []) k ≡ some v → x ≡ v
only_view x v zero at = some-injective x v at
only_view x v (suc k) at = absurd (some-ne-none v (sym at))
