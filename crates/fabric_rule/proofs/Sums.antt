-- Sums over all views, and over numbers of which a range has changed.
use Rattle.std.proofs.Common.{ℕ, ◌+◌, ◌-◌, ◌≡◌, ◌≤◌, ◌<◌, ◌⊎◌, inl, inr, List, [], ◌∷◌, ◌++◌, set, ap, arith}
use Rattle.std.specs.List.{range_with_len}
use mathlib.Core.Option.{some}
use lib.ListN.{get_elem?}
use Rattle.carried_slots.specs.Carried.{numbers}
use Rattle.unit_model.specs.PartOrder.{Each}
use Rattle.unit_model.specs.Weights.{weigh, below}
use Rattle.unit_model.proofs.Views.{sum_set}
use Rattle.unit_model.proofs.Weights.{below-add, below_same, weigh_range}

pub sum_stays : {V : Type 0} (f : V → ℕ) (views : List V) (id : ℕ) (v u : V) → get_elem? views id ≡ some v → f u ≡ f v → weigh f (set views id u) ≡ weigh f views
sum_stays f views id v u at same = omega (arith, same, sum_set f views id v u at)

-- the numbers from first up to first + n have other terms
pub range_changes : (f g : ℕ → ℕ) (first n all : ℕ) → first + n ≤ all → ((k : ℕ) → (k < first) ⊎ (first + n ≤ k) → g k ≡ f k)
    → below g all + weigh f (range_with_len first n) ≡ below f all + weigh g (range_with_len first n)
range_changes f g first n all le same =
    let rest : ℕ = all - (first + n) in
    let whole : all ≡ (first + n) + rest = omega (arith, le) in
    let front : below g first ≡ below f first = below_same g f first (λ k lt. same k (inl lt)) in
    let back : below (λ k. g ((first + n) + k)) rest ≡ below (λ k. f ((first + n) + k)) rest = below_same (λ k. g ((first + n) + k)) (λ k. f ((first + n) + k)) rest (λ k lt. same ((first + n) + k) (inr (omega arith))) in
    omega (
      arith,
      ap (below f) whole,
      ap (below g) whole,
      below-add f (first + n) rest,
      below-add g (first + n) rest,
      below-add f first n,
      below-add g first n,
      weigh_range f first n,
      weigh_range g first n,
      front,
      back,
    )

-- what numbered slots weigh
pub weigh_numbers : {S : Type 0} (f : ℕ → ℕ) (xs ys : List (ℕ × S)) → weigh f (numbers (xs ++ ys)) ≡ weigh f (numbers xs) + weigh f (numbers ys)
weigh_numbers f [] ys = omega arith
weigh_numbers f (x ∷ xs) ys = omega (arith, weigh_numbers f xs ys)

-- ---- each element

pub each_gives : {X : Type 0} (P Q : X → Type 0) (xs : List X) → ((x : X) → P x → Q x) → Each P xs → Each Q xs
each_gives P Q [] gives old = tt
each_gives P Q (x ∷ xs) gives old = (gives x old.0, each_gives P Q xs gives old.1)

pub each_both : {X : Type 0} (P R Q : X → Type 0) (xs : List X) → ((x : X) → P x → R x → Q x) → Each P xs → Each R xs → Each Q xs
each_both P R Q [] gives one other = tt
each_both P R Q (x ∷ xs) gives one other = (gives x one.0 other.0, each_both P R Q xs gives one.1 other.1)

pub each_all : {X : Type 0} (P : X → Type 0) (xs : List X) → ((x : X) → P x) → Each P xs
each_all P [] so = tt
each_all P (x ∷ xs) so = (so x, each_all P xs so)
