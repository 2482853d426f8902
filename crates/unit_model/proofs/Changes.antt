-- What stands in a list of which one element has changed, and the sums over it.
use Rattle.std.proofs.Common.{◌≡◌, ◌≢◌, ℕ, zero, suc, ◌+◌, ◌<◌, ◌≤◌, Bool, true, false, List, [], ◌∷◌, ◌++◌, length, get_or, refl, ap, arith, inl, inr}
use Rattle.std.specs.List.{list_any}
use Rattle.std.proofs.lemmas.Bool.{cases_lt, cases_Bool}
use Rattle.std.proofs.lemmas.List.Folds.{list_any_at}
use Rattle.unit_model.specs.Lists.{change_at}
use Rattle.unit_model.specs.Weights.{weigh, one_if, over_all}
use Rattle.unit_model.proofs.Weights.{weigh_two, weigh_push}

-- ---- one element has changed

pub changed_length : {X : Type 0} (n : ℕ) (change : X → X) (xs : List X) → length (change_at n change xs) ≡ length xs
changed_length n change [] = refl
changed_length zero change (x ∷ xs) = refl
changed_length (suc n) change (x ∷ xs) = ap suc (changed_length n change xs)

pub changed_at : {X : Type 0} (n : ℕ) (change : X → X) (xs : List X) (d : X) → n < length xs → get_or (change_at n change xs) n d ≡ change (get_or xs n d)
changed_at n change [] d lt = absurd (omega arith)
changed_at zero change (x ∷ xs) d lt = refl
changed_at (suc n) change (x ∷ xs) d lt = changed_at n change xs d (omega arith)

pub unchanged_at : {X : Type 0} (n : ℕ) (change : X → X) (xs : List X) (m : ℕ) (d : X) → m ≢ n → get_or (change_at n change xs) m d ≡ get_or xs m d
unchanged_at n change [] m d other = refl
unchanged_at zero change (x ∷ xs) zero d other = absurd (omega arith)
unchanged_at zero change (x ∷ xs) (suc m) d other = refl
unchanged_at (suc n) change (x ∷ xs) zero d other = refl
unchanged_at (suc n) change (x ∷ xs) (suc m) d other = unchanged_at n change xs m d (omega arith)

pub changed_twice : {X : Type 0} (n : ℕ) (first second : X → X) (xs : List X) → change_at n second (change_at n first xs) ≡ change_at n (λ x. second (first x)) xs
changed_twice n first second [] = refl
changed_twice zero first second (x ∷ xs) = refl
changed_twice (suc n) first second (x ∷ xs) = ap (λ ys. x ∷ ys) (changed_twice n first second xs)

pub weigh_changed : {X : Type 0} (f : X → ℕ) (n : ℕ) (change : X → X) (xs : List X) (d : X) → n < length xs → weigh f (change_at n change xs) + f (get_or xs n d) ≡ weigh f xs + f (change (get_or xs n d))
weigh_changed f n change [] d lt = absurd (omega arith)
weigh_changed f zero change (x ∷ xs) d lt = omega arith
weigh_changed f (suc n) change (x ∷ xs) d lt = omega (arith, weigh_changed f n change xs d (omega arith))

pub weigh_unchanged : {X : Type 0} (f : X → ℕ) (n : ℕ) (change : X → X) (xs : List X) → ((x : X) → f (change x) ≡ f x) → weigh f (change_at n change xs) ≡ weigh f xs
weigh_unchanged f n change [] same = refl
weigh_unchanged f zero change (x ∷ xs) same = omega (arith, same x)
weigh_unchanged f (suc n) change (x ∷ xs) same = omega (arith, weigh_unchanged f n change xs same)

-- ---- a part of each element stays, or grows by an element

pub part_stays : {X Y : Type 0} (part : X → Y) (n : ℕ) (change : X → X) (xs : List X) (m : ℕ) (d : X) → ((x : X) → part (change x) ≡ part x) → part (get_or (change_at n change xs) m d) ≡ part (get_or xs m d)
part_stays part n change [] m d same = refl
part_stays part zero change (x ∷ xs) zero d same = same x
part_stays part zero change (x ∷ xs) (suc m) d same = refl
part_stays part (suc n) change (x ∷ xs) zero d same = refl
part_stays part (suc n) change (x ∷ xs) (suc m) d same = part_stays part n change xs m d same

pub over_all_changed : {S X : Type 0} (f : X → ℕ) (list : S → List X) (n : ℕ) (change : S → S) (seats : List S) → ((s : S) → list (change s) ≡ list s) → over_all f list (change_at n change seats) ≡ over_all f list seats
over_all_changed f list n change seats same = weigh_unchanged (λ s. weigh f (list s)) n change seats (λ s. ap (weigh f) (same s))

pub over_all_grown : {S X : Type 0} (f : X → ℕ) (list : S → List X) (n : ℕ) (change : S → S) (seats : List S) (d : S) (x : X) → n < length seats → ((s : S) → list (change s) ≡ list s ++ x ∷ []) → over_all f list (change_at n change seats) ≡ over_all f list seats + f x
over_all_grown f list n change seats d x lt grown =
    let seat = get_or seats n d in
    omega (arith, weigh_changed (λ s. weigh f (list s)) n change seats d lt, ap (weigh f) (grown seat), weigh_push f (list seat) x)

-- ---- sums that are less

pub weigh_le_each : {X : Type 0} (f g : X → ℕ) (xs : List X) (d : X) → ((i : ℕ) → f (get_or xs i d) ≤ g (get_or xs i d)) → weigh f xs ≤ weigh g xs
weigh_le_each f g [] d le = omega arith
weigh_le_each f g (x ∷ xs) d le = omega (arith, le 0, weigh_le_each f g xs d (λ i. le (suc i)))

-- the difference at one element is at most that of the sums
pub weigh_le_at : {X : Type 0} (f g : X → ℕ) (xs : List X) (n : ℕ) (d : X) → n < length xs → ((i : ℕ) → f (get_or xs i d) ≤ g (get_or xs i d)) → weigh f xs + g (get_or xs n d) ≤ weigh g xs + f (get_or xs n d)
weigh_le_at f g [] n d lt le = absurd (omega arith)
weigh_le_at f g (x ∷ xs) zero d lt le = omega (arith, weigh_le_each f g xs d (λ i. le (suc i)))
weigh_le_at f g (x ∷ xs) (suc n) d lt le = omega (arith, le 0, weigh_le_at f g xs n d (omega arith) (λ i. le (suc i)))

-- where a sum is 1, one element alone has a term
pub weigh_one : {X : Type 0} (f : X → ℕ) (xs : List X) (i j : ℕ) (d : X) → i < length xs → j < length xs → weigh f xs ≤ 1 → 1 ≤ f (get_or xs i d) → 1 ≤ f (get_or xs j d) → i ≡ j
weigh_one f xs i j d inside also one here there =
    elim (cases_lt i j) [
      | inl less ↦ absurd (omega (arith, weigh_two f xs i j d less also))
      | inr not_less ↦ elim (cases_lt j i) [
        | inl more ↦ absurd (omega (arith, weigh_two f xs j i d more inside))
        | inr neither ↦ omega arith
      ]
    ]

-- ---- an element is there exactly where it counts

pub any_counts : {X : Type 0} (test : X → Bool) (xs : List X) → list_any test xs ≡ true → 1 ≤ weigh (λ x. one_if (test x)) xs
any_counts test [] any = absurd (cc any)
any_counts test (x ∷ xs) any =
    elim (cases_Bool (test x)) [
      | inl here ↦ omega (arith, ap one_if here)
      | inr not_here ↦ omega (arith, any_counts test xs (rw not_here at any))
    ]

pub none_counts : {X : Type 0} (test : X → Bool) (xs : List X) → list_any test xs ≡ false → weigh (λ x. one_if (test x)) xs ≡ 0
none_counts test [] none = refl
none_counts test (x ∷ xs) none =
    elim (cases_Bool (test x)) [
      | inl here ↦ absurd (cc (rw here at none))
      | inr not_here ↦ omega (arith, ap one_if not_here, none_counts test xs (rw not_here at none))
    ]

-- ---- one element alone has a weight

pub weigh_zero_each : {X : Type 0} (f : X → ℕ) (xs : List X) (d : X) → ((i : ℕ) → f (get_or xs i d) ≡ 0) → weigh f xs ≡ 0
weigh_zero_each f [] d none = refl
weigh_zero_each f (x ∷ xs) d none = omega (arith, none 0, weigh_zero_each f xs d (λ i. none (suc i)))

pub weigh_only : {X : Type 0} (f : X → ℕ) (xs : List X) (n : ℕ) (d : X) → n < length xs → ((i : ℕ) → i ≢ n → f (get_or xs i d) ≡ 0) → weigh f xs ≡ f (get_or xs n d)
weigh_only f [] n d lt others = absurd (omega arith)
weigh_only f (x ∷ xs) zero d lt others = omega (arith, weigh_zero_each f xs d (λ i. others (suc i) (omega arith)))
weigh_only f (x ∷ xs) (suc n) d lt others = omega (arith, others 0 (omega arith), weigh_only f xs n d (omega arith) (λ i other. others (suc i) (omega (arith, other))))

-- where no element passes, none does
pub any_none_at : {X : Type 0} (test : X → Bool) (xs : List X) (i : ℕ) (d : X) → list_any test xs ≡ false → i < length xs → test (get_or xs i d) ≡ false
any_none_at test xs i d none inside =
    elim (cases_Bool (test (get_or xs i d))) [
      | inr fails ↦ fails
      | inl passes ↦ absurd (cc (none, list_any_at test xs i d inside passes))
    ]
