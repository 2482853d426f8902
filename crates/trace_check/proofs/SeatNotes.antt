-- What a seat's note changes in what the lists of all seats say.
use Rattle.std.proofs.Common.{◌≡◌, ◌∙◌, ℕ, zero, suc, ◌+◌, ◌<◌, ◌||◌, Bool, true, false, cond, List, [], ◌∷◌, ◌++◌, length, refl, sym, ap, arith}
use Rattle.std.specs.Prelude.{count_by}
use Rattle.std.specs.List.{list_any}
use Rattle.std.proofs.lemmas.List.Sums.{sum_by-append}
use Rattle.unit_model.specs.Lists.{change_at}
use Rattle.unit_model.specs.Weights.{weigh, one_if}

or_assoc : (a b c : Bool) → (a || (b || c)) ≡ ((a || b) || c)
or_assoc true b c = refl
or_assoc false b c = refl

or_false : (a : Bool) → (a || false) ≡ a
or_false true = refl
or_false false = refl

or_swap : (a b c : Bool) → ((a || b) || c) ≡ ((a || c) || b)
or_swap true b c = refl
or_swap false true true = refl
or_swap false true false = refl
or_swap false false c = sym (or_false c)

pub any_snoc : {X : Type 0} (p : X → Bool) (xs : List X) (x : X) → list_any p (xs ++ x ∷ []) ≡ (list_any p xs || p x)
any_snoc p [] x = or_false (p x)
any_snoc p (y ∷ ys) x = ap (λ b. p y || b) (any_snoc p ys x) ∙ or_assoc (p y) (list_any p ys) (p x)

pub count_snoc : {X : Type 0} (p : X → Bool) (xs : List X) (x : X) → count_by p (xs ++ x ∷ []) ≡ count_by p xs + one_if (p x)
count_snoc p xs x =
    let single : count_by p (x ∷ []) ≡ one_if (p x) = omega arith in
    sum_by-append (λ y. cond (p y) 1 0) xs (x ∷ []) ∙ ap (λ n. count_by p xs + n) single

pub any_changed : {X : Type 0} (g : X → Bool) (k : ℕ) (f : X → X) (b : Bool) (xs : List X) → k < length xs → ((x : X) → g (f x) ≡ (g x || b))
    → list_any g (change_at k f xs) ≡ (list_any g xs || b)
any_changed g k f b [] lt more = absurd (omega arith)
any_changed g zero f b (x ∷ xs) lt more = ap (λ c. c || list_any g xs) (more x) ∙ or_swap (g x) b (list_any g xs)
any_changed g (suc k) f b (x ∷ xs) lt more = ap (λ c. g x || c) (any_changed g k f b xs (omega arith) more) ∙ or_assoc (g x) (list_any g xs) b

pub any_unchanged : {X : Type 0} (g : X → Bool) (k : ℕ) (f : X → X) (xs : List X) → ((x : X) → g (f x) ≡ g x) → list_any g (change_at k f xs) ≡ list_any g xs
any_unchanged g k f [] same = refl
any_unchanged g zero f (x ∷ xs) same = ap (λ c. c || list_any g xs) (same x)
any_unchanged g (suc k) f (x ∷ xs) same = ap (λ c. g x || c) (any_unchanged g k f xs same)

pub weigh_changed : {X : Type 0} (g : X → ℕ) (k : ℕ) (f : X → X) (n : ℕ) (xs : List X) → k < length xs → ((x : X) → g (f x) ≡ g x + n)
    → weigh g (change_at k f xs) ≡ weigh g xs + n
weigh_changed g k f n [] lt more = absurd (omega arith)
weigh_changed g zero f n (x ∷ xs) lt more = omega (arith, more x)
weigh_changed g (suc k) f n (x ∷ xs) lt more = omega (arith, weigh_changed g k f n xs (omega arith) more)
