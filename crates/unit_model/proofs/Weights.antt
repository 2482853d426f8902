-- Sums after a list or one seat has changed, and what they say of their terms.
use Rattle.std.proofs.Common.{◌≡◌, ◌≢◌, ℕ, zero, suc, ◌+◌, ◌-◌, ◌<◌, ◌≤◌, Bool, true, false, List, [], ◌∷◌, ◌++◌, length, get_or, set, take, drop, map, refl, sym, ap, ◌∙◌, arith, inl, inr, ◌⊎◌}
use Rattle.std.specs.List.{remove, range_with_len}
use Rattle.std.proofs.lemmas.Bool.{eq-eqb, ne_eqb, cases_eq, cases_lt, cases_Bool}
use Rattle.unit_model.specs.Weights.{weigh, one_if, is_number, times, count_of, without_first, over_all, below}

-- ---- a list that has changed

pub weigh-append : {X : Type 0} (f : X → ℕ) (xs ys : List X) → weigh f (xs ++ ys) ≡ weigh f xs + weigh f ys
weigh-append f [] ys = omega arith
weigh-append f (x ∷ xs) ys = omega (arith, weigh-append f xs ys)

pub weigh_push : {X : Type 0} (f : X → ℕ) (xs : List X) (x : X) → weigh f (xs ++ x ∷ []) ≡ weigh f xs + f x
weigh_push f xs x = omega (arith, weigh-append f xs (x ∷ []))

pub weigh-set : {X : Type 0} (f : X → ℕ) (xs : List X) (i : ℕ) (y d : X) → i < length xs → weigh f (set xs i y) + f (get_or xs i d) ≡ weigh f xs + f y
weigh-set f [] i y d lt = absurd (omega arith)
weigh-set f (x ∷ xs) zero y d lt = omega arith
weigh-set f (x ∷ xs) (suc i) y d lt = omega (arith, weigh-set f xs i y d (omega arith))

pub weigh-remove : {X : Type 0} (f : X → ℕ) (xs : List X) (i : ℕ) (d : X) → i < length xs → weigh f (remove xs i) + f (get_or xs i d) ≡ weigh f xs
weigh-remove f [] i d lt = absurd (omega arith)
weigh-remove f (x ∷ xs) zero d lt = omega arith
weigh-remove f (x ∷ xs) (suc i) d lt = omega (arith, weigh-remove f xs i d (omega arith))

pub weigh-take-drop : {X : Type 0} (f : X → ℕ) (n : ℕ) (xs : List X) → weigh f (take n xs) + weigh f (drop n xs) ≡ weigh f xs
weigh-take-drop f zero xs = omega arith
weigh-take-drop f (suc n) [] = omega arith
weigh-take-drop f (suc n) (x ∷ xs) = omega (arith, weigh-take-drop f n xs)

pub weigh-map : {X Y : Type 0} (f : Y → ℕ) (g : X → Y) (xs : List X) → weigh f (map g xs) ≡ weigh (λ x. f (g x)) xs
weigh-map f g [] = refl
weigh-map f g (x ∷ xs) = omega (arith, weigh-map f g xs)

left_of : {X : Type 0} (test : X → Bool) (x : X) (xs : List X) → test x ≡ false → 0 < count_of test (x ∷ xs) → 0 < count_of test xs
left_of test x xs fails some = let none : one_if (test x) ≡ 0 = ap one_if fails in omega (arith, none, some)

-- what the first element that passes weighs, where one does
pub weigh-without_first : {X : Type 0} (f : X → ℕ) (test : X → Bool) (w : ℕ) → ((x : X) → test x ≡ true → f x ≡ w) → (xs : List X) → 0 < count_of test xs → weigh f (without_first test xs) + w ≡ weigh f xs
weigh-without_first f test w same [] some = absurd (omega arith)
weigh-without_first f test w same (x ∷ xs) some =
    elim (cases_Bool (test x)) [
      | inl passes ↦ rw passes (omega (arith, same x passes))
      | inr fails ↦ rw fails (omega (arith, weigh-without_first f test w same xs (left_of test x xs fails some)))
    ]

-- ---- terms

pub weigh_at : {X : Type 0} (f : X → ℕ) (xs : List X) (i : ℕ) (d : X) → i < length xs → f (get_or xs i d) ≤ weigh f xs
weigh_at f [] i d lt = absurd (omega arith)
weigh_at f (x ∷ xs) zero d lt = omega arith
weigh_at f (x ∷ xs) (suc i) d lt = omega (arith, weigh_at f xs i d (omega arith))

-- two elements of one list
pub weigh_two : {X : Type 0} (f : X → ℕ) (xs : List X) (i j : ℕ) (d : X) → i < j → j < length xs → f (get_or xs i d) + f (get_or xs j d) ≤ weigh f xs
weigh_two f [] i j d lt last = absurd (omega arith)
weigh_two f (x ∷ xs) i zero d lt last = absurd (omega arith)
weigh_two f (x ∷ xs) zero (suc j) d lt last = omega (arith, weigh_at f xs j d (omega arith))
weigh_two f (x ∷ xs) (suc i) (suc j) d lt last = omega (arith, weigh_two f xs i j d (omega arith) (omega arith))

pub weigh_none : {X : Type 0} (f : X → ℕ) (xs : List X) → ((x : X) → f x ≡ 0) → weigh f xs ≡ 0
weigh_none f [] none = refl
weigh_none f (x ∷ xs) none = omega (arith, none x, weigh_none f xs none)

pub weigh_same : {X : Type 0} (f g : X → ℕ) (xs : List X) → ((i : ℕ) (d : X) → i < length xs → f (get_or xs i d) ≡ g (get_or xs i d)) → weigh f xs ≡ weigh g xs
weigh_same f g [] same = refl
weigh_same f g (x ∷ xs) same = omega (arith, same 0 x (omega arith), weigh_same f g xs (λ i d lt. same (suc i) d (omega arith)))

pub weigh_le : {X : Type 0} (f g : X → ℕ) (xs : List X) → ((x : X) → f x ≤ g x) → weigh f xs ≤ weigh g xs
weigh_le f g [] le = omega arith
weigh_le f g (x ∷ xs) le = omega (arith, le x, weigh_le f g xs le)

pub weigh-sum : {X : Type 0} (f g : X → ℕ) (xs : List X) → weigh (λ x. f x + g x) xs ≡ weigh f xs + weigh g xs
weigh-sum f g [] = refl
weigh-sum f g (x ∷ xs) = omega (arith, weigh-sum f g xs)

pub weigh_ones : {X : Type 0} (xs : List X) → weigh (λ x. 1) xs ≡ length xs
weigh_ones [] = refl
weigh_ones (x ∷ xs) = omega (arith, weigh_ones xs)

-- a sum that isn't 0 has a term that isn't 0
pub weigh_some : {X : Type 0} (f : X → ℕ) (xs : List X) (d : X) → 0 < weigh f xs → (i : ℕ) × (i < length xs) × (0 < f (get_or xs i d))
weigh_some f [] d some = absurd (omega arith)
weigh_some f (x ∷ xs) d some =
    elim (cases_lt 0 (f x)) [
      | inl here ↦ (0, omega arith, here)
      | inr none ↦ let rest = weigh_some f xs d (omega arith) in (suc (rest.0), omega (arith, rest.1), rest.2)
    ]

-- ---- a number in a list

pub is_number_same : (n : ℕ) → is_number n n ≡ 1
is_number_same n = ap one_if (eq-eqb n n refl)

pub is_number_other : (n x : ℕ) → x ≢ n → is_number n x ≡ 0
is_number_other n x ne = ap one_if (ne_eqb x n ne)

-- a number that counts stands somewhere, and one that stands somewhere counts
pub is_number_some : (n x : ℕ) → 0 < is_number n x → x ≡ n
is_number_some n x some =
    elim (cases_eq x n) [
      | inl same ↦ same
      | inr other ↦ absurd (omega (arith, is_number_other n x other))
    ]

pub times_some : (n : ℕ) (xs : List ℕ) → 0 < times n xs → (i : ℕ) × (i < length xs) × (get_or xs i 0 ≡ n)
times_some n xs some = let found = weigh_some (is_number n) xs 0 some in (found.0, found.1, is_number_some n _ found.2)

pub times_at : (n : ℕ) (xs : List ℕ) (i : ℕ) → i < length xs → get_or xs i 0 ≡ n → 1 ≤ times n xs
times_at n xs i lt same = omega (arith, weigh_at (is_number n) xs i 0 lt, ap (is_number n) same, is_number_same n)

pub times_push_same : (n : ℕ) (xs : List ℕ) → times n (xs ++ n ∷ []) ≡ times n xs + 1
times_push_same n xs = omega (arith, weigh_push (is_number n) xs n, is_number_same n)

pub times_push_other : (n x : ℕ) (xs : List ℕ) → x ≢ n → times n (xs ++ x ∷ []) ≡ times n xs
times_push_other n x xs other = omega (arith, weigh_push (is_number n) xs x, is_number_other n x other)

-- ---- all seats

-- after the lists of one seat have changed
pub over_all-set : {S X : Type 0} (f : X → ℕ) (list : S → List X) (seats : List S) (k : ℕ) (seat d : S) → k < length seats → over_all f list (set seats k seat) + weigh f (list (get_or seats k d)) ≡ over_all f list seats + weigh f (list seat)
over_all-set f list seats k seat d lt = weigh-set (λ s. weigh f (list s)) seats k seat d lt

-- after one seat's list has stayed
pub over_all_stays : {S X : Type 0} (f : X → ℕ) (list : S → List X) (seats : List S) (k : ℕ) (seat d : S) → k < length seats → list seat ≡ list (get_or seats k d) → over_all f list (set seats k seat) ≡ over_all f list seats
over_all_stays f list seats k seat d lt same = omega (arith, over_all-set f list seats k seat d lt, ap (weigh f) same)

-- after one seat's list has grown by an element
pub over_all_push : {S X : Type 0} (f : X → ℕ) (list : S → List X) (seats : List S) (k : ℕ) (seat d : S) (x : X) → k < length seats → list seat ≡ list (get_or seats k d) ++ x ∷ [] → over_all f list (set seats k seat) ≡ over_all f list seats + f x
over_all_push f list seats k seat d x lt grown = omega (arith, over_all-set f list seats k seat d lt, ap (weigh f) grown, weigh_push f (list (get_or seats k d)) x)

-- one seat's list is a part of them all
pub over_all_at : {S X : Type 0} (f : X → ℕ) (list : S → List X) (seats : List S) (k : ℕ) (d : S) → k < length seats → weigh f (list (get_or seats k d)) ≤ over_all f list seats
over_all_at f list seats k d lt = weigh_at (λ s. weigh f (list s)) seats k d lt

-- the lists of two seats
pub over_all_two : {S X : Type 0} (f : X → ℕ) (list : S → List X) (seats : List S) (j k : ℕ) (d : S) → j < k → k < length seats → weigh f (list (get_or seats j d)) + weigh f (list (get_or seats k d)) ≤ over_all f list seats
over_all_two f list seats j k d lt last = weigh_two (λ s. weigh f (list s)) seats j k d lt last

-- ---- numbers below n

pub below_same : (f g : ℕ → ℕ) (n : ℕ) → ((i : ℕ) → i < n → f i ≡ g i) → below f n ≡ below g n
below_same f g zero same = refl
below_same f g (suc n) same = omega (arith, same n (omega arith), below_same f g n (λ i lt. same i (omega arith)))

pub below_le : (f g : ℕ → ℕ) (n : ℕ) → ((i : ℕ) → i < n → f i ≤ g i) → below f n ≤ below g n
below_le f g zero le = omega arith
below_le f g (suc n) le = omega (arith, le n (omega arith), below_le f g n (λ i lt. le i (omega arith)))

pub below-sum : (f g : ℕ → ℕ) (n : ℕ) → below (λ i. f i + g i) n ≡ below f n + below g n
below-sum f g zero = refl
below-sum f g (suc n) = omega (arith, below-sum f g n)

pub below_none : (f : ℕ → ℕ) (n : ℕ) → ((i : ℕ) → i < n → f i ≡ 0) → below f n ≡ 0
below_none f zero none = refl
below_none f (suc n) none = omega (arith, none n (omega arith), below_none f n (λ i lt. none i (omega arith)))

pub below_ones : (n : ℕ) → below (λ i. 1) n ≡ n
below_ones zero = refl
below_ones (suc n) = omega (arith, below_ones n)

pub below_at : (f : ℕ → ℕ) (n k : ℕ) → k < n → f k ≤ below f n
below_at f zero k lt = absurd (omega arith)
below_at f (suc n) k lt =
    elim (cases_eq k n) [
      | inl same ↦ omega (arith, ap f same)
      | inr other ↦ omega (arith, below_at f n k (omega arith))
    ]

pub below_two : (f : ℕ → ℕ) (n j k : ℕ) → j < k → k < n → f j + f k ≤ below f n
below_two f zero j k lt last = absurd (omega arith)
below_two f (suc n) j k lt last =
    elim (cases_eq k n) [
      | inl same ↦ omega (arith, ap f same, below_at f n j (omega arith))
      | inr other ↦ omega (arith, below_two f n j k lt (omega arith))
    ]

-- after one of them has changed
pub below_change : (f g : ℕ → ℕ) (n k : ℕ) → k < n → ((i : ℕ) → i < n → i ≢ k → g i ≡ f i) → below g n + f k ≡ below f n + g k
below_change f g zero k lt same = absurd (omega arith)
below_change f g (suc n) k lt same =
    elim (cases_eq k n) [
      | inl last ↦ omega (arith, ap f last, ap g last, below_same f g n (λ i below_n. sym (same i (omega arith) (omega arith))))
      | inr other ↦ omega (arith, same n (omega arith) (omega arith), below_change f g n k (omega arith) (λ i below_n ne. same i (omega arith) ne))
    ]

-- a number is one of those below n once, or not
pub below_is : (n k : ℕ) → k < n → below (is_number k) n ≡ 1
below_is zero k lt = absurd (omega arith)
below_is (suc n) k lt =
    elim (cases_eq k n) [
      | inl last ↦ omega (arith, ap (λ (x : ℕ). is_number x n) last, is_number_same n, below_none (is_number k) n (λ i below_n. is_number_other k i (omega arith)))
      | inr other ↦ omega (arith, is_number_other k n (omega arith), below_is n k (omega arith))
    ]

pub below_is_not : (n k : ℕ) → n ≤ k → below (is_number k) n ≡ 0
below_is_not n k le = below_none (is_number k) n (λ i lt. is_number_other k i (omega arith))

-- the first m, and those behind them
pub below-add : (f : ℕ → ℕ) (m n : ℕ) → below f (m + n) ≡ below f m + below (λ i. f (m + i)) n
below-add f m zero = let none : m + 0 ≡ m = omega arith in ap (below f) none ∙ omega arith
below-add f m (suc n) = let one : m + suc n ≡ suc (m + n) = omega arith in ap (below f) one ∙ omega (arith, below-add f m n)

-- a list by its indices
pub weigh_below : {X : Type 0} (f : X → ℕ) (xs : List X) (d : X) → weigh f xs ≡ below (λ i. f (get_or xs i d)) (length xs)
weigh_below f [] d = refl
weigh_below f (x ∷ xs) d =
    let by_index : ℕ → ℕ = λ i. f (get_or (x ∷ xs) i d) in
    let one : suc (length xs) ≡ 1 + length xs = omega arith in
    let behind : below (λ i. by_index (1 + i)) (length xs) ≡ below (λ i. f (get_or xs i d)) (length xs) =
    below_same (λ i. by_index (1 + i)) (λ i. f (get_or xs i d)) (length xs) (λ i lt. let next : 1 + i ≡ suc i = omega arith in ap by_index next) in
    omega (arith, ap (below by_index) one, below-add by_index 1 (length xs), behind, weigh_below f xs d)

moved_number : (k a i : ℕ) → a ≤ k → is_number k (a + i) ≡ is_number (k - a) i
moved_number k a i low =
    elim (cases_eq i (k - a)) [
      | inl same ↦ let there : a + i ≡ k = omega arith in ap one_if (eq-eqb (a + i) k there ∙ sym (eq-eqb i (k - a) same))
      | inr other ↦ let away : a + i ≢ k = omega arith in ap one_if (ne_eqb (a + i) k away ∙ sym (ne_eqb i (k - a) other))
    ]

-- neighbouring numbers
pub weigh_range : (f : ℕ → ℕ) (a n : ℕ) → weigh f (range_with_len a n) ≡ below (λ i. f (a + i)) n
weigh_range f a zero = refl
weigh_range f a (suc n) =
    let from : ℕ → ℕ = λ i. f (a + i) in
    let one : suc n ≡ 1 + n = omega arith in
    let start : a + 0 ≡ a = omega arith in
    let behind : below (λ i. from (1 + i)) n ≡ below (λ i. f ((a + 1) + i)) n =
    below_same (λ i. from (1 + i)) (λ i. f ((a + 1) + i)) n (λ i lt. let next : a + (1 + i) ≡ (a + 1) + i = omega arith in ap f next) in
    omega (arith, ap (below from) one, below-add from 1 n, ap f start, behind, weigh_range f (a + 1) n)

-- each of them stands there once, and no other number
pub times_in_range : (k a n : ℕ) → a ≤ k → k < a + n → times k (range_with_len a n) ≡ 1
times_in_range k a n low high =
    let moved : below (λ i. is_number k (a + i)) n ≡ below (is_number (k - a)) n = below_same (λ i. is_number k (a + i)) (is_number (k - a)) n (λ i lt. moved_number k a i low) in
    omega (arith, weigh_range (is_number k) a n, moved, below_is n (k - a) (omega arith))

pub times_off_range : (k a n : ℕ) → (k < a) ⊎ (a + n ≤ k) → times k (range_with_len a n) ≡ 0
times_off_range k a n off =
    weigh_range (is_number k) a n ∙ below_none (λ i. is_number k (a + i)) n (λ i lt. is_number_other k (a + i) (omega (arith, off)))

-- sums in either order
pub weigh-below : {X : Type 0} (f : X → ℕ → ℕ) (n : ℕ) (xs : List X) → weigh (λ x. below (f x) n) xs ≡ below (λ i. weigh (λ x. f x i) xs) n
weigh-below f zero xs = weigh_none (λ x. 0) xs (λ x. refl)
weigh-below f (suc n) xs = omega (arith, weigh-sum (λ x. below (f x) n) (λ x. f x n) xs, weigh-below f n xs)
