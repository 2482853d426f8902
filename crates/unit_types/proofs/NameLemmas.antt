-- Names in ascending order, by their place, and where a binary search by a name comes to.
use Rattle.std.proofs.Common.{◌≡◌, ℕ, zero, suc, ◌+◌, ◌<◌, ◌≤◌, true, false, List, [], ◌∷◌, ◌++◌, length, map, get_or, All, Some, None, Result, Ok, Err, Ordering, Less, Equal, is_eq, refl, sym, ap, ◌∙◌, subst, arith}
use Rattle.std.proofs.lemmas.Bool.{lt-ltb, le-ltb}
use Rattle.std.proofs.lemmas.Cmp.{nat_list_cmp_total}
use Rattle.std.proofs.lemmas.List.{get_or-map, length-map}
use Rattle.std.proofs.lemmas.List.Elements.{All-get_or, All-from_recursion, recursion_from_All, All-append, All-head, All-tail}
use Rattle.std.proofs.lemmas.List.Sorted.{searchable_from_sorted}
use Rattle.std.proofs.lemmas.List.Sums.{position_or_len_is}
use Rattle.std.proofs.lemmas.Map.Text.{is_eq-slice_cmp}
use Rattle.std.proofs.lemmas.Slice.Eq.{bytes_eq-Decides}
use Rattle.std.specs.Cmp.Lexicographic.{slice_cmp}
use Rattle.std.specs.List.{position_or_len}
use Rattle.std.specs.List.Sorted.{IsBinarySearchResult, IsNonDecreasingBy, IsSearchInRange, IsSortedBy, IsStrictlySortedBy}
use Rattle.std.specs.Ordering.{is_lt, nat_cmp, ordering_index, ordering_reverse}
use Rattle.std.specs.Result.{result_ok}
use Rattle.std.specs.Str.{bytes_eq}
use Rattle.unit_types.specs.Names.{Ascends, AscendsBy, index_of_name}

-- how two names compare, byte by byte
abbrev pub compared : List ℕ → List ℕ → Ordering
compared k l = slice_cmp nat_cmp k l

-- ---- lists made of lists that ascend

pub ascends-nil : Ascends []
unfolding IsStrictlySortedBy
ascends-nil = tt

pub ascends-cons : (name : List ℕ) (names : List (List ℕ)) → All (λ later. compared name later ≡ Less) names → Ascends names → Ascends (name ∷ names)
unfolding IsStrictlySortedBy
ascends-cons name names first rest = (recursion_from_All (λ later. compared name later ≡ Less) names first, rest)

-- the first name comes before all others
pub ascends-head : (name : List ℕ) (names : List (List ℕ)) → Ascends (name ∷ names) → All (λ later. compared name later ≡ Less) names
unfolding IsStrictlySortedBy
ascends-head name names h = All-from_recursion (λ later. compared name later ≡ Less) names h.0

pub ascends-tail : (name : List ℕ) (names : List (List ℕ)) → Ascends (name ∷ names) → Ascends names
unfolding IsStrictlySortedBy
ascends-tail name names h = h.1

-- two lists, each name of the first before each of the second
pub ascends-append : (xs ys : List (List ℕ)) → Ascends xs → Ascends ys → All (λ x. All (λ y. compared x y ≡ Less) ys) xs → Ascends (xs ++ ys)
ascends-append [] ys h k between = k
ascends-append (x ∷ xs) ys h k between =
    ascends-cons x (xs ++ ys)
    (All-append (λ y. compared x y ≡ Less) xs ys (ascends-head x xs h) (All-head (λ (z : List ℕ). All (λ y. compared z y ≡ Less) ys) x xs between))
    (ascends-append xs ys (ascends-tail x xs h) k (All-tail (λ (z : List ℕ). All (λ y. compared z y ≡ Less) ys) x xs between))

-- ---- by their place

-- of two names the one at the lower place comes first
pub before : (names : List (List ℕ)) (i j : ℕ) → Ascends names → i < j → j < length names → compared (get_or names i []) (get_or names j []) ≡ Less
before [] i j h lt within = absurd (omega arith)
before (n ∷ ns) i zero h lt within = absurd (omega arith)
before (n ∷ ns) zero (suc j) h lt within = All-get_or (λ later. compared n later ≡ Less) ns j [] (omega arith) (ascends-head n ns h)
before (n ∷ ns) (suc i) (suc j) h lt within = before ns i j (ascends-tail n ns h) (omega arith) (omega arith)

-- ---- a search

module _ {A : Type 0} (name : A → List ℕ) where
  -- the same of what has names
  pub before_by : (xs : List A) (i j : ℕ) (d : A) → AscendsBy name xs → i < j → j < length xs → compared (name (get_or xs i d)) (name (get_or xs j d)) ≡ Less
  before_by xs i j d h lt within =
      let first : get_or (map name xs) i [] ≡ name (get_or xs i d) = get_or-map name xs i d [] (omega arith) in
      let later : get_or (map name xs) j [] ≡ name (get_or xs j d) = get_or-map name xs j d [] within in
      ap (λ k. compared k (name (get_or xs j d))) (sym first) ∙ ap (compared (get_or (map name xs) i [])) (sym later) ∙ before (map name xs) i j h lt (omega (arith, length-map xs name))

  sorted : (xs : List A) → AscendsBy name xs → IsSortedBy (λ a b. is_lt (compared (name a) (name b))) xs
  sorted xs h k d low high =
      ap is_lt (nat_list_cmp_total.antisymm (name (get_or xs (k + 1) d)) (name (get_or xs k d)) ∙ ap ordering_reverse (before_by xs k (k + 1) d h (omega arith) high))

  rises : (wanted : List ℕ) (xs : List A) → AscendsBy name xs → IsNonDecreasingBy (λ x. ordering_index (compared (name x) wanted)) xs
  rises wanted xs h = searchable_from_sorted nat_list_cmp_total name xs wanted (sorted xs h)

  -- the place that a search found
  pub found : (wanted : List ℕ) (xs : List A) (i : ℕ) (d : A) → AscendsBy name xs → i < length xs → compared (name (get_or xs i d)) wanted ≡ Equal → index_of_name name wanted xs ≡ Some i
  found wanted xs i d h within is =
      let same : bytes_eq (name (get_or xs i d)) wanted ≡ true = sym (is_eq-slice_cmp (name (get_or xs i d)) wanted) ∙ ap is_eq is in
      let wanted_is : name (get_or xs i d) ≡ wanted = (bytes_eq-Decides (name (get_or xs i d)) wanted).0 same in
      let here : position_or_len (λ x. bytes_eq (name x) wanted) xs ≡ i =
      position_or_len_is (λ x. bytes_eq (name x) wanted) xs i d (omega arith)
      (λ k lt. sym (is_eq-slice_cmp (name (get_or xs k d)) wanted) ∙ ap is_eq (subst (λ (l : List ℕ). compared (name (get_or xs k d)) l ≡ Less) wanted_is (before_by xs k i d h lt within)))
      (λ _. same) in
      rw (here, lt-ltb i (length xs) within) refl

  -- no place has the name
  pub missing : (wanted : List ℕ) (xs : List A) → ((i : ℕ) (d : A) → i < length xs → is_eq (compared (name (get_or xs i d)) wanted) ≡ false) → index_of_name name wanted xs ≡ None
  missing wanted [] h = refl
  missing wanted (x ∷ xs) h =
      let all = x ∷ xs in
      let past : position_or_len (λ x. bytes_eq (name x) wanted) all ≡ length all =
      position_or_len_is (λ x. bytes_eq (name x) wanted) all (length all) x (omega arith)
      (λ k lt. sym (is_eq-slice_cmp (name (get_or all k x)) wanted) ∙ h k x lt)
      (λ lt. absurd (omega (arith, lt))) in
      rw (past, le-ltb (length all) (length all) (omega arith)) refl

  lt_or_le : {P : Type 0} (i j : ℕ) → (i < j → P) → (j ≤ i → P) → P
  lt_or_le zero zero f g = g (omega arith)
  lt_or_le zero (suc j) f g = f (omega arith)
  lt_or_le (suc i) zero f g = g (omega arith)
  lt_or_le (suc i) (suc j) f g = lt_or_le i j (λ lt. f (omega arith)) (λ le. g (omega arith))

  -- what `binary_search_by` answers, where it compares each name with the one that is wanted: the first index of that
  -- name, if there is one
  pub searched : (wanted : List ℕ) (xs : List A) (r : Result ℕ ℕ) → AscendsBy name xs → IsSearchInRange r (length xs) → IsBinarySearchResult (λ x. compared (name x) wanted) xs r → index_of_name name wanted xs ≡ result_ok r
  searched wanted [] (Ok i) h within is = absurd (omega arith)
  searched wanted (x ∷ xs) (Ok i) h within is = found wanted (x ∷ xs) i x h within (is x)
  searched wanted xs (Err i) h within is =
      let parts = is (rises wanted xs h) in
      missing wanted xs
      (λ k d inside. lt_or_le k i (λ lt. ap is_eq (parts.0 k d (omega arith) lt)) (λ ge. ap is_eq (parts.1 k d ge inside)))
