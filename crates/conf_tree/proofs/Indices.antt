-- Digits, read from the left.
use Rattle.std.proofs.Common.{◌≡◌, ℕ, zero, suc, ◌+◌, ◌-◌, ◌*◌, ◌<◌, ◌≤◌, ◌&&◌, ◌==◌, nat_le, List, [], ◌∷◌, length, get_or, drop, Bool, true, false, cond, Option, Some, None, refl, arith, eq-eqb, le-leb}
use Rattle.conf_tree.specs.Paths.{digits_from, index_of}

unwrapped : (a b : ℕ) → Some a ≡ Some b → a ≡ b
unwrapped a b e = cc

grown : (b : Bool) (o : Option ℕ) (n i : ℕ) → (o ≡ Some i → n ≤ i) → cond b o None ≡ Some i → n ≤ i
grown true o n i h e = h e
grown false o n i h e = absurd (cc)

-- with more digits the number only grows
pub digits_grow : (n : ℕ) (ds : List ℕ) (i : ℕ) → digits_from n ds ≡ Some i → n ≤ i
digits_grow n [] i e = omega (arith, unwrapped n i e)
digits_grow n (c ∷ cs) i e =
    let more = 10 * n + (c - 48) in
    grown (nat_le 48 c && nat_le c 57) (digits_from more cs) n i (λ h. omega (arith, digits_grow more cs i h)) e

pub index_of_digits : (k : List ℕ) → 0 < length k → (1 < length k → (get_or k 0 0 == 48) ≡ false) → index_of k ≡ digits_from 0 k
index_of_digits [] some first = absurd (omega arith)
index_of_digits (c ∷ []) some first = refl
index_of_digits (c ∷ d ∷ cs) some first = rw (first (omega arith)) refl

pub index_of_zero : (k : List ℕ) (i : ℕ) → 1 < length k → get_or k 0 0 ≡ 48 → index_of k ≡ Some i → ⊥
index_of_zero [] i some first e = absurd (omega arith)
index_of_zero (c ∷ []) i some first e = absurd (omega arith)
index_of_zero (c ∷ d ∷ cs) i some first e = absurd (cc (rw (eq-eqb c 48 first) at e))

one_more : (b : Bool) (o : Option ℕ) → b ≡ true → cond b o None ≡ o
one_more true o e = refl
one_more false o e = absurd (cc)

-- the digit at j is read
pub digit_more : (n : ℕ) (ds : List ℕ) (j : ℕ) → j < length ds → 48 ≤ get_or ds j 0 → get_or ds j 0 ≤ 57 → digits_from n (drop j ds) ≡ digits_from (10 * n + (get_or ds j 0 - 48)) (drop (suc j) ds)
digit_more n [] j lt low high = absurd (omega arith)
digit_more n (d ∷ ds) zero lt low high = rw (le-leb 48 d low, le-leb d 57 high) refl
digit_more n (d ∷ ds) (suc j) lt low high = digit_more n ds j (omega arith) low high
