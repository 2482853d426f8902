-- Each number is the index of one key alone.
use Rattle.std.proofs.Common.{◌≡◌, ℕ, zero, suc, ◌+◌, ◌-◌, ◌*◌, ◌<◌, ◌≤◌, ◌&&◌, ◌==◌, nat_le, List, [], ◌∷◌, length, Bool, true, false, cond, Option, Some, None, refl, sym, ap, ap₂, ◌∙◌, arith, eq-eqb}
use Rattle.std.proofs.lemmas.Bool.{leb-true}
use Rattle.conf_tree.specs.Paths.{digits_from, index_of}

taken : (b : Bool) (o : Option ℕ) (i : ℕ) → cond b o None ≡ Some i → (b ≡ true) × (o ≡ Some i)
taken true o i h = (refl, h)
taken false o i h = absurd (cc h)

left : (b : Bool) (o : Option ℕ) (i : ℕ) → cond b None o ≡ Some i → (b ≡ false) × (o ≡ Some i)
left true o i h = absurd (cc h)
left false o i h = (refl, h)

both : (a b : Bool) → (a && b) ≡ true → (a ≡ true) × (b ≡ true)
both true true h = (refl, refl)
both true false h = absurd (cc h)
both false b h = absurd (cc h)

same_number : (n m : ℕ) → Some n ≡ Some m → n ≡ m
same_number n m e = cc e

-- one digit of digits that write a number
record IsDigit (n c : ℕ) (cs : List ℕ) (i : ℕ) : Type 0 where
  pub low : 48 ≤ c
  pub high : c ≤ 57
  pub rest : digits_from (10 * n + (c - 48)) cs ≡ Some i

digit : (n c : ℕ) (cs : List ℕ) (i : ℕ) → digits_from n (c ∷ cs) ≡ Some i → IsDigit n c cs i
digit n c cs i h =
    let parts = taken (nat_le 48 c && nat_le c 57) (digits_from (10 * n + (c - 48)) cs) i h in
    let tests = both (nat_le 48 c) (nat_le c 57) parts.0 in
    record { low = leb-true 48 c tests.0; high = leb-true c 57 tests.1; rest = parts.1 }

-- as many digits that write the same number are the same
same_digits : (n m i : ℕ) (ds es : List ℕ) → digits_from n ds ≡ Some i → digits_from m es ≡ Some i → length ds ≡ length es → (n ≡ m) × (ds ≡ es)
same_digits n m i [] [] h k e = (same_number n i h ∙ sym (same_number m i k), refl)
same_digits n m i [] (d ∷ es) h k e = absurd (omega (arith, e))
same_digits n m i (c ∷ ds) [] h k e = absurd (omega (arith, e))
same_digits n m i (c ∷ ds) (d ∷ es) h k e =
    let one = digit n c ds i h in
    let other = digit m d es i k in
    let rest = same_digits (10 * n + (c - 48)) (10 * m + (d - 48)) i ds es one.rest other.rest (omega (arith, e)) in
    let first : c ≡ d = omega (arith, one.low, one.high, other.low, other.high, rest.0) in
    (omega (arith, one.low, one.high, other.low, other.high, rest.0), ap₂ (λ (x : ℕ) (xs : List ℕ). x ∷ xs) first rest.1)

by_order : {P : Type 0} (i j : ℕ) → (i < j → P) → (i ≡ j → P) → (j < i → P) → P
by_order zero zero f g h = g refl
by_order zero (suc j) f g h = f (omega arith)
by_order (suc i) zero f g h = h (omega arith)
by_order (suc i) (suc j) f g h = by_order i j (λ lt. f (omega arith)) (λ e. g (ap suc e)) (λ lt. h (omega arith))

-- where more digits write the same number, what came before them is less
more_digits : (n m i : ℕ) (ds es : List ℕ) → digits_from n ds ≡ Some i → digits_from m es ≡ Some i → length ds < length es → 10 * m ≤ n
more_digits n m i ds [] h k lt = absurd (omega arith)
more_digits n m i ds (d ∷ es) h k lt =
    let one = digit m d es i k in
    by_order (length ds) (length es)
    (λ less. omega (arith, more_digits n (10 * m + (d - 48)) i ds es h one.rest less))
    (λ e. omega (arith, (same_digits n (10 * m + (d - 48)) i ds es h one.rest e).0))
    (λ more. absurd (omega (arith, lt, more)))

-- a key that is an index: its first digit, which is no 0 before another
record IsIndex (k : List ℕ) (i : ℕ) : Type 0 where
  pub first : ℕ
  pub others : List ℕ
  pub whole : k ≡ first ∷ others
  pub digit : IsDigit 0 first others i
  pub no_zero : 0 < length others → 48 < first

index : (k : List ℕ) (i : ℕ) → index_of k ≡ Some i → IsIndex k i
index [] i h = absurd (cc h)
index (c ∷ []) i h = record { first = c; others = []; whole = refl; digit = digit 0 c [] i h; no_zero = λ some. absurd (omega arith) }
index (c ∷ d ∷ cs) i h =
    let parts = left (c == 48) (digits_from 0 (c ∷ d ∷ cs)) i h in
    let is = digit 0 c (d ∷ cs) i parts.1 in
    let differs : c ≡ 48 → ⊥ = λ e. let yes : (c == 48) ≡ true = eq-eqb c 48 e in cc (yes, parts.0) in
    record { first = c; others = d ∷ cs; whole = refl; digit = is; no_zero = λ some. omega (arith, is.low, differs) }

pub one_key : (k l : List ℕ) (i : ℕ) → index_of k ≡ Some i → index_of l ≡ Some i → k ≡ l
one_key k l i h e =
    let a = index k i h in
    let b = index l i e in
    let m = 10 * 0 + (a.first - 48) in
    let n = 10 * 0 + (b.first - 48) in
    by_order (length a.others) (length b.others)
    (λ less. absurd (omega (arith, a.digit.low, a.digit.high, b.no_zero (omega (arith, less)), more_digits m n i a.others b.others a.digit.rest b.digit.rest less)))
    (λ same. let rest = same_digits m n i a.others b.others a.digit.rest b.digit.rest same in
    let first : a.first ≡ b.first = omega (arith, a.digit.low, b.digit.low, rest.0) in
    a.whole ∙ ap₂ (λ (x : ℕ) (xs : List ℕ). x ∷ xs) first rest.1 ∙ sym b.whole)
    (λ more. absurd (omega (arith, b.digit.low, b.digit.high, a.no_zero (omega (arith, more)), more_digits n m i b.others a.others b.digit.rest a.digit.rest more)))
