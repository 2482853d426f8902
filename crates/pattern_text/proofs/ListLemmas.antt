-- Lemmas on lists of patterns.
use Rattle.std.proofs.Common.{◌≡◌, ℕ, Bool, true, false, not, ◌&&◌, ◌||◌, eqb, cond, List, [], ◌∷◌, map, drop, sym, refl, ap, ◌∙◌, map-id, arith}
use Rattle.std.specs.Bool.{beq}
use Rattle.std.specs.Char.{to_ascii_lowercase}
use Rattle.std.specs.Str.{str_to_ascii_lowercase}
use Rattle.std.specs.List.{list_any, list_all}
use Rattle.std.proofs.lemmas.Bool.Decides.{nat_tests}
use Rattle.std.proofs.lemmas.List.Folds.{list_all-map}
use Rattle.pattern_text.specs.declared.case.Case.TheVariants.{Exact, Ignored}
use Rattle.pattern_text.specs.Case.{folded_all, holds_of, list_holds}
use Rattle.pattern_text.specs.TextPattern.{is_negated, plain_part, text_matches, list_matches, list_matches_ignoring_case}

-- tests that agree find alike
list_any_alike : {X : Type 0} (p q : X → Bool) → ((x : X) → p x ≡ q x) → (xs : List X) → list_any p xs ≡ list_any q xs
list_any_alike p q same xs = λ i. list_any (λ x. same x i) xs

list_all_alike : {X : Type 0} (p q : X → Bool) → ((x : X) → p x ≡ q x) → (xs : List X) → list_all p xs ≡ list_all q xs
list_all_alike p q same xs = λ i. list_all (λ x. same x i) xs

list_any-map : {X Y : Type 0} (p : X → Bool) (h : Y → X) (ys : List Y) → list_any p (map h ys) ≡ list_any (λ y. p (h y)) ys
list_any-map p h [] = refl
list_any-map p h (y ∷ ys) = ap (λ b. p (h y) || b) (list_any-map p h ys)

-- the case of letters leaves the `!`
is_negated-lowercase : (pattern : List ℕ) → is_negated (str_to_ascii_lowercase pattern) ≡ is_negated pattern
is_negated-lowercase [] = refl
is_negated-lowercase (b ∷ bs) = ap (λ t. t && true) (bang b)
  where
    bang : (b : ℕ) → eqb 33 (to_ascii_lowercase b) ≡ eqb 33 b
    bang b = grind (arith, nat_tests)

drop_first-map : (f : ℕ → ℕ) (xs : List ℕ) → drop 1 (map f xs) ≡ map f (drop 1 xs)
drop_first-map f [] = refl
drop_first-map f (x ∷ xs) = refl

plain_part-lowercase : (pattern : List ℕ) → plain_part (str_to_ascii_lowercase pattern) ≡ str_to_ascii_lowercase (plain_part pattern)
plain_part-lowercase pattern =
    ap (λ t. cond t (drop 1 (str_to_ascii_lowercase pattern)) (str_to_ascii_lowercase pattern)) (is_negated-lowercase pattern) ∙ by_sign (is_negated pattern)
  where
    by_sign : (t : Bool) → cond t (drop 1 (str_to_ascii_lowercase pattern)) (str_to_ascii_lowercase pattern) ≡ str_to_ascii_lowercase (cond t (drop 1 pattern) pattern)
    by_sign true = drop_first-map to_ascii_lowercase pattern
    by_sign false = refl

-- where case counts, a byte is compared as itself
exactly : (xs : List ℕ) → folded_all Exact xs ≡ xs
exactly xs = map-id xs

pub list_holds_exactly : (patterns : List (List ℕ)) (bytes : List ℕ) → list_holds Exact patterns bytes ≡ list_matches patterns bytes
list_holds_exactly patterns bytes = λ i. (list_any (λ p. not (is_negated p) && same p i) patterns || list_all is_negated patterns) && not (list_any (λ p. is_negated p && same p i) patterns)
  where
    same : (p : List ℕ) → holds_of Exact p bytes ≡ text_matches (plain_part p) bytes
    same p = λ i. text_matches (exactly (plain_part p) i) (exactly bytes i)

pub list_holds_ignoring_case : (patterns : List (List ℕ)) (bytes : List ℕ) → list_holds Ignored patterns bytes ≡ list_matches_ignoring_case patterns bytes
list_holds_ignoring_case patterns bytes = one_by_one ∙ at_once
  where
    lower : List ℕ → List ℕ
    lower xs = str_to_ascii_lowercase xs

    plain : List ℕ → Bool
    plain p = not (is_negated p) && text_matches (plain_part p) (str_to_ascii_lowercase bytes)

    negated : List ℕ → Bool
    negated p = is_negated p && text_matches (plain_part p) (str_to_ascii_lowercase bytes)

    same : (p : List ℕ) → holds_of Ignored p bytes ≡ text_matches (plain_part (str_to_ascii_lowercase p)) (str_to_ascii_lowercase bytes)
    same p = ap (λ x. text_matches x (str_to_ascii_lowercase bytes)) (sym (plain_part-lowercase p))

    sign : (p : List ℕ) → is_negated p ≡ is_negated (str_to_ascii_lowercase p)
    sign p = sym (is_negated-lowercase p)

    one_by_one : list_holds Ignored patterns bytes ≡ ((list_any (λ p. plain (lower p)) patterns || list_all (λ p. is_negated (lower p)) patterns) && not (list_any (λ p. negated (lower p)) patterns))
    one_by_one = λ i. (list_any (λ p. not (sign p i) && same p i) patterns || list_all (λ p. sign p i) patterns) && not (list_any (λ p. sign p i && same p i) patterns)

    at_once : ((list_any (λ p. plain (lower p)) patterns || list_all (λ p. is_negated (lower p)) patterns) && not (list_any (λ p. negated (lower p)) patterns)) ≡ list_matches_ignoring_case patterns bytes
    at_once = λ i. (sym (list_any-map plain lower patterns) i || sym (list_all-map is_negated lower patterns) i) && not (sym (list_any-map negated lower patterns) i)

-- a list of one pattern matches where the pattern does, or where it is negated and its rest doesn't
pub list_of_one : (pattern bytes : List ℕ) → list_matches (pattern ∷ []) bytes ≡ not (beq (text_matches (plain_part pattern) bytes) (is_negated pattern))
list_of_one pattern bytes = by_both (is_negated pattern) (text_matches (plain_part pattern) bytes)
  where
    by_both : (n m : Bool) → (((not n && m || false) || (n && true)) && not (n && m || false)) ≡ not (beq m n)
    by_both true true = refl
    by_both true false = refl
    by_both false true = refl
    by_both false false = refl

pub holds_exactly : (pattern bytes : List ℕ) → holds_of Exact pattern bytes ≡ text_matches (plain_part pattern) bytes
holds_exactly pattern bytes = λ i. text_matches (exactly (plain_part pattern) i) (exactly bytes i)
