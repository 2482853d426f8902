-- Lemmas on the text of a query.
use Rattle.std.proofs.Common.{◌≡◌, ◌≢◌, ℕ, ◌+◌, ◌*◌, ◌<◌, ◌≤◌, List, [], ◌∷◌, length, map, drop, get_or, sym, ap, ◌∙◌, subst, ⊎_elim, arith}
use Rattle.std.specs.Char.{digit_value}
use Rattle.std.proofs.lemmas.Bool.{cond-false, cases_eq, ne_eqb}
use Rattle.std.proofs.lemmas.Bool.Decides.{nat_tests}
use Rattle.std.proofs.lemmas.List.{get_or-map, drop-map, length-map}
use Rattle.percent_encoding.specs.Percent.{percent_decode, KeepsFirst}
use Rattle.percent_encoding.proofs.PercentLemmas.{percent_decode-nil, percent_decode_at_escape, KeepsFirst_from_no_escape}
use Rattle.path_normal.specs.Pairs.{query_text, spaced}

pub query_text-nil : query_text [] ≡ []
query_text-nil = percent_decode-nil

spaced_percent : (b : ℕ) → spaced b ≡ 37 → b ≡ 37
spaced_percent b e = grind (arith, nat_tests)

spaced_other : (b : ℕ) → b ≢ 43 → spaced b ≡ b
spaced_other b other = cond-false _ _ _ (ne_eqb b 43 other)

-- a hexadecimal digit is no `+` and no space
digit_no_plus : (b : ℕ) → digit_value b < 16 → b ≢ 43
digit_no_plus b digit plus =
    let never : digit_value 43 < 16 = subst (λ n. digit_value n < 16) plus digit in
    absurd (omega (arith, never))

unspaced_digit : (b : ℕ) → digit_value (spaced b) < 16 → digit_value b < 16
unspaced_digit b digit =
    ⊎_elim
    (λ plus. let never : digit_value 32 < 16 = subst (λ n. digit_value (spaced n) < 16) plus digit in absurd (omega (arith, never)))
    (λ other. subst (λ n. digit_value n < 16) (spaced_other b other) digit)
    (cases_eq b 43)

spaced_at : (text : List ℕ) (i : ℕ) → i < length text → get_or (map spaced text) i 0 ≡ spaced (get_or text i 0)
spaced_at text i within = get_or-map spaced text i 0 0 within

-- a text that begins with no escape keeps its first byte
pub keeps_first : (text : List ℕ) → (3 ≤ length text → get_or text 0 0 ≡ 37 → digit_value (get_or text 1 0) < 16 → digit_value (get_or text 2 0) < 16 → ⊥) → KeepsFirst (map spaced text)
keeps_first text never =
    KeepsFirst_from_no_escape (map spaced text)
    (λ long percent high low.
    let enough : 3 ≤ length text = omega (arith, length-map text spaced) in
    never enough
    (spaced_percent (get_or text 0 0) (sym (spaced_at text 0 (omega arith)) ∙ percent))
    (unspaced_digit (get_or text 1 0) (subst (λ n. digit_value n < 16) (spaced_at text 1 (omega arith)) high))
    (unspaced_digit (get_or text 2 0) (subst (λ n. digit_value n < 16) (spaced_at text 2 (omega arith)) low)))

-- one that begins with an escape gives its byte
pub gives_escape : (text : List ℕ) → 3 ≤ length text → get_or text 0 0 ≡ 37 → digit_value (get_or text 1 0) < 16 → digit_value (get_or text 2 0) < 16 → query_text text ≡ (16 * digit_value (get_or text 1 0) + digit_value (get_or text 2 0)) ∷ query_text (drop 3 text)
gives_escape text long percent high low =
    let first : get_or (map spaced text) 0 0 ≡ 37 = spaced_at text 0 (omega arith) ∙ ap spaced percent in
    let second : get_or (map spaced text) 1 0 ≡ get_or text 1 0 = spaced_at text 1 (omega arith) ∙ spaced_other _ (digit_no_plus _ high) in
    let third : get_or (map spaced text) 2 0 ≡ get_or text 2 0 = spaced_at text 2 (omega arith) ∙ spaced_other _ (digit_no_plus _ low) in
    let decoded = percent_decode_at_escape (map spaced text) (omega (arith, length-map text spaced)) first (subst (λ n. digit_value n < 16) (sym second) high) (subst (λ n. digit_value n < 16) (sym third) low) in
    decoded ∙ (λ i. (16 * digit_value (second i) + digit_value (third i)) ∷ percent_decode (drop-map spaced 3 text i))
