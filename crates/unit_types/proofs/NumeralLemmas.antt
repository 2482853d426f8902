-- Decimal numbers, digit by digit.
use Rattle.std.proofs.Common.{◌≡◌, ℕ, ◌+◌, ◌*◌, ◌-◌, ◌<◌, ◌≤◌, true, false, cond, List, [], ◌∷◌, length, drop, get_or, Option, Some, None, refl, ◌∙◌, arith}
use Rattle.std.specs.Char.{is_ascii_digit, digit_value}
use Rattle.std.specs.List.{list_all}
use Rattle.std.specs.Str.Parse.{digits_value_after}
use Rattle.std.proofs.lemmas.Bool.{lt-leb, le-leb}
use Rattle.std.proofs.lemmas.Bool.Decides.{nat_tests}
use Rattle.std.proofs.lemmas.List.{at_drop_more}
use Rattle.unit_types.specs.Numeral.{at_most}

-- the number of at most `limit` that is written, once these digits stand behind what wrote `n`
abbrev pub decimal_from : ℕ → ℕ → List ℕ → Option ℕ
decimal_from limit n ds = at_most limit (cond (list_all is_ascii_digit ds) (Some (digits_value_after 10 n ds)) None)

digit_is : (d : ℕ) → is_ascii_digit d ≡ true → digit_value d ≡ d - 48
digit_is d e = grind (arith, nat_tests)

pub decimal_from-digit : (limit n d : ℕ) (ds : List ℕ) → is_ascii_digit d ≡ true → decimal_from limit n (d ∷ ds) ≡ decimal_from limit (n * 10 + (d - 48)) ds
decimal_from-digit limit n d ds e = rw (e, digit_is d e) refl

pub decimal_from-other : (limit n d : ℕ) (ds : List ℕ) → is_ascii_digit d ≡ false → decimal_from limit n (d ∷ ds) ≡ None
decimal_from-other limit n d ds e = rw e refl

-- more digits make no number smaller
digits_rise : (n : ℕ) (ds : List ℕ) → n ≤ digits_value_after 10 n ds
digits_rise n [] = omega arith
digits_rise n (d ∷ ds) = omega (arith, digits_rise (n * 10 + digit_value d) ds)

pub decimal_from-above : (limit n : ℕ) (ds : List ℕ) → limit < n → decimal_from limit n ds ≡ None
decimal_from-above limit n ds h =
    elim (list_all is_ascii_digit ds) as (λ b. at_most limit (cond b (Some (digits_value_after 10 n ds)) None) ≡ None) [
      | true ↦ rw (lt-leb (digits_value_after 10 n ds) limit (omega (arith, h, digits_rise n ds))) refl
      | false ↦ refl
    ]

pub decimal_from-nil : (limit n : ℕ) → n ≤ limit → decimal_from limit n [] ≡ Some n
decimal_from-nil limit n h = rw (le-leb n limit h) refl

-- the digit at i makes the number exceed the limit
pub too_high_at : (limit n : ℕ) (text : List ℕ) (i : ℕ) → i < length text → is_ascii_digit (get_or text i 0) ≡ true → limit < n * 10 + (get_or text i 0 - 48) → decimal_from limit n (drop i text) ≡ None
too_high_at limit n text i within is_digit above =
    let d = get_or text i 0 in
    let rest = drop (i + 1) text in
    at_drop_more (decimal_from limit n) text i 0 within ∙ decimal_from-digit limit n d rest is_digit ∙ decimal_from-above limit (n * 10 + (d - 48)) rest above
