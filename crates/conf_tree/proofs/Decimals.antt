-- The decimal text of an integer of any size up to 128 bits is a number of JSON (RFC 8259, section 6).
use Rattle.std.proofs.Common.{◌≡◌, ℕ, ℤ, pos, negsuc, zero, suc, ◌+◌, ◌%◌, ◌^◌, ◌<◌, ◌≤◌, false, cond, ◌==◌, List, [], ◌∷◌, ◌++◌, length, drop, get_or, Some, option_and_then, decimal, refl, ap, ◌∙◌, arith, le-leb, ne_eqb, length-append}
use Rattle.std.proofs.lemmas.List.{drop_all, get_or_append_left}
use Rattle.std.proofs.lemmas.Fmt.{decimal_by_steps_wide, decimal_digit}
use Rattle.std.specs.Char.{is_ascii_digit}
use Rattle.std.specs.Fmt.{signed_decimal}
use Rattle.std.specs.List.{prefix_len}
use Rattle.std.specs.Prelude.{⊤}
use Rattle.json.specs.Print.{IsNumber}
use Rattle.json.specs.Word.{head, after_whole, after_fraction, after_exponent, after_number}
use Rattle.std.specs.Int.Signed.{mag}

abbrev AreDigits : List ℕ → Type 0
AreDigits [] = ⊤
AreDigits (d ∷ ds) = (48 ≤ d) × (d ≤ 57) × AreDigits ds

-- digits, the first of which is no 0
record IsWhole (ds : List ℕ) : Type 0 where
  pub digits : AreDigits ds
  pub some : 0 < length ds
  pub first : 48 < get_or ds 0 0

digits_append : (ds es : List ℕ) → AreDigits ds → AreDigits es → AreDigits (ds ++ es)
digits_append [] es h k = k
digits_append (d ∷ ds) es h k = (h.0, h.1, digits_append ds es h.2 k)

whole_decimal : (n : ℕ) → 0 < n → n < 10 ^ 64 → IsWhole (decimal n)
whole_decimal n some small =
    decimal_by_steps_wide (λ m ds. 0 < m → IsWhole ds)
    (λ m l a. record { digits = (omega arith, omega arith, tt); some = omega arith; first = omega arith })
    (λ m ds l h a.
    let front = h (omega arith) in
    let last = (48 + m % 10) ∷ [] in
    record {
      digits = digits_append ds last front.digits (omega arith, omega arith, tt);
      some = omega (arith, length-append ds last);
      first = omega (arith, get_or_append_left ds last 0 0 front.some, front.first);
    }) n small some

all_digits : (ds : List ℕ) → AreDigits ds → prefix_len is_ascii_digit ds ≡ length ds
all_digits [] h = refl
all_digits (d ∷ ds) h = rw (le-leb 48 d h.0, le-leb d 57 h.1) (omega (arith, all_digits ds h.2))

after_a_whole : (ds : List ℕ) → IsWhole ds → (after_whole ds ≡ Some []) × ((head ds == 45) ≡ false)
after_a_whole [] h = absurd (omega (arith, h.some))
after_a_whole (d ∷ ds) h =
    let all = all_digits (d ∷ ds) h.digits in
    let first : 48 < d = h.first in (
      rw (ne_eqb d 48 (λ e. omega arith), all, ne_eqb (length (d ∷ ds)) 0 (λ e. omega arith)) (ap Some (drop_all (length (d ∷ ds)) (d ∷ ds) (omega arith))),
      ne_eqb d 45 (λ e. omega arith),
    )

after_a_decimal : (n : ℕ) → n < 10 ^ 64 → (after_whole (decimal n) ≡ Some []) × ((head (decimal n) == 45) ≡ false)
after_a_decimal zero h = let e = decimal_digit 0 (omega arith) in (ap after_whole e, ap (λ ds. head ds == 45) e)
after_a_decimal (suc n) h = after_a_whole (decimal (suc n)) (whole_decimal (suc n) (omega arith) h)

is_number_decimal : (n : ℕ) → n < 10 ^ 64 → IsNumber (decimal n)
unfolding after_number
is_number_decimal n h =
    let w = after_a_decimal n h in
    ap (λ o. option_and_then after_exponent (option_and_then after_fraction o)) (ap (λ b. after_whole (cond b (drop 1 (decimal n)) (decimal n))) w.1 ∙ w.0)

is_number_minus : (n : ℕ) → n < 10 ^ 64 → IsNumber (45 ∷ decimal n)
unfolding after_number
is_number_minus n h = ap (λ o. option_and_then after_exponent (option_and_then after_fraction o)) (after_a_decimal n h).0

pub is_number_signed : (z : ℤ) → mag z < 2 ^ 127 → IsNumber (signed_decimal z)
is_number_signed (pos n) h = is_number_decimal n (omega arith)
is_number_signed (negsuc n) h = is_number_minus (suc n) (omega arith)
