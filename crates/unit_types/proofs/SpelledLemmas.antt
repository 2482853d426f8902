-- Numbers and cut texts are read back as they are spelled, and nothing else is read as one.
use Rattle.std.proofs.Common.{ℕ, suc, ◌+◌, ◌-◌, ◌^◌, ◌<◌, ◌≤◌, ◌≡◌, ◌≢◌, ◌==◌, ◌&&◌, ◌||◌, ◌∙◌, ⊎_elim, Bool, true, false, cond, List, [], ◌∷◌, ◌++◌, length, take, drop, get_or, nat_le, nat_lt, refl, rules, sym, ap, arith, All, Option, Some, None, option_map, length-append}
use Rattle.std.specs.Prelude.{decimal}
use Rattle.std.specs.List.{list_all, list_any, position_or_len}
use Rattle.std.specs.Char.{is_ascii_digit}
use Rattle.std.specs.Int.{IsInRange}
use Rattle.std.specs.Str.Parse.{digits_value}
use Rattle.std.proofs.lemmas.Bool.{and_parts, cases_eq, le-leb, leb-true, lt-ltb, ltb-true, eq-eqb, eqb-true, ne_eqb}
use Rattle.std.proofs.lemmas.Fmt.{decimal_nonempty, digits_decimal, digits_value-decimal, decimal-digits_value, decimal_digit, first_decimal}
use Rattle.std.proofs.lemmas.List.{take-append-drop, drop_more}
use Rattle.std.proofs.lemmas.List.Elements.{All-head, All-tail}
use Rattle.std.proofs.lemmas.List.Sums.{passes_at_first}
use Rattle.std.proofs.lemmas.Str.Parse.{IsDigitsTest, IsNumeralModel, numerals_by_value}
use Rattle.unit_types.specs.Numeral.{at_most, decimal_of, has_leading_zero, is_decimal, plain_decimal_within}
use Rattle.unit_types.specs.Text.{cut}
use Rattle.unit_types.proofs.CutLemmas.{is_cut}

-- the byte stands in the text
abbrev pub has_byte : ℕ → List ℕ → Bool
has_byte byte text = list_any (λ b. b == byte) text

pub parts_false : (b c : Bool) → (b || c) ≡ false → (b ≡ false) × (c ≡ false)
parts_false true c e = absurd (cc e)
parts_false false c e = (refl, e)

-- ---- cuts

byte_at : (s : ℕ) (xs ys : List ℕ) → has_byte s xs ≡ false → position_or_len (λ b. b == s) (xs ++ s ∷ ys) ≡ length xs
byte_at s [] ys none = rw (eq-eqb s s refl) refl
byte_at s (x ∷ xs) ys none =
    let parts = parts_false (x == s) (has_byte s xs) none in
    rw parts.0 (let e : 1 + position_or_len (λ b. b == s) (xs ++ s ∷ ys) ≡ length (x ∷ xs) = omega (arith, byte_at s xs ys parts.1) in e)

pub take_front : (xs : List ℕ) (y : ℕ) (ys : List ℕ) → take (length xs) (xs ++ y ∷ ys) ≡ xs
take_front [] y ys = refl
take_front (x ∷ xs) y ys = ap (λ zs. x ∷ zs) (take_front xs y ys)

drop_front : (xs : List ℕ) (y : ℕ) (ys : List ℕ) → drop (suc (length xs)) (xs ++ y ∷ ys) ≡ ys
drop_front [] y ys = refl
drop_front (x ∷ xs) y ys = drop_front xs y ys

pub cut_at : (s : ℕ) (xs ys : List ℕ) → has_byte s xs ≡ false → cut s (xs ++ s ∷ ys) ≡ Some (xs, ys)
cut_at s xs ys none =
    let at = byte_at s xs ys none in
    let within : length xs < length (xs ++ s ∷ ys) = omega (arith, length-append xs (s ∷ ys)) in
    let one : length xs + 1 ≡ suc (length xs) = omega arith in
    rw (at, lt-ltb (length xs) (length (xs ++ s ∷ ys)) within, one, take_front xs s ys, drop_front xs s ys) refl

same_Some : {A : Type 0} (x y : A) → Some x ≡ Some y → x ≡ y
same_Some x y e = cc e

map_some : {A B : Type 0} (f : A → B) (b : Bool) (x : A) (y : B) → option_map f (cond b (Some x) None) ≡ Some y → (b ≡ true) × (f x ≡ y)
map_some f true x y e = (refl, same_Some (f x) y e)
map_some f false x y e = absurd (cc e)

pub cut_joined : (s : ℕ) (text : List ℕ) (parts : List ℕ × List ℕ) → cut s text ≡ Some parts → text ≡ parts.0 ++ s ∷ parts.1
cut_joined s text parts e =
    let at = position_or_len (λ b. b == s) text in
    let found = map_some (λ i. (take i text, drop (i + 1) text)) (nat_lt at (length text)) at parts e in
    let within = ltb-true at (length text) found.0 in
    let here = eqb-true (get_or text at 0) s (passes_at_first (λ b. b == s) text 0 within) in
    sym (take-append-drop at text)
    ∙ ap (λ rest. take at text ++ rest) (drop_more text at 0 within)
    ∙ ap (λ b. take at text ++ b ∷ drop (at + 1) text) here
    ∙ ap (λ p. p.0 ++ s ∷ p.1) found.1

none_of : (s : ℕ) (xs : List ℕ) → All (λ b. b ≢ s) xs → has_byte s xs ≡ false
none_of s [] all = refl
none_of s (x ∷ xs) all =
    rw (ne_eqb x s (All-head (λ b. b ≢ s) x xs all), none_of s xs (All-tail (λ b. b ≢ s) x xs all)) refl

pub cut_clean : (s : ℕ) (text : List ℕ) (parts : List ℕ × List ℕ) → cut s text ≡ Some parts → has_byte s parts.0 ≡ false
cut_clean s text parts e = none_of s parts.0 (is_cut s text parts.0 parts.1 e).clean

-- a text without a byte has none in its parts
pub no_byte_in : (s : ℕ) (xs ys : List ℕ) → has_byte s (xs ++ ys) ≡ false → (has_byte s xs ≡ false) × (has_byte s ys ≡ false)
no_byte_in s [] ys none = (refl, none)
no_byte_in s (x ∷ xs) ys none =
    let parts = parts_false (x == s) (has_byte s (xs ++ ys)) none in
    let both = no_byte_in s xs ys parts.1 in
    (rw (parts.0, both.0) refl, both.1)

pub no_byte_both : (s : ℕ) (xs ys : List ℕ) → has_byte s xs ≡ false → has_byte s ys ≡ false → has_byte s (xs ++ ys) ≡ false
no_byte_both s [] ys none other = other
no_byte_both s (x ∷ xs) ys none other =
    let parts = parts_false (x == s) (has_byte s xs) none in
    rw (parts.0, no_byte_both s xs ys parts.1 other) refl

-- ---- numbers

pub digit_in : (c : ℕ) → is_ascii_digit c ≡ true → IsInRange 48 57 c
digit_in c e = search rules

in_digit : (c : ℕ) → IsInRange 48 57 c → is_ascii_digit c ≡ true
in_digit c h = search rules

digits_test : IsDigitsTest (λ ds. list_all is_ascii_digit ds ≡ true)
digits_test = record {
  empty = refl;
  parts = λ c cs e. let both = and_parts (is_ascii_digit c) (list_all is_ascii_digit cs) e in (digit_in c both.0, both.1);
  more = λ c cs h e. rw (in_digit c h, e) refl;
}

pub own : IsNumeralModel (λ ds. list_all is_ascii_digit ds ≡ true) (digits_value 10)
own = numerals_by_value (λ ds. list_all is_ascii_digit ds ≡ true) digits_test

no_zero : (ds : List ℕ) → (get_or ds 0 0 ≢ 48) → has_leading_zero ds ≡ false
no_zero [] ne = refl
no_zero (d ∷ []) ne = refl
no_zero (d ∷ e ∷ ds) ne = rw (lt-ltb 1 (length (d ∷ e ∷ ds)) (omega arith)) (ne_eqb d 48 ne)

plain : (n : ℕ) → n < 2 ^ 64 → has_leading_zero (decimal n) ≡ false
plain n small =
    ⊎_elim
    (λ (z : n ≡ 0). ap (λ m. has_leading_zero (decimal m)) z ∙ ap has_leading_zero (decimal_digit 0 (omega arith)))
    (λ (ne : n ≢ 0).
    let first = first_decimal n (omega arith) small in
    no_zero (decimal n) (omega arith))
    (cases_eq n 0)

pub number_back : (limit n : ℕ) → n ≤ limit → n < 2 ^ 64 → plain_decimal_within limit (decimal n) ≡ Some n
number_back limit n le small =
    let digits : list_all is_ascii_digit (decimal n) ≡ true = digits_decimal own n small in
    let value : digits_value 10 (decimal n) ≡ n = digits_value-decimal own n small in
    rw (plain n small, lt-ltb 0 (length (decimal n)) (decimal_nonempty n small), digits, value, le-leb n limit le) refl

alone : (text : List ℕ) → has_leading_zero text ≡ false → get_or text 0 0 ≡ 48 → 0 < length text → length text ≡ 1
alone [] clean zero some = absurd (omega arith)
alone (d ∷ []) clean zero some = refl
alone (d ∷ e ∷ ds) clean zero some =
    let bad : has_leading_zero (d ∷ e ∷ ds) ≡ true = rw (lt-ltb 1 (length (d ∷ e ∷ ds)) (omega arith)) (eq-eqb d 48 zero) in
    absurd (cc (bad, clean))

by_zero : (limit : ℕ) (zero : Bool) (o : Option ℕ) (n : ℕ) → at_most limit (cond zero None o) ≡ Some n → (zero ≡ false) × (at_most limit o ≡ Some n)
by_zero limit true o n e = absurd (cc e)
by_zero limit false o n e = (refl, e)

by_digits : (limit : ℕ) (is : Bool) (value n : ℕ) → at_most limit (cond is (Some value) None) ≡ Some n → (is ≡ true) × (nat_le value limit ≡ true) × (value ≡ n)
by_digits limit false value n e = absurd (cc e)
by_digits limit true value n e = by_limit (nat_le value limit) refl e
  where
    by_limit : (le : Bool) → nat_le value limit ≡ le → cond le (Some value) None ≡ Some n → (true ≡ true) × (nat_le value limit ≡ true) × (value ≡ n)
    by_limit true is e = (refl, is, same_Some value n e)
    by_limit false is e = absurd (cc e)

pub number_spelled : (limit : ℕ) (text : List ℕ) (n : ℕ) → limit < 2 ^ 64 → plain_decimal_within limit text ≡ Some n → (n ≤ limit) × (text ≡ decimal n)
number_spelled limit text n small e =
    let front = by_zero limit (has_leading_zero text) (decimal_of text) n e in
    let read = by_digits limit (is_decimal text) (digits_value 10 text) n front.1 in
    let both = and_parts (nat_lt 0 (length text)) (list_all is_ascii_digit text) read.0 in
    let some : 0 < length text = ltb-true 0 (length text) both.0 in
    let le : digits_value 10 text ≤ limit = leb-true (digits_value 10 text) limit read.1 in
    let spelled = decimal-digits_value own text both.1 some (λ zero. alone text front.0 zero some) (omega (arith, le)) in
    (omega (arith, le, read.2), sym spelled ∙ ap decimal read.2)

-- the digits of a number have no byte below `0`
pub digits_no_byte : (s : ℕ) (ds : List ℕ) → s < 48 → list_all is_ascii_digit ds ≡ true → has_byte s ds ≡ false
digits_no_byte s [] low e = refl
digits_no_byte s (d ∷ ds) low e =
    let both = and_parts (is_ascii_digit d) (list_all is_ascii_digit ds) e in
    let range = digit_in d both.0 in
    rw (ne_eqb d s (omega (arith, range)), digits_no_byte s ds low both.1) refl

pub decimal_no_byte : (s n : ℕ) → s < 48 → n < 2 ^ 64 → has_byte s (decimal n) ≡ false
decimal_no_byte s n low small = digits_no_byte s (decimal n) low (digits_decimal own n small)
