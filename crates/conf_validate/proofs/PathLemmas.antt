-- Escaped keys are UTF-8.
use Rattle.std.proofs.Common.{◌≡◌, ℕ, zero, suc, ◌+◌, ◌/◌, ◌%◌, ◌<◌, ◌≤◌, Bool, true, false, cond, ◌==◌, List, [], ◌∷◌, ◌++◌, length, get_or, IsUtf8, decimal, inl, inr, refl, sym, ap₂, subst, arith, append-nil, ne_eqb}
use Rattle.std.proofs.lemmas.Bool.{and_parts, cases_lt, cases_eq}
use Rattle.std.proofs.lemmas.Grind.{flat_map-append}
use Rattle.std.proofs.lemmas.Str.{IsUtf8-append, IsUtf8-nil, IsUtf8-encode, encode_ascii, inside_one}
use Rattle.std.specs.Fmt.{digit_glyph, digits, digits_onto}
use Rattle.std.specs.List.{flat_map}
use lib.Utf8.{scalar, scalars, encode, encodes, low_scalar}
use Rattle.conf_validate.specs.Valid.{key_byte, level}

ascii_then : (x : ℕ) (xs : List ℕ) → x < 128 → IsUtf8 xs → IsUtf8 (x ∷ xs)
ascii_then x xs small u = IsUtf8-append (x ∷ []) xs (subst IsUtf8 (encode_ascii x small) (IsUtf8-encode x (low_scalar x (omega arith)))) u

-- ---- keys

plain_byte : (x : ℕ) → 128 ≤ x → key_byte x ≡ x ∷ []
plain_byte x high = rw (ne_eqb x 126 (λ e. omega arith), ne_eqb x 47 (λ e. omega arith)) refl

plain_bytes : (xs : List ℕ) → ((k : ℕ) → k < length xs → 128 ≤ get_or xs k 0) → flat_map key_byte xs ≡ xs
plain_bytes [] h = refl
plain_bytes (x ∷ xs) h = ap₂ (λ (a b : List ℕ). a ++ b) (plain_byte x (h 0 (omega arith))) (plain_bytes xs (λ k below. h (suc k) (omega arith)))

ascii_byte : (x : ℕ) → x < 128 → IsUtf8 (key_byte x)
ascii_byte x small = elim (cases_eq x 126) [
  | inl tilde ↦ rw tilde (ascii_then 126 _ (omega arith) (ascii_then 48 _ (omega arith) IsUtf8-nil))
  | inr other ↦ elim (cases_eq x 47) [
    | inl slash ↦ rw slash (ascii_then 126 _ (omega arith) (ascii_then 49 _ (omega arith) IsUtf8-nil))
    | inr plain ↦ rw (ne_eqb x 126 other, ne_eqb x 47 plain) (ascii_then x [] small IsUtf8-nil)
  ]
]

one_char : (c : ℕ) → scalar c ≡ true → IsUtf8 (flat_map key_byte (encode c))
one_char c ok = elim (cases_lt c 128) [
  | inl small ↦ rw (encode_ascii c small, append-nil) (ascii_byte c small)
  | inr big ↦
      let high : (k : ℕ) → k < length (encode c) → 128 ≤ get_or (encode c) k 0 = λ k below. elim (cases_lt (get_or (encode c) k 0) 128) [
        | inl low ↦ absurd (omega (arith, inside_one c [] (encode c) k (sym (append-nil _)) below low))
        | inr h ↦ h
      ] in
      subst IsUtf8 (sym (plain_bytes (encode c) high)) (IsUtf8-encode c ok)
]

all_chars : (cs : List ℕ) → scalars cs ≡ true → IsUtf8 (flat_map key_byte (encodes cs))
all_chars [] e = IsUtf8-nil
all_chars (c ∷ cs) e =
    let p = and_parts _ _ e in
    subst IsUtf8 (sym (flat_map-append key_byte (encode c) (encodes cs))) (IsUtf8-append _ _ (one_char c p.0) (all_chars cs p.1))

pub level_text : (key : List ℕ) → IsUtf8 key → IsUtf8 (level key)
level_text key u = ascii_then 47 _ (omega arith) (subst (λ (l : List ℕ). IsUtf8 (flat_map key_byte l)) u.1.1 (all_chars u.0 u.1.0))

-- ---- numbers

glyph_small : (d : ℕ) → d < 10 → digit_glyph false d < 128
glyph_small d h = grind arith

either_text : (b : Bool) (xs ys : List ℕ) → IsUtf8 xs → IsUtf8 ys → IsUtf8 (cond b xs ys)
either_text true xs ys u v = u
either_text false xs ys u v = v

digits_text : (k n : ℕ) (acc : List ℕ) → IsUtf8 acc → IsUtf8 (digits_onto k 10 false n acc)
digits_text zero n acc u = u
digits_text (suc k) n acc u =
    let more = ascii_then (digit_glyph false (n % 10)) acc (glyph_small (n % 10) (omega arith)) u in
    either_text (n / 10 == 0) _ _ more (digits_text k (n / 10) (digit_glyph false (n % 10) ∷ acc) more)

pub decimal_text : (n : ℕ) → IsUtf8 (decimal n)
unfolding digits
decimal_text n = digits_text 64 n [] IsUtf8-nil
