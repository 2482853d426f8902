-- What holds of escaped expansions.
use Rattle.std.proofs.Common.{ℕ, ◌+◌, zero, suc, ltb, eqb, ◌||◌, List, [], ◌∷◌, drop, take, All, nat_eq, arith}
use Rattle.std.specs.List.{flat_map, starts_with}
use Rattle.std.proofs.lemmas.Bool.{cond_both, or_parts, ltb-false}
use Rattle.std.proofs.lemmas.List.Elements.{All-nil, All-cons, All-head, All-tail, All-append, All-weaker}
use Rattle.percent_encoding.specs.Percent.{percent_encode_byte}
use Rattle.percent_encoding.proofs.PercentLemmas.{IsEscapeByte, All-percent_encode_byte}
use Rattle.unit_types.specs.declared.message.Request.{Request}
use Rattle.path_normal.specs.Variables.{PieceText, byte, variable, stray, run_len, begins_closed_name, begins_name, braced, bare, behind_dollar, pieces_past, pieces_of, piece_value, variable_value, escaped, escaped_byte, escaped_expansion_of, IsVisible, IsInLine}

-- ---- escaped values

visible_of_escape : (b : ℕ) → IsEscapeByte b → IsVisible b
visible_of_escape b escape = grind arith

byte_visible : (b : ℕ) → All IsVisible (escaped_byte b)
byte_visible b =
    cond_both (ltb b 33 || ltb 126 b) (percent_encode_byte b) (b ∷ []) (All IsVisible)
    (λ _. All-weaker IsEscapeByte IsVisible visible_of_escape (percent_encode_byte b) (All-percent_encode_byte b))
    (λ within. let parts = or_parts (ltb b 33) (ltb 126 b) within in
    All-cons IsVisible b [] (ltb-false b 33 parts.0, ltb-false 126 b parts.1) (All-nil IsVisible))

pub escaped_visible : (value : List ℕ) → All IsVisible (escaped value)
escaped_visible [] = All-nil IsVisible
escaped_visible (b ∷ bs) = All-append IsVisible (escaped_byte b) (escaped bs) (byte_visible b) (escaped_visible bs)

-- ---- what holds of each byte of the text and of each value holds of each byte of the expansion

abbrev ByteHas : (ℕ → Type 0) → PieceText → Type 0
ByteHas P (byte b) = P b
ByteHas P (variable name) = Unit {0}
ByteHas P stray = Unit {0}

abbrev FirstHas : (ℕ → Type 0) → PieceText × ℕ → Type 0
FirstHas P x = ByteHas P x.0

dollar_has : (P : ℕ → Type 0) (text : List ℕ) → FirstHas P (behind_dollar text)
dollar_has P text =
    cond_both (starts_with nat_eq text (123 ∷ [])) (braced (drop 1 text)) (bare text) (FirstHas P)
    (λ _. cond_both (begins_closed_name (drop 1 text)) (variable (take (run_len (drop 1 text)) (drop 1 text)), run_len (drop 1 text) + 2) (stray, 0) (FirstHas P) (λ _. tt) (λ _. tt))
    (λ _. cond_both (begins_name text) (variable (take (run_len text) text), run_len text) (stray, 0) (FirstHas P) (λ _. tt) (λ _. tt))

pieces_have : (P : ℕ → Type 0) (n : ℕ) (text : List ℕ) → All P text → All (ByteHas P) (pieces_past n text)
pieces_have P n [] all = All-nil (ByteHas P)
pieces_have P zero (b ∷ bs) all =
    cond_both (eqb b 36) ((behind_dollar bs).0 ∷ pieces_past (behind_dollar bs).1 bs) (byte b ∷ pieces_past 0 bs) (All (ByteHas P))
    (λ _. All-cons (ByteHas P) (behind_dollar bs).0 (pieces_past (behind_dollar bs).1 bs) (dollar_has P bs) (pieces_have P (behind_dollar bs).1 bs (All-tail P b bs all)))
    (λ _. All-cons (ByteHas P) (byte b) (pieces_past 0 bs) (All-head P b bs all) (pieces_have P 0 bs (All-tail P b bs all)))
pieces_have P (suc n) (b ∷ bs) all = pieces_have P n bs (All-tail P b bs all)

values_have : (P : ℕ → Type 0) (value : List ℕ → List ℕ) (pieces : List PieceText) → P 36 → ((name : List ℕ) → All P (value name)) → All (ByteHas P) pieces → All P (flat_map (piece_value value) pieces)
values_have P value [] dollar each all = All-nil P
values_have P value (byte b ∷ more) dollar each all =
    All-cons P b (flat_map (piece_value value) more) (All-head (ByteHas P) (byte b) more all) (values_have P value more dollar each (All-tail (ByteHas P) (byte b) more all))
values_have P value (variable name ∷ more) dollar each all =
    All-append P (value name) (flat_map (piece_value value) more) (each name) (values_have P value more dollar each (All-tail (ByteHas P) (variable name) more all))
values_have P value (stray ∷ more) dollar each all =
    All-cons P 36 (flat_map (piece_value value) more) dollar (values_have P value more dollar each (All-tail (ByteHas P) stray more all))

in_line_of_visible : (b : ℕ) → IsVisible b → IsInLine b
in_line_of_visible b visible =
    (λ e. omega (arith, e, visible.0), λ e. omega (arith, e, visible.0), λ e. omega (arith, e, visible.0))

pub stays_in_line : (text : List ℕ) (request : Request) → All IsInLine text → All IsInLine (escaped_expansion_of text request)
stays_in_line text request all =
    values_have IsInLine (λ name. escaped (variable_value request name)) (pieces_of text) (in_line_of_visible 36 (omega arith, omega arith))
    (λ name. All-weaker IsVisible IsInLine in_line_of_visible (escaped (variable_value request name)) (escaped_visible (variable_value request name)))
    (pieces_have IsInLine 0 text all)
