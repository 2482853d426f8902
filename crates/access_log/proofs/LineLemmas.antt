-- No line has an LF but at its end.
use Rattle.std.proofs.Common.{◌≢◌, ℕ, ◌+◌, ◌/◌, ◌%◌, ◌≤◌, zero, suc, true, ltb, eqb, List, [], ◌∷◌, length, drop, take, Option, All, nat_eq, refl, arith}
use Rattle.std.specs.Fmt.{digit_glyph}
use Rattle.std.specs.List.{flat_map, starts_with}
use Rattle.std.proofs.lemmas.Bool.{cond_both}
use Rattle.std.proofs.lemmas.Bool.Decides.{nat_tests}
use Rattle.std.proofs.lemmas.List.{length-take}
use Rattle.std.proofs.lemmas.List.Elements.{All-nil, All-cons, All-head, All-tail, All-append, All-take}
use Rattle.path_normal.specs.Variables.{PieceText, byte, variable, stray, run_len, begins_closed_name, begins_name, braced, bare, behind_dollar, pieces_past, piece_value}
use Rattle.unit_types.specs.declared.message.Addr.{Addr}
use Rattle.unit_types.specs.declared.message.Request.{Request}
use Rattle.access_log.specs.Line.{IsLogLine, is_plain, line_limit, log_line, log_text, log_value, logged, logged_byte, logged_bytes}

abbrev pub IsNoFeed : ℕ → Type 0
IsNoFeed b = b ≢ 10

-- ---- values

digit_no_feed : (d : ℕ) → IsNoFeed (digit_glyph true d)
digit_no_feed d =
    cond_both (ltb d 10) (48 + d) (55 + d) IsNoFeed (λ _ e. omega (arith, e)) (λ _ e. omega (arith, e))

byte_no_feed : (b : ℕ) → All IsNoFeed (logged_byte b)
byte_no_feed b =
    let high = digit_glyph true (b / 16) in
    let low = digit_glyph true (b % 16) in
    cond_both (is_plain b) (b ∷ []) (92 ∷ 120 ∷ high ∷ low ∷ []) (All IsNoFeed)
    (λ plain. All-cons IsNoFeed b [] (λ e. grind (arith, nat_tests)) (All-nil IsNoFeed))
    (λ _. All-cons IsNoFeed 92 (120 ∷ high ∷ low ∷ []) (λ e. omega (arith, e)) (All-cons IsNoFeed 120 (high ∷ low ∷ []) (λ e. omega (arith, e)) (All-cons IsNoFeed high (low ∷ []) (digit_no_feed (b / 16)) (All-cons IsNoFeed low [] (digit_no_feed (b % 16)) (All-nil IsNoFeed)))))

bytes_no_feed : (text : List ℕ) → All IsNoFeed (logged_bytes text)
bytes_no_feed [] = All-nil IsNoFeed
bytes_no_feed (b ∷ bs) = All-append IsNoFeed (logged_byte b) (logged_bytes bs) (byte_no_feed b) (bytes_no_feed bs)

value_no_feed : (value : List ℕ) → All IsNoFeed (logged value)
value_no_feed [] = All-cons IsNoFeed 45 [] (λ e. omega (arith, e)) (All-nil IsNoFeed)
value_no_feed (b ∷ bs) = bytes_no_feed (b ∷ bs)

-- ---- what holds of each byte of a text and of each value holds of each byte of the text with its values

module _ (P : ℕ → Type 0) (value : List ℕ → List ℕ) (dollar : P 36) (values : (name : List ℕ) → All P (value name)) where
  abbrev FirstHas : PieceText × ℕ → Type 0
  FirstHas x = All P (piece_value value x.0)

  dollar_has : (text : List ℕ) → FirstHas (behind_dollar text)
  dollar_has text =
      let none = All-cons P 36 [] dollar (All-nil P) in
      cond_both (starts_with nat_eq text (123 ∷ [])) (braced (drop 1 text)) (bare text) FirstHas
      (λ _. cond_both (begins_closed_name (drop 1 text)) (variable (take (run_len (drop 1 text)) (drop 1 text)), run_len (drop 1 text) + 2) (stray, 0) FirstHas (λ _. values (take (run_len (drop 1 text)) (drop 1 text))) (λ _. none))
      (λ _. cond_both (begins_name text) (variable (take (run_len text) text), run_len text) (stray, 0) FirstHas (λ _. values (take (run_len text) text)) (λ _. none))

  pieces_have : (n : ℕ) (text : List ℕ) → All P text → All P (flat_map (piece_value value) (pieces_past n text))
  pieces_have n [] all = All-nil P
  pieces_have zero (b ∷ bs) all =
      let rest = All-tail P b bs all in
      cond_both (eqb b 36) ((behind_dollar bs).0 ∷ pieces_past (behind_dollar bs).1 bs) (byte b ∷ pieces_past 0 bs) (λ pieces. All P (flat_map (piece_value value) pieces))
      (λ _. All-append P (piece_value value (behind_dollar bs).0) (flat_map (piece_value value) (pieces_past (behind_dollar bs).1 bs)) (dollar_has bs) (pieces_have (behind_dollar bs).1 bs rest))
      (λ _. All-cons P b (flat_map (piece_value value) (pieces_past 0 bs)) (All-head P b bs all) (pieces_have 0 bs rest))
  pieces_have (suc n) (b ∷ bs) all = pieces_have n bs (All-tail P b bs all)

-- ---- the line

short : (text : List ℕ) → length (take line_limit text) ≤ 1023
unfolding line_limit
short text = omega (arith, length-take 1023 text)

pub line_ends_once : (format : List ℕ) (from : Addr) (request : Option Request) (status body : ℕ) → All IsNoFeed format → IsLogLine (log_line format from request status body)
line_ends_once format from request status body clean =
    let text = log_text format from request status body in
    let whole = pieces_have IsNoFeed (λ name. logged (log_value from request status body name)) (λ e. omega (arith, e)) (λ name. value_no_feed (log_value from request status body name)) 0 format clean in
    record { text = take line_limit text; ends = refl; short = short text; clean = All-take IsNoFeed line_limit text whole }
