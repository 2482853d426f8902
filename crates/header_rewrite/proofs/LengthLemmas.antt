-- How long a rewritten target is.
use Rattle.std.proofs.Common.{◌≡◌, ℕ, suc, ◌==◌, ◌+◌, ◌*◌, ◌/◌, ◌%◌, ◌^◌, ◌≤◌, Bool, true, false, not, ltb, cond, ◌&&◌, nat_le, nat_eq, List, [], ◌∷◌, ◌++◌, length, drop, map, filter, reverse, All, Option, Some, None, option_map, IsTrue, codes, refl, ap, ◌∙◌, arith, length-append}
use Rattle.std.specs.Fmt.{digit_glyph}
use Rattle.std.specs.List.{flat_map, slice_split, onto_first, starts_with}
use Rattle.std.specs.Str.{bytes_eq, str_to_ascii_lowercase}
use Rattle.std.proofs.lemmas.Bool.{cond_both, and_parts, leb-true}
use Rattle.std.proofs.lemmas.List.{length-map, length-reverse}
use Rattle.std.proofs.lemmas.List.Elements.{All-nil, All-cons, All-head, All-tail, All-append, All-weaker, All-filter, All-map}
use Rattle.std.proofs.lemmas.List.Sums.{sum_by-cons}
use Rattle.percent_encoding.specs.Percent.{percent_encode_byte, percent_decode}
use Rattle.percent_encoding.proofs.PercentLemmas.{percent_decode-nil, percent_decode-percent_encode_byte, percent_decode_not_percent, length-percent_decode}
use Rattle.unit_types.specs.Limits.{head_limit}
use Rattle.unit_types.specs.declared.field.Field.{Field}
use Rattle.unit_types.specs.declared.message.Request.{Request}
use Rattle.conf_validate.specs.Forms.{is_in_line, is_location, is_rewrite, is_at_most}
use Rattle.http_front.specs.Bounds.{field_len, fields_len}
use Rattle.http_front.proofs.LengthLemmas.{cut_length, decoded_normal_length}
use Rattle.path_normal.specs.Pairs.{value_of, spaced, argument_of, query_pieces, arguments_of, without_front_spaces, without_outer_spaces, cookie_of, cookie_pieces, is_cookie_field, cookies_of}
use Rattle.path_normal.specs.Variables.{PieceText, byte, variable, stray, pieces_of, is_known, known_among, variable_count, has_prefix, first_value, underscored, first_field, decimal, dotted, listed_value, variable_value, piece_value, expansion_of}
use Rattle.path_normal.proofs.PieceLemmas.{pieces_fit}
use Rattle.header_rewrite.specs.Bounds.{HasShortTexts, path_limit, target_limit}
use Rattle.header_rewrite.specs.Rewrite.{is_escaped_in_path, path_byte, path_in_target, query_in_target, rewritten_path, rewritten_by}
use Rattle.header_rewrite.proofs.TargetLemmas.{kept_byte}

-- ---- the values of names

abbrev ValuesFit : ℕ → List Field → Type 0
ValuesFit most fields = All (λ f. length f.value ≤ most) fields

first_length : (most : ℕ) (name : List ℕ) (fields : List Field) → ValuesFit most fields → length (first_value name fields) ≤ most
first_length most name [] fit = omega arith
first_length most name (f ∷ fields) fit =
    cond_both (bytes_eq f.name name) f.value (first_value name fields) (λ v. length v ≤ most)
    (λ _. All-head (λ g. length g.value ≤ most) f fields fit)
    (λ _. first_length most name fields (All-tail (λ g. length g.value ≤ most) f fields fit))

abbrev PiecesFit : ℕ → List (List ℕ) → Type 0
PiecesFit most pieces = All (λ piece. length piece ≤ most) pieces

onto_fits : (most b : ℕ) (pieces : List (List ℕ)) → PiecesFit most pieces → PiecesFit (suc most) (onto_first b pieces)
onto_fits most b [] fit = All-cons (λ p. length p ≤ suc most) (b ∷ []) [] (omega arith) (All-nil (λ p. length p ≤ suc most))
onto_fits most b (p ∷ ps) fit =
    let first : length p ≤ most = All-head (λ q. length q ≤ most) p ps fit in
    All-cons (λ q. length q ≤ suc most) (b ∷ p) ps (omega (arith, first))
    (All-weaker (λ q. length q ≤ most) (λ q. length q ≤ suc most) (λ q low. omega (arith, low)) ps (All-tail (λ q. length q ≤ most) p ps fit))

pieces_fit_text : (p : ℕ → Bool) (text : List ℕ) → PiecesFit (length text) (slice_split p text)
pieces_fit_text p [] = All-cons (λ q. length q ≤ 0) [] [] (omega arith) (All-nil (λ q. length q ≤ 0))
pieces_fit_text p (b ∷ bs) =
    cond_both (p b) ([] ∷ slice_split p bs) (onto_first b (slice_split p bs)) (PiecesFit (suc (length bs)))
    (λ _. All-cons (λ q. length q ≤ suc (length bs)) [] (slice_split p bs) (omega arith)
    (All-weaker (λ q. length q ≤ length bs) (λ q. length q ≤ suc (length bs)) (λ q low. omega (arith, low)) (slice_split p bs) (pieces_fit_text p bs)))
    (λ _. onto_fits (length bs) b (slice_split p bs) (pieces_fit_text p bs))

value_length : (piece : List ℕ) → length (value_of piece) ≤ length piece
value_length piece = omega (arith, cut_length (λ b. b == 61) piece)

argument_length : (piece : List ℕ) → length (argument_of piece).value ≤ length piece
argument_length piece =
    let decoded : length (argument_of piece).value ≤ length (map spaced (value_of piece)) = (length-percent_decode (map spaced (value_of piece))).0 in
    omega (arith, decoded, length-map (value_of piece) spaced, value_length piece)

arguments_fit : (query : List ℕ) → ValuesFit (length query) (arguments_of query)
arguments_fit query =
    All-map (λ f. length f.value ≤ length query) argument_of (query_pieces query)
    (All-weaker (λ p. length p ≤ length query) (λ p. length (argument_of p).value ≤ length query) (λ p low. omega (arith, low, argument_length p)) (query_pieces query)
    (All-filter (λ piece. not (length piece == 0)) (λ p. length p ≤ length query) (slice_split (λ b. b == 38) query) (pieces_fit_text (λ b. b == 38) query)))

front_length : (text : List ℕ) → length (without_front_spaces text) ≤ length text
front_length [] = omega arith
front_length (b ∷ bs) =
    cond_both (b == 32) (without_front_spaces bs) (b ∷ bs) (λ t. length t ≤ length (b ∷ bs))
    (λ _. omega (arith, front_length bs))
    (λ _. omega arith)

outer_length : (text : List ℕ) → length (without_outer_spaces text) ≤ length text
outer_length text =
    let front = without_front_spaces text in
    let outer : length (without_outer_spaces text) ≡ length (without_front_spaces (reverse front)) = length-reverse (without_front_spaces (reverse front)) in
    omega (arith, outer, front_length (reverse front), length-reverse front, front_length text)

cookie_length : (piece : List ℕ) → length (cookie_of piece).value ≤ length piece
cookie_length piece =
    let value : length (cookie_of piece).value ≤ length (without_outer_spaces piece) = value_length (without_outer_spaces piece) in
    omega (arith, value, outer_length piece)

field_cookies : (most : ℕ) (value : List ℕ) → length value ≤ most → ValuesFit most (map cookie_of (cookie_pieces value))
field_cookies most value low =
    All-map (λ f. length f.value ≤ most) cookie_of (cookie_pieces value)
    (All-weaker (λ p. length p ≤ length value) (λ p. length (cookie_of p).value ≤ most) (λ p fits. omega (arith, fits, low, cookie_length p)) (cookie_pieces value)
    (pieces_fit_text (λ b. b == 59) value))

cookies_fit : (most : ℕ) (fields : List Field) → ValuesFit most fields → ValuesFit most (cookies_of fields)
cookies_fit most fields fit = along (filter is_cookie_field fields) (All-filter is_cookie_field (λ f. length f.value ≤ most) fields fit)
  where
    along : (kept : List Field) → ValuesFit most kept → ValuesFit most (flat_map (λ field. map cookie_of (cookie_pieces field.value)) kept)
    along [] fits = All-nil (λ f. length f.value ≤ most)
    along (f ∷ more) fits =
        All-append (λ g. length g.value ≤ most) (map cookie_of (cookie_pieces f.value)) (flat_map (λ field. map cookie_of (cookie_pieces field.value)) more)
        (field_cookies most f.value (All-head (λ g. length g.value ≤ most) f more fits)) (along more (All-tail (λ g. length g.value ≤ most) f more fits))

each_value : (most : ℕ) (fields : List Field) → fields_len fields ≤ most → ValuesFit most fields
each_value most [] low = All-nil (λ f. length f.value ≤ most)
each_value most (f ∷ fields) low =
    let sum = sum_by-cons field_len f fields in
    All-cons (λ g. length g.value ≤ most) f fields (omega (arith, low, sum)) (each_value most fields (omega (arith, low, sum)))

field_length : (most : ℕ) (name : List ℕ) (fields : List Field) → ValuesFit most fields → length (first_field name fields) ≤ most
field_length most name [] fit = omega arith
field_length most name (f ∷ fields) fit =
    cond_both (bytes_eq (map underscored f.name) (str_to_ascii_lowercase name)) f.value (first_field name fields) (λ v. length v ≤ most)
    (λ _. All-head (λ g. length g.value ≤ most) f fields fit)
    (λ _. field_length most name fields (All-tail (λ g. length g.value ≤ most) f fields fit))

-- ---- the value of a variable

decimal_length : (n : ℕ) → length (decimal n) ≤ 3
decimal_length n = by_size (ltb n 10) (ltb n 100)
  where
    by_size : (t u : Bool) → length (cond t ((48 + n) ∷ []) (cond u ((48 + n / 10) ∷ (48 + n % 10) ∷ []) ((48 + n / 100) ∷ (48 + n / 10 % 10) ∷ (48 + n % 10) ∷ []))) ≤ 3
    by_size true u = omega arith
    by_size false true = omega arith
    by_size false false = omega arith

dotted_length : (ip : ℕ) → length (dotted ip) ≤ 15
dotted_length ip =
    let a = decimal (ip / 2 ^ 24 % 256) in
    let b = decimal (ip / 2 ^ 16 % 256) in
    let d = decimal (ip / 2 ^ 8 % 256) in
    let e = decimal (ip % 256) in
    let whole : length (dotted ip) ≡ length ((a ++ 46 ∷ b) ++ 46 ∷ d) + length (46 ∷ e) = length-append ((a ++ 46 ∷ b) ++ 46 ∷ d) (46 ∷ e) in
    omega (
      arith,
      whole,
      length-append (a ++ 46 ∷ b) (46 ∷ d),
      length-append a (46 ∷ b),
      decimal_length (ip / 2 ^ 24 % 256),
      decimal_length (ip / 2 ^ 16 % 256),
      decimal_length (ip / 2 ^ 8 % 256),
      decimal_length (ip % 256),
    )

listed_length : (request : Request) (name : List ℕ) → HasShortTexts request → length (listed_value request name) ≤ head_limit
listed_length request name short =
    let values = each_value head_limit request.fields short.fields in
    let arguments = All-weaker (λ f. length f.value ≤ length request.query) (λ f. length f.value ≤ head_limit) (λ f low. omega (arith, low, short.query)) (arguments_of request.query) (arguments_fit request.query) in
    by_prefix (has_prefix (codes "arg_") name) (has_prefix (codes "cookie_") name) (has_prefix (codes "header_") name)
    (first_value (drop 4 name) (arguments_of request.query)) (first_value (drop 7 name) (cookies_of request.fields)) (first_field (drop 7 name) request.fields)
    (first_length head_limit (drop 4 name) (arguments_of request.query) arguments)
    (first_length head_limit (drop 7 name) (cookies_of request.fields) (cookies_fit head_limit request.fields values))
    (field_length head_limit (drop 7 name) request.fields values)
  where
    by_prefix : (t u v : Bool) (a b d : List ℕ) → length a ≤ head_limit → length b ≤ head_limit → length d ≤ head_limit → length (cond t a (cond u b (cond v d []))) ≤ head_limit
    by_prefix true u v a b d la lb ld = la
    by_prefix false true v a b d la lb ld = lb
    by_prefix false false true a b d la lb ld = ld
    by_prefix false false false a b d la lb ld = omega arith

variable_length : (request : Request) (name : List ℕ) → HasShortTexts request → length (variable_value request name) ≤ head_limit
variable_length request name short =
    let address : length (dotted request.from.ip) ≤ head_limit = omega (arith, dotted_length request.from.ip) in
    by_name (bytes_eq name (codes "host")) (bytes_eq name (codes "method")) (bytes_eq name (codes "uri")) (bytes_eq name (codes "request_uri"))
    (bytes_eq name (codes "remote_addr")) (bytes_eq name (codes "dollar"))
    request.host request.method request.path request.target (dotted request.from.ip) (listed_value request name)
    short.host short.method short.path short.target address (listed_length request name short)
  where
    by_name : (t u v w x y : Bool) (a b d e f g : List ℕ) → length a ≤ head_limit → length b ≤ head_limit → length d ≤ head_limit → length e ≤ head_limit → length f ≤ head_limit → length g ≤ head_limit
        → length (cond t a (cond u b (cond v d (cond w e (cond x f (cond y (36 ∷ []) g)))))) ≤ head_limit
    by_name true u v w x y a b d e f g la lb ld le lf lg = la
    by_name false true v w x y a b d e f g la lb ld le lf lg = lb
    by_name false false true w x y a b d e f g la lb ld le lf lg = ld
    by_name false false false true x y a b d e f g la lb ld le lf lg = le
    by_name false false false false true y a b d e f g la lb ld le lf lg = lf
    by_name false false false false false true a b d e f g la lb ld le lf lg = omega arith
    by_name false false false false false false a b d e f g la lb ld le lf lg = lg

-- ---- an expansion

expansion_length : (request : Request) (pieces : List PieceText) (count : ℕ) → HasShortTexts request → known_among [] pieces ≡ Some count
    → length (flat_map (piece_value (variable_value request)) pieces) ≤ length pieces + 16384 * count
expansion_length request [] count short known = omega arith
expansion_length request (byte b ∷ pieces) count short known =
    let rest = expansion_length request pieces count short known in
    omega (arith, rest)
expansion_length request (variable name ∷ pieces) count short known =
    let value : length (variable_value request name) ≤ 16384 = variable_length request name short in
    by_known value (λ n is. expansion_length request pieces n short is) (is_known [] name) (known_among [] pieces) refl known
  where
    by_known : length (variable_value request name) ≤ 16384 → ((n : ℕ) → known_among [] pieces ≡ Some n → length (flat_map (piece_value (variable_value request)) pieces) ≤ length pieces + 16384 * n)
        → (t : Bool) (o : Option ℕ) → known_among [] pieces ≡ o → cond t (option_map (λ n. n + 1) o) None ≡ Some count
        → length (flat_map (piece_value (variable_value request)) (variable name ∷ pieces)) ≤ length (variable name ∷ pieces) + 16384 * count
    by_known value later true (Some n) is same =
        let more : n + 1 ≡ count = cc in
        let rest : length (flat_map (piece_value (variable_value request)) pieces) ≤ length pieces + 16384 * n = later n is in
        let text : length (flat_map (piece_value (variable_value request)) (variable name ∷ pieces)) ≡ length (variable_value request name) + length (flat_map (piece_value (variable_value request)) pieces) = length-append (variable_value request name) (flat_map (piece_value (variable_value request)) pieces) in
        omega (arith, more, rest, value, text)
    by_known value later true None is same = absurd (cc)
    by_known value later false o is same = absurd (cc)
expansion_length request (stray ∷ pieces) count short known = absurd (cc)

-- what a text of a rewrite keeps
abbrev IsShortText : List ℕ → Type 0
IsShortText text = (length text ≤ 1024) × (count : ℕ) × (variable_count [] text ≡ Some count) × (count ≤ 4)

counted : (o : Option ℕ) → is_at_most 4 o ≡ true → (count : ℕ) × (o ≡ Some count) × (count ≤ 4)
counted None few = absurd (cc)
counted (Some n) few = (n, refl, leb-true n 4 few)

short_text : (text : List ℕ) → IsTrue (is_rewrite text) → IsShortText text
short_text text is =
    let slash = starts_with nat_eq text (codes "/") in
    let parts = and_parts (slash && nat_le (length text) 1024) (is_location text) is in
    let front = and_parts slash (nat_le (length text) 1024) parts.0 in
    let variables = and_parts (is_in_line text) (is_at_most 4 (variable_count [] text)) parts.1 in
    let count = counted (variable_count [] text) variables.1 in
    (leb-true (length text) 1024 front.1, count.0, count.1, count.2)

expanded_length : (text : List ℕ) (request : Request) → IsTrue (is_rewrite text) → HasShortTexts request → length (expansion_of text request) ≤ 1024 + 4 * head_limit
expanded_length text request is short =
    let known = short_text text is in
    let expanded : length (expansion_of text request) ≤ length (pieces_of text) + 16384 * known.1 = expansion_length request (pieces_of text) known.1 short known.2 in
    omega (arith, known.0, known.3, expanded, pieces_fit text)

-- ---- a path as it stands in a target

byte_length : (b : ℕ) → length (path_byte b) ≤ 3
unfolding percent_encode_byte
byte_length b = by_escape (is_escaped_in_path b)
  where
    by_escape : (t : Bool) → length (cond t (percent_encode_byte b) (b ∷ [])) ≤ 3
    by_escape true = let three : length (percent_encode_byte b) ≡ 3 = refl in omega (arith, three)
    by_escape false = omega arith

in_target_length : (path : List ℕ) → length (path_in_target path) ≤ 3 * length path
in_target_length [] = omega arith
in_target_length (b ∷ bs) =
    let all : length (path_in_target (b ∷ bs)) ≡ length (path_byte b) + length (path_in_target bs) = length-append (path_byte b) (path_in_target bs) in
    omega (arith, all, byte_length b, in_target_length bs)

-- an escape says a number modulo 256
escape_again : (b : ℕ) → percent_encode_byte b ≡ percent_encode_byte (b % 256)
unfolding percent_encode_byte
escape_again b =
    let high : b / 16 % 16 ≡ b % 256 / 16 % 16 = omega arith in
    let low : b % 16 ≡ b % 256 % 16 = omega arith in
    λ i. 37 ∷ digit_glyph true (high i) ∷ digit_glyph true (low i) ∷ []

pub decoded_length : (path : List ℕ) → length (percent_decode (path_in_target path)) ≡ length path
decoded_length [] = ap length percent_decode-nil
decoded_length (b ∷ bs) =
    cond_both (is_escaped_in_path b) (percent_encode_byte b) (b ∷ []) (λ x. length (percent_decode (x ++ path_in_target bs)) ≡ length (b ∷ bs))
    (λ _. ap (λ x. length (percent_decode (x ++ path_in_target bs))) (escape_again b)
    ∙ ap length (percent_decode-percent_encode_byte (b % 256) (path_in_target bs) (omega arith)) ∙ omega (arith, decoded_length bs))
    (λ kept. ap length (percent_decode_not_percent b (path_in_target bs) (kept_byte b kept)) ∙ omega (arith, decoded_length bs))

query_length : (query : List ℕ) → length (query_in_target query) ≤ 1 + length query
query_length [] = omega arith
query_length (b ∷ query) = omega arith

pub path_short : (text : List ℕ) (request : Request) → IsTrue (is_rewrite text) → HasShortTexts request → length (rewritten_path text request) ≤ path_limit
path_short text request is short =
    let expansion = expansion_of text request in
    let path : length (rewritten_path text request) ≤ 1 + length (percent_decode (path_in_target expansion)) = decoded_normal_length (path_in_target expansion) in
    omega (arith, path, decoded_length expansion, expanded_length text request is short)

pub target_short : (text : List ℕ) (request : Request) → IsTrue (is_rewrite text) → HasShortTexts request → length (rewritten_by text request).target ≤ target_limit
target_short text request is short =
    let path = rewritten_path text request in
    let target : length (rewritten_by text request).target ≡ length (path_in_target path) + length (query_in_target request.query) = length-append (path_in_target path) (query_in_target request.query) in
    omega (arith, target, path_short text request is short, in_target_length path, query_length request.query, short.query)
