-- The variables of a text: `$NAME`, with the longest run of letters, digits and `_`, or `${NAME}`.
use Rattle.std.specs.Prelude.{ℕ, ◌+◌, ◌^◌, ◌/◌, ◌%◌, ◌==◌, ◌≤◌, ◌≢◌, nat_lt, nat_eq, zero, suc, Bool, ◌&&◌, ◌||◌, List, [], ◌∷◌, ◌++◌, length, take, drop, map, codes, Option, Some, None, option_map, if◌then◌else◌}
use Rattle.std.specs.List.{flat_map, list_any, prefix_len, starts_with}
use Rattle.std.specs.Char.{is_ascii_alphanumeric}
use Rattle.std.specs.Str.{bytes_eq, str_to_ascii_lowercase}
use Rattle.percent_encoding.specs.Percent.{percent_encode_byte}
use Rattle.unit_types.specs.declared.field.Field.{Field}
use Rattle.unit_types.specs.declared.message.Request.{Request}
use Rattle.path_normal.specs.Pairs.{arguments_of, cookies_of}

-- ---- the pieces of a text

-- a byte that stands for itself, a variable by its name, or a `$` that begins no variable
pub data PieceText : Type 0 where
  byte : ℕ → PieceText
  variable : List ℕ → PieceText
  stray : PieceText

-- a letter, a digit or `_`
abbrev pub is_word : ℕ → Bool
is_word b = is_ascii_alphanumeric b || b == 95

-- the longest run of such bytes at the front
abbrev pub run_len : List ℕ → ℕ
run_len text = prefix_len is_word text

-- the text begins with a name: a run that isn't empty
abbrev pub begins_name : List ℕ → Bool
begins_name text = nat_lt 0 (run_len text)

-- the text begins with a name and a `}` behind it
abbrev pub begins_closed_name : List ℕ → Bool
begins_closed_name text = begins_name text && starts_with nat_eq (drop (run_len text) text) (125 ∷ [])

-- the piece that a `$` begins, and how many bytes behind the `$` belong to it: a `$` with no name behind it, bare or in
-- braces, is stray
abbrev pub braced : List ℕ → PieceText × ℕ
braced text =
    if begins_closed_name text then (variable (take (run_len text) text), run_len text + 2) else (stray, 0)

abbrev pub bare : List ℕ → PieceText × ℕ
bare text = if begins_name text then (variable (take (run_len text) text), run_len text) else (stray, 0)

abbrev pub behind_dollar : List ℕ → PieceText × ℕ
behind_dollar text = if starts_with nat_eq text (123 ∷ []) then braced (drop 1 text) else bare text

-- the pieces of a text, once its first bytes are passed over
abbrev pub pieces_past : ℕ → List ℕ → List PieceText
pieces_past n [] = []
pieces_past zero (b ∷ bs) =
    if b == 36 then (behind_dollar bs).0 ∷ pieces_past (behind_dollar bs).1 bs else byte b ∷ pieces_past 0 bs
pieces_past (suc n) (b ∷ bs) = pieces_past n bs

-- the pieces of a text
abbrev pub pieces_of : List ℕ → List PieceText
pieces_of text = pieces_past 0 text

-- ---- the set of the variables

-- the name begins with a prefix
abbrev pub has_prefix : List ℕ → List ℕ → Bool
has_prefix prefix name = bytes_eq (take (length prefix) name) prefix

-- the name is a prefix with something behind it
abbrev pub has_name_behind : List ℕ → List ℕ → Bool
has_name_behind prefix name = has_prefix prefix name && nat_lt (length prefix) (length name)

-- `host`, `uri` and `request_uri`
abbrev pub is_of_target : List ℕ → Bool
is_of_target name =
    bytes_eq name (codes "host") || bytes_eq name (codes "uri") || bytes_eq name (codes "request_uri")

-- `method`, `remote_addr` and `dollar`
abbrev pub is_of_request : List ℕ → Bool
is_of_request name =
    bytes_eq name (codes "method") || bytes_eq name (codes "remote_addr") || bytes_eq name (codes "dollar")

-- `arg_N`, `cookie_N` and `header_N`, where N isn't empty
abbrev pub is_of_list : List ℕ → Bool
is_of_list name =
    has_name_behind (codes "arg_") name || has_name_behind (codes "cookie_") name
    || has_name_behind (codes "header_") name

-- the names of the variables
abbrev pub is_variable : List ℕ → Bool
is_variable name = is_of_target name || is_of_request name || is_of_list name

-- the name is one of the set or of some further names
abbrev pub is_known : List (List ℕ) → List ℕ → Bool
is_known further name = is_variable name || list_any (λ known. bytes_eq known name) further

-- how many variables there are, where each `$` begins one that is known
abbrev pub known_among : List (List ℕ) → List PieceText → Option ℕ
known_among further [] = Some 0
known_among further (byte b ∷ pieces) = known_among further pieces
known_among further (variable name ∷ pieces) =
    if is_known further name then option_map (λ n. n + 1) (known_among further pieces) else None
known_among further (stray ∷ pieces) = None

-- how many variables a text has, where each `$` of it begins one of the set or of some further names
abbrev pub variable_count : List (List ℕ) → List ℕ → Option ℕ
variable_count further text = known_among further (pieces_of text)

-- ---- the value of a variable

-- the value of the first argument or cookie of exactly this name, or nothing
abbrev pub first_value : List ℕ → List Field → List ℕ
first_value name [] = []
first_value name (field ∷ fields) = if bytes_eq field.name name then field.value else first_value name fields

-- a `-` is a `_`
abbrev pub underscored : ℕ → ℕ
underscored b = if b == 45 then 95 else b

-- the value of the first field whose name, with `-` turned to `_`, is this name in lower case, or nothing
abbrev pub first_field : List ℕ → List Field → List ℕ
first_field name [] = []
first_field name (field ∷ fields) =
    if bytes_eq (map underscored field.name) (str_to_ascii_lowercase name) then field.value else first_field name fields

-- a number below 1000 in decimal, without leading zeros
abbrev pub decimal : ℕ → List ℕ
decimal n =
    if nat_lt n 10 then (48 + n) ∷ []
    else if nat_lt n 100 then (48 + n / 10) ∷ (48 + n % 10) ∷ []
    else (48 + n / 100) ∷ (48 + n / 10 % 10) ∷ (48 + n % 10) ∷ []

-- an address as four decimal numbers with periods between them
abbrev pub dotted : ℕ → List ℕ
dotted ip =
    decimal (ip / 2 ^ 24 % 256) ++ 46 ∷ decimal (ip / 2 ^ 16 % 256) ++ 46 ∷ decimal (ip / 2 ^ 8 % 256) ++ 46 ∷ decimal (ip % 256)

-- the value of an argument, a cookie or a field
abbrev pub listed_value : Request → List ℕ → List ℕ
listed_value request name =
    if has_prefix (codes "arg_") name then first_value (drop 4 name) (arguments_of request.query)
    else if has_prefix (codes "cookie_") name then first_value (drop 7 name) (cookies_of request.fields)
    else if has_prefix (codes "header_") name then first_field (drop 7 name) request.fields
    else []

-- the value of a variable in a request
abbrev pub variable_value : Request → List ℕ → List ℕ
variable_value request name =
    if bytes_eq name (codes "host") then request.host
    else if bytes_eq name (codes "method") then request.method
    else if bytes_eq name (codes "uri") then request.path
    else if bytes_eq name (codes "request_uri") then request.target
    else if bytes_eq name (codes "remote_addr") then dotted request.from.ip
    else if bytes_eq name (codes "dollar") then 36 ∷ []
    else listed_value request name

-- ---- the expansion of a text

-- what stands in a piece's place
abbrev pub piece_value : (List ℕ → List ℕ) → PieceText → List ℕ
piece_value value (byte b) = b ∷ []
piece_value value (variable name) = value name
piece_value value stray = 36 ∷ []

-- a text with a value in the place of each variable
abbrev pub expansion_with : (List ℕ → List ℕ) → List ℕ → List ℕ
expansion_with value text = flat_map (piece_value value) (pieces_of text)

-- a text expanded in a request
abbrev pub expansion_of : List ℕ → Request → List ℕ
expansion_of text request = expansion_with (variable_value request) text

-- a byte outside 0x21 to 0x7E is written `%XX` with capital digits
abbrev pub escaped_byte : ℕ → List ℕ
escaped_byte b = if nat_lt b 33 || nat_lt 126 b then percent_encode_byte b else b ∷ []

abbrev pub escaped : List ℕ → List ℕ
escaped value = flat_map escaped_byte value

-- a byte that is seen: 0x21 to 0x7E
abbrev pub IsVisible : ℕ → Type 0
IsVisible b = (33 ≤ b) × (b ≤ 126)

-- a byte that neither ends a line nor a text: no NUL, LF or CR
abbrev pub IsInLine : ℕ → Type 0
IsInLine b = (b ≢ 0) × (b ≢ 10) × (b ≢ 13)

-- the same, the bytes of values escaped
abbrev pub escaped_expansion_of : List ℕ → Request → List ℕ
escaped_expansion_of text request = expansion_with (λ name. escaped (variable_value request name)) text

-- what is shown of a value
abbrev pub shown : Bool → List ℕ → List ℕ
shown escapes value = if escapes then escaped value else value
