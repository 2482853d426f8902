-- Lines of an access log: the text of a format with a value in the place of each variable. The variables and their
-- spelling are this project's own.
use Rattle.std.specs.Prelude.{◌≡◌, ◌≢◌, ◌≤◌, ℕ, ◌+◌, ◌/◌, ◌%◌, ◌==◌, nat_le, Bool, true, not, ◌&&◌, List, [], ◌∷◌, ◌++◌, length, take, codes, decimal, Option, Some, None, if◌then◌else◌, All}
use Rattle.std.specs.Fmt.{digit_glyph}
use Rattle.std.specs.List.{flat_map}
use Rattle.std.specs.Str.{bytes_eq}
use Rattle.path_normal.specs.Variables.{dotted, expansion_with, variable_value}
use Rattle.unit_types.specs.declared.message.Addr.{Addr}
use Rattle.unit_types.specs.declared.message.Request.{Request}

-- ---- the values

-- the protocol's name and version (RFC 9112, section 2.3)
abbrev pub protocol_of : ℕ → List ℕ
protocol_of minor = if minor == 0 then codes "HTTP/1.0" else codes "HTTP/1.1"

-- the method, the target and the protocol, with single spaces between them (RFC 9112, section 3)
abbrev pub request_line_of : Request → List ℕ
request_line_of request = request.method ++ (32 ∷ (request.target ++ (32 ∷ protocol_of request.minor)))

-- a status below 1000 in three digits
abbrev pub three_digits : ℕ → List ℕ
three_digits n = (48 + n / 100) ∷ (48 + n / 10 % 10) ∷ (48 + n % 10) ∷ []

-- what a variable tells of the request as it came
abbrev pub value_in_request : Request → List ℕ → List ℕ
value_in_request request name =
    if bytes_eq name (codes "request_line") then request_line_of request else variable_value request name

-- the same, nothing where no request was read
abbrev pub value_of_request : Option Request → List ℕ → List ℕ
value_of_request None name = []
value_of_request (Some request) name = value_in_request request name

-- the value of a variable: of the client's address, the request, the status of the reply and the length of the content
-- that was written
abbrev pub log_value : Addr → Option Request → ℕ → ℕ → List ℕ → List ℕ
log_value from request status body name =
    if bytes_eq name (codes "remote_addr") then dotted from.ip
    else if bytes_eq name (codes "dollar") then 36 ∷ []
    else if bytes_eq name (codes "status") then three_digits status
    else if bytes_eq name (codes "body_bytes_sent") then decimal body
    else value_of_request request name

-- ---- how a value is written

-- a byte that stands for itself: 0x20 to 0x7E, but `"` and `\`
abbrev pub is_plain : ℕ → Bool
is_plain b = nat_le 32 b && (nat_le b 126 && (not (b == 34) && not (b == 92)))

-- any other byte is written `\xHH`, with capital digits
abbrev pub logged_byte : ℕ → List ℕ
logged_byte b =
    if is_plain b then b ∷ [] else 92 ∷ 120 ∷ digit_glyph true (b / 16) ∷ digit_glyph true (b % 16) ∷ []

abbrev pub logged_bytes : List ℕ → List ℕ
logged_bytes text = flat_map logged_byte text

-- an empty value is written `-`
abbrev pub logged : List ℕ → List ℕ
logged [] = 45 ∷ []
logged (b ∷ bs) = logged_bytes (b ∷ bs)

-- ---- the line

-- the text of a format with its values
abbrev pub log_text : List ℕ → Addr → Option Request → ℕ → ℕ → List ℕ
log_text format from request status body =
    expansion_with (λ name. logged (log_value from request status body name)) format

-- bytes of a line before its LF; it stays folded, so that no goal counts them
unfoldable pub line_limit : ℕ
line_limit = 1023

-- the line: the first bytes of the text, and LF
abbrev pub log_line : List ℕ → Addr → Option Request → ℕ → ℕ → List ℕ
log_line format from request status body =
    take line_limit (log_text format from request status body) ++ 10 ∷ []

-- at most 1,023 bytes, none of which is LF, and then LF
pub record IsLogLine (line : List ℕ) : Type 0 where
  pub text : List ℕ
  pub ends : line ≡ text ++ 10 ∷ []
  pub short : length text ≤ 1023
  pub clean : All (λ b. b ≢ 10) text
