-- The forms of the names and texts of a configuration.
use Rattle.std.specs.Prelude.{ℕ, zero, suc, Bool, true, false, not, ◌&&◌, ◌||◌, ◌==◌, nat_le, nat_eq, List, [], ◌∷◌, length, codes, Option, Some, None}
use Rattle.std.specs.List.{list_any, list_all, starts_with}
use Rattle.std.specs.Option.{is_some}
use Rattle.std.specs.Str.{bytes_eq, str_to_ascii_lowercase}
use Rattle.unit_types.specs.Token.{is_tchar, is_value_byte}
use Rattle.unit_types.specs.Numeral.{plain_decimal_within}
use Rattle.unit_types.specs.Text.{cut}
use Rattle.pattern_addr.specs.AddressPattern.{address_pattern_of}
use Rattle.path_normal.specs.Variables.{variable_count}
use Rattle.conf_validate.specs.declared.place.Form.{Form}
use Rattle.conf_validate.specs.declared.place.Form.TheVariants as form

-- ---- names of listeners: HOST `:` PORT, where HOST is `*` or four numbers up to 255 with periods between them, PORT is
-- 1 to 65535, and no number has a leading zero

-- digits without a leading zero, of a value of at most `limit`
abbrev pub is_number : ℕ → List ℕ → Bool
is_number limit text = is_some (plain_decimal_within limit text)

-- both parts of a text that was cut pass their tests
abbrev pub are_both : (List ℕ → Bool) → (List ℕ → Bool) → Option (List ℕ × List ℕ) → Bool
are_both first second None = false
are_both first second (Some parts) = first parts.0 && second parts.1

-- so many numbers up to 255, each with a period behind it, and one more
abbrev pub are_numbers : ℕ → List ℕ → Bool
are_numbers zero text = is_number 255 text
are_numbers (suc n) text = are_both (is_number 255) (are_numbers n) (cut 46 text)

abbrev pub is_host : List ℕ → Bool
is_host text = bytes_eq text (codes "*") || are_numbers 3 text

abbrev pub is_port : List ℕ → Bool
is_port text = is_number 65535 text && not (bytes_eq text (codes "0"))

abbrev pub is_listener_name : List ℕ → Bool
is_listener_name name = are_both is_host is_port (cut 58 name)

-- ---- other names

-- a name that a pass can have behind its `/`: not empty, and without `/`
abbrev pub is_target_name : List ℕ → Bool
is_target_name name = not (length name == 0) && not (list_any (λ b. b == 47) name)

-- a token (RFC 9110, section 5.6.2)
abbrev pub is_token : List ℕ → Bool
is_token name = not (length name == 0) && list_all is_tchar name

-- Content-Length, Connection and Transfer-Encoding, in any case: they belong to the connection
abbrev pub is_of_connection : List ℕ → Bool
is_of_connection name =
    bytes_eq (str_to_ascii_lowercase name) (codes "content-length")
    || bytes_eq (str_to_ascii_lowercase name) (codes "connection")
    || bytes_eq (str_to_ascii_lowercase name) (codes "transfer-encoding")

-- a header field that may be changed
abbrev pub is_header_name : List ℕ → Bool
is_header_name name = is_token name && not (is_of_connection name)

-- the name is one of these in lower case
abbrev pub is_again : List (List ℕ) → List ℕ → Bool
is_again earlier name =
    list_any (λ e. bytes_eq (str_to_ascii_lowercase e) (str_to_ascii_lowercase name)) earlier

-- ---- texts

-- each `$` begins a variable, or one of some further variables, and there are at most so many
abbrev pub is_at_most : ℕ → Option ℕ → Bool
is_at_most most None = false
is_at_most most (Some count) = nat_le count most

abbrev pub has_variables : List (List ℕ) → ℕ → List ℕ → Bool
has_variables further most text = is_at_most most (variable_count further text)

-- no CR, LF or NUL
abbrev pub is_in_line : List ℕ → Bool
is_in_line text = list_all is_value_byte text

abbrev pub is_text_pattern : List ℕ → Bool
is_text_pattern text = not (starts_with nat_eq text (codes "~")) && not (starts_with nat_eq text (codes "!~"))

abbrev pub is_address_pattern : List ℕ → Bool
is_address_pattern text = is_some (address_pattern_of text)

abbrev pub is_location : List ℕ → Bool
is_location text = is_in_line text && has_variables [] 4 text

abbrev pub is_rewrite : List ℕ → Bool
is_rewrite text = starts_with nat_eq text (codes "/") && nat_le (length text) 1024 && is_location text

-- the variables of a log format beside those of a request
abbrev pub log_variables : List (List ℕ)
log_variables = codes "status" ∷ codes "body_bytes_sent" ∷ codes "request_line" ∷ []

-- the format of an access log: at most 1,024 bytes and 32 variables, and no byte below 0x20
abbrev pub is_log_format : List ℕ → Bool
is_log_format text =
    nat_le (length text) 1024 && list_all (λ b. nat_le 32 b) text && has_variables log_variables 32 text

-- the text has the form
abbrev pub has_form : Form → List ℕ → Bool
has_form form.TextPattern text = is_text_pattern text
has_form form.AddressPattern text = is_address_pattern text
has_form form.Pass text = has_variables [] 4 text
has_form form.Location text = is_location text
has_form form.Rewrite text = is_rewrite text
has_form form.HeaderText text = is_location text
has_form form.External text = bytes_eq text (codes "external")
has_form form.Handler text = true
has_form form.Format text = is_log_format text
