-- The bytes of field names and values.
use Rattle.std.specs.Prelude.{ℕ, ◌<◌, Bool, ◌||◌, ◌&&◌, not, ◌==◌, List, length, codes, IsTrue, All}
use Rattle.std.specs.List.{list_any}
use Rattle.std.specs.Char.{is_ascii_alphanumeric}

-- tchar (RFC 9110, section 5.6.2). It stays folded, so that a goal does not list the marks.
unfoldable pub is_tchar : ℕ → Bool
is_tchar b = is_ascii_alphanumeric b || list_any (λ mark. mark == b) (codes "!#$%&'*+-.^_`|~")

-- token = 1*tchar (RFC 9110, section 5.6.2)
abbrev pub IsToken : List ℕ → Type 0
IsToken text = (0 < length text) × All (λ b. IsTrue (is_tchar b)) text

-- a byte that a field value may have: any but NUL, LF and CR (RFC 9110, section 5.5)
abbrev pub is_value_byte : ℕ → Bool
is_value_byte b = not (b == 0) && (not (b == 10) && not (b == 13))

-- a text that may stand as a field's value
abbrev pub IsFieldValue : List ℕ → Type 0
IsFieldValue text = All (λ b. IsTrue (is_value_byte b)) text
