-- Decimal numbers, as texts write them.
use Rattle.std.specs.Prelude.{ℕ, Bool, ◌&&◌, ◌==◌, nat_le, nat_lt, List, length, slice_index, Option, Some, None, if◌then◌else◌}
use Rattle.std.specs.Char.{is_ascii_digit}
use Rattle.std.specs.List.{list_all}
use Rattle.std.specs.Str.Parse.{digits_value}

-- one decimal digit or more, and nothing else
abbrev pub is_decimal : List ℕ → Bool
is_decimal text = nat_lt 0 (length text) && list_all is_ascii_digit text

-- the number that the text writes, where it is one decimal digit or more; leading zeros too
abbrev pub decimal_of : List ℕ → Option ℕ
decimal_of text = if is_decimal text then Some (digits_value 10 text) else None

-- the first of several digits is 0
abbrev pub has_leading_zero : List ℕ → Bool
has_leading_zero text = nat_lt 1 (length text) && slice_index text 0 == 48

-- the number that the text writes without a leading zero
abbrev pub plain_decimal_of : List ℕ → Option ℕ
plain_decimal_of text = if has_leading_zero text then None else decimal_of text

-- the number, where it is at most `limit`
abbrev pub at_most : ℕ → Option ℕ → Option ℕ
at_most limit None = None
at_most limit (Some n) = if nat_le n limit then Some n else None

-- the number of at most `limit` that the text writes
abbrev pub decimal_within : ℕ → List ℕ → Option ℕ
decimal_within limit text = at_most limit (decimal_of text)

-- the same, without a leading zero
abbrev pub plain_decimal_within : ℕ → List ℕ → Option ℕ
plain_decimal_within limit text = at_most limit (plain_decimal_of text)
