-- The port of a listener's name.
use Rattle.std.specs.Prelude.{ℕ, ◌==◌, List, [], ◌∷◌, Option, Some, None, option_and_then, if◌then◌else◌}
use Rattle.std.specs.Option.{option_or}
use Rattle.unit_types.specs.Numeral.{plain_decimal_within}
use Rattle.conf_validate.specs.Forms.{is_port}

-- what stands behind the last `:` of a name that has one
abbrev pub port_text : List ℕ → Option (List ℕ)
port_text [] = None
port_text (b ∷ bs) = option_or (port_text bs) (if b == 58 then Some bs else None)

-- the number that the text spells, where it is one from 1 to 65535 without a leading zero
abbrev pub port_number : List ℕ → Option ℕ
port_number text = if is_port text then plain_decimal_within 65535 text else None

abbrev pub port_of : List ℕ → Option ℕ
port_of name = option_and_then port_number (port_text name)
