-- Numbers as a trace spells them.
use Rattle.std.specs.Prelude.{ℕ, List, Option, Some, option_and_then}
use Rattle.unit_types.specs.Numeral.{plain_decimal_within}
use Rattle.unit_types.specs.Text as text

-- one step after another, each of which may find that the text has not the form
infixl 10 ◌>>=◌
abbrev pub ◌>>=◌ : {A B : Type 0} → Option A → (A → Option B) → Option B
o >>= f = option_and_then f o

-- the text in front of the first space and the text behind it, where there is a space
abbrev pub cut : List ℕ → Option (List ℕ × List ℕ)
cut line = text.cut 32 line

-- a number: one digit or more, without a leading zero, of a value of at most `limit`
abbrev pub number_of : ℕ → List ℕ → Option ℕ
number_of limit digits = plain_decimal_within limit digits

-- the number in front of the first space, and the text behind the space
abbrev pub first_number : ℕ → List ℕ → Option (ℕ × List ℕ)
first_number limit line = do
  parts ← cut line
  number ← number_of limit parts.0
  Some (number, parts.1)
