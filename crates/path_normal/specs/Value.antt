-- What the iterator over the value of a variable has left to give.
use Rattle.std.specs.Prelude.{ℕ, List}
use Rattle.path_normal.specs.declared.value.Value.{Value}
use Rattle.path_normal.specs.declared.value.Value.TheVariants.{Text, Address}
use Rattle.path_normal.specs.Text.{text_left}
use Rattle.path_normal.specs.Address.{address_left}

-- the bytes that are left to give
abbrev pub value_left : Value → List ℕ
value_left (Text text) = text_left text
value_left (Address address) = address_left address
