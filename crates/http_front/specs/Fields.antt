-- The fields of a message by their names (RFC 9110, section 5.1).
use Rattle.std.specs.Prelude.{ℕ, Bool, List, [], nat_lt, Option, Some, None, bytes_eq}
use Rattle.std.specs.List.{find, count_by}
use Rattle.unit_types.specs.declared.field.Field.{Field}

-- whether a field of a request, whose name is in lower case, has that name
abbrev pub is_named : List ℕ → Field → Bool
is_named name f = bytes_eq f.name name

-- how many fields have that name
abbrev pub count_of : List ℕ → List Field → ℕ
count_of name fields = count_by (is_named name) fields

abbrev pub has_some : List ℕ → List Field → Bool
has_some name fields = nat_lt 0 (count_of name fields)

-- the value of the first field of that name, or nothing
abbrev pub value_or_empty : Option Field → List ℕ
value_or_empty None = []
value_or_empty (Some f) = f.value

abbrev pub value_of : List ℕ → List Field → List ℕ
value_of name fields = value_or_empty (find (is_named name) fields)
