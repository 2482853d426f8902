-- What `cut` gives of a text: the part in front of the first separator and the text behind it.
use Rattle.std.specs.Prelude.{ℕ, ◌==◌, List, [], Option, Some, None}
use Rattle.std.specs.Borrow.{Bor}
use Rattle.std.specs.List.{slice_split}

-- the parts of what stands behind the separator
abbrev pub parts_behind : ℕ → Option (Bor (List ℕ)) → List (List ℕ)
parts_behind separator None = []
parts_behind separator (Some rest) = slice_split (λ b. b == separator) rest.now

-- what stands behind the separator, or nothing
abbrev pub text_behind : Option (Bor (List ℕ)) → List ℕ
text_behind None = []
text_behind (Some rest) = rest.now
