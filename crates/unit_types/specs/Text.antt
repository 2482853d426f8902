-- Texts of bytes, cut and in lower case.
use Rattle.std.specs.Prelude.{ℕ, ◌+◌, ◌==◌, List, Option, option_map, position, take, drop}
use Rattle.std.specs.Str.{str_to_ascii_lowercase}

-- the text in front of the first separator and the text behind it, where there is a separator
abbrev pub cut : ℕ → List ℕ → Option (List ℕ × List ℕ)
cut separator text = option_map (λ at. (take at text, drop (at + 1) text)) (position (λ b. b == separator) text)

-- a text with its ASCII letters in lower case
abbrev pub lowercase : List ℕ → List ℕ
lowercase text = str_to_ascii_lowercase text
