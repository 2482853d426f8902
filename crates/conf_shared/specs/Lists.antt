-- Lists of configurations, in which a number is an index.
use Rattle.std.specs.Prelude.{◌≡◌, ℕ, ◌+◌, List, length, map, None, Some}
use Rattle.std.specs.List.{last_or}
use Rattle.conf_validate.specs.Configuration.{Configuration}
use Rattle.conf_book.specs.Books.{Publications}

-- these configurations without their numbers
abbrev pub bare_configurations : List (ℕ × Configuration) → List Configuration
bare_configurations configurations = map (λ c. c.1) configurations

-- the configurations of a book, in the order in which they were published
abbrev pub list_of : Publications → List Configuration
list_of book = bare_configurations book.configurations

-- this configuration ends the list, and its number is its index there
abbrev pub IsNewest : List Configuration → ℕ × Configuration → Type 0
IsNewest list c = (c.0 + 1 ≡ length list) × (last_or None list ≡ Some c.1)
