-- Configurations under their numbers.
use Rattle.std.specs.Prelude.{ℕ}
use Rattle.std.specs.Arc.{arc_value}
use Rattle.conf_validate.specs.Configuration.{Configuration}
use Rattle.conf_validate.specs.declared.current.Current.{Current}

-- the number of a configuration, and what it says
abbrev pub numbered : Current → ℕ × Configuration
numbered current = (current.number, arc_value current.conf)
