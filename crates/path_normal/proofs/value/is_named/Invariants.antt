use Rattle.std.proofs.Common.{◌≡◌, drop, map}
use Rattle.std.specs.Str.{bytes_eq, str_to_ascii_lowercase}
use Rattle.path_normal.specs.Variables.{underscored}
use Rattle.path_normal.proofs.value.is_named.Given as goal

abbrev pub invariant-loop-at : goal.invariant-loop-at
invariant-loop-at l = bytes_eq (map underscored l.field) (str_to_ascii_lowercase l.name) ≡ bytes_eq (map underscored (drop l.at l.field)) (str_to_ascii_lowercase (drop l.at l.name))
