use Rattle.std.proofs.Common.{◌≡◌, drop}
use Rattle.std.specs.Str.{bytes_eq, str_to_ascii_lowercase}
use Rattle.pattern_text.proofs.case.is_same_ignoring_case.Given as goal

abbrev pub invariant-loop-at : goal.invariant-loop-at
invariant-loop-at l = bytes_eq (str_to_ascii_lowercase l.text) (str_to_ascii_lowercase l.other) ≡ bytes_eq (str_to_ascii_lowercase (drop l.at l.text)) (str_to_ascii_lowercase (drop l.at l.other))
