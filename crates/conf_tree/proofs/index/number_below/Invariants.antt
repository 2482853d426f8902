use Rattle.std.proofs.Common.{◌≡◌, drop}
use Rattle.conf_tree.specs.Paths.{digits_from}
use Rattle.conf_tree.proofs.index.number_below.Given as goal

abbrev pub invariant-loop-digit : goal.invariant-loop-digit
invariant-loop-digit l = digits_from l.number (drop l.digit-index l.digits) ≡ digits_from 0 l.digits
