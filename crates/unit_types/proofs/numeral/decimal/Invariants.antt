use Rattle.std.proofs.Common.{◌≡◌, ◌≤◌, drop}
use Rattle.unit_types.specs.Numeral.{decimal_within}
use Rattle.unit_types.proofs.NumeralLemmas.{decimal_from}
use Rattle.unit_types.proofs.numeral.decimal.Given as goal

-- the digits that are left go on from the number so far
abbrev pub invariant-loop-digit : goal.invariant-loop-digit
invariant-loop-digit l = record {
  small : l.number ≤ l.limit;
  same : decimal_within l.limit l.text ≡ decimal_from l.limit l.number (drop l.digit-index l.text);
}
