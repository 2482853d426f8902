use Rattle.std.proofs.Common.{◌≡◌, take}
use Rattle.unit_types.proofs.field.Fields.is_equal.Given as goal

-- the fields so far are the same
abbrev pub invariant-loop-i : goal.invariant-loop-i
invariant-loop-i l = take l.i l.field-items ≡ take l.i l.others
