use Rattle.std.proofs.Common.{◌≡◌, take}
use Rattle.unit_types.proofs.field.Fields.another.Given as goal

-- the fields so far are copied
abbrev pub invariant-loop-field : goal.invariant-loop-field
invariant-loop-field l = l.list.items ≡ take l.field-index l.field-items
