use Rattle.std.proofs.Common.{◌≡◌, drop}
use Rattle.path_normal.specs.Variables.{first_field}
use Rattle.path_normal.proofs.value.field_value.Given as goal

abbrev pub invariant-loop-field : goal.invariant-loop-field
invariant-loop-field l = first_field l.name l.fields ≡ first_field l.name (drop l.field-index l.fields)
