use Rattle.std.proofs.Common.{◌≡◌, drop}
use Rattle.http_front.specs.Fields.{value_of}
use Rattle.http_front.proofs.fields.value_of.Given as goal

-- no field that is passed has the name
abbrev pub invariant-loop-field : goal.invariant-loop-field
invariant-loop-field l = value_of l.name l.fields ≡ value_of l.name (drop l.field-index l.fields)
