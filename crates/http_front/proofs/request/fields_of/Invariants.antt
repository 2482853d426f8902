use Rattle.std.proofs.Common.{◌≡◌, map, take}
use Rattle.http_front.specs.Message as spec
use Rattle.http_front.proofs.request.fields_of.Given as goal

-- the fields of the headers so far
abbrev pub invariant-loop-header : goal.invariant-loop-header
invariant-loop-header l = l.fields.items ≡ map (spec.field_at l.block) (take l.header-index l.headers)
