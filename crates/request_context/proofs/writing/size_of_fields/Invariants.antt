use Rattle.std.proofs.Common.{◌≡◌, ◌-◌, ◌^◌, min, take}
use Rattle.request_context.specs.Record.{field_list_size}
use Rattle.request_context.proofs.writing.size_of_fields.Given as goal

abbrev pub invariant-loop-field : goal.invariant-loop-field
invariant-loop-field l = l.size ≡ min (field_list_size (take l.field-index l.fields)) (2 ^ 64 - 1)
