use Rattle.std.proofs.Common.{◌≡◌, ◌++◌, length, take}
use Rattle.std.specs.Int.{w32}
use Rattle.std.specs.List.{flat_map}
use Rattle.unit_types.specs.Record.{number, field_bytes}
use Rattle.request_context.proofs.writing.put_fields.Given as goal

abbrev pub invariant-loop-field : goal.invariant-loop-field
invariant-loop-field l = l.out.items ≡ (l.fn.out.items ++ number w32 (length l.fields)) ++ flat_map field_bytes (take l.field-index l.fields)
