use Rattle.std.proofs.Common.{◌≡◌, take}
use Rattle.std.specs.Option.{option_copied}
use Rattle.request_context.specs.Comparing.{after_fields}
use Rattle.request_context.proofs.comparing.after_fields.Given as goal

abbrev pub invariant-loop-field : goal.invariant-loop-field
invariant-loop-field l = option_copied l.rest ≡ after_fields (take l.field-index l.fields) (option_copied l.bytes)
