use Rattle.std.proofs.Common.{◌≡◌, ◌++◌, take}
use Rattle.std.specs.List.{flat_map}
use Rattle.http_front.specs.Written as spec
use Rattle.http_front.proofs.written.put_kept_lines.Given as goal

-- the lines of the fields so far
abbrev pub invariant-loop-field : goal.invariant-loop-field
invariant-loop-field l = l.text.items ≡ l.initial.text.items ++ flat_map spec.kept_line (take l.field-index l.fields)
