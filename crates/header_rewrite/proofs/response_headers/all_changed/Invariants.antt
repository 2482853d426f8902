use Rattle.std.proofs.Common.{◌≡◌, take}
use Rattle.header_rewrite.specs.ResponseHeaders.{all_changed}
use Rattle.header_rewrite.proofs.response_headers.all_changed.Given as goal

abbrev pub invariant-loop-change : goal.invariant-loop-change
invariant-loop-change l = l.list.items ≡ all_changed l.request (take l.change-index l.changes) l.fn.fields.items
