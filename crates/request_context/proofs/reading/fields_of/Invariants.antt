use Rattle.std.proofs.Common.{◌≡◌, ◌-◌}
use Rattle.request_context.specs.Reading.{fields_at}
use Rattle.request_context.proofs.Loop.{with_front}
use Rattle.request_context.proofs.reading.fields_of.Given as goal

abbrev pub invariant-loop : goal.invariant-loop
invariant-loop l = with_front l.fields.items (fields_at (l.count - l.counter) l.rest) ≡ fields_at l.count l.bytes
