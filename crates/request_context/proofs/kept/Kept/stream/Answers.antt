use Rattle.std.proofs.Common.{◌∙◌, sym, ap}
use Rattle.request_context.specs.declared.asked.Asked.{Asked}
use Rattle.request_context.specs.Comparing.{asked_in, asked_of}
use Rattle.request_context.proofs.Compared.{has_stream, is_stream}
use Rattle.request_context.proofs.kept.Kept.stream.Goals as goal

pub unreachable-requires : goal.unreachable-requires
unreachable-requires c =
    let bytes = c.in-Record.bytes in
    has_stream bytes c.as_slice.result.now (asked_in bytes) c.as_slice.ensures (c.self.invariant bytes c.in-Record.is) (rw c.in-None.is at c.u64_at.ensures)

pub returns-in-Some : goal.returns-in-Some
returns-in-Some c =
    let bytes = c.in-Record.bytes in
    is_stream bytes c.as_slice.result.now (asked_in bytes) c.in-Some.stream c.in-Some.field-0-1.now c.as_slice.ensures (c.self.invariant bytes c.in-Record.is) c.in-Some.ensures
    ∙ ap (λ (a : Asked). a.stream) (ap asked_of (sym c.in-Record.is) ∙ c.self.view_is)
