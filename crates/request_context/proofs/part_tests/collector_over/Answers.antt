use Rattle.std.proofs.Common.{ℕ, List, Some, subst}
use Rattle.request_context.specs.Record.{IsRecordOf}
use Rattle.request_context.proofs.part_tests.collector_over.Goals as goal

pub over-requires : goal.over-requires
over-requires c =
    let read : IsRecordOf c.as_slice.result.now c.in_ok-_asked.field-0 = c.in_ok-_asked.ensures in
    let some = rw c.in-Some.is at read in
    (c.in-Some._asked, subst (λ (b : List ℕ). IsRecordOf b (Some c.in-Some._asked)) c.as_slice.ensures some)
