use Rattle.std.proofs.Common.{ℕ, List, ap, subst, ◌∙◌}
use Rattle.std.specs.Prelude.{Some}
use Rattle.request_context.specs.Parcels.{joined}
use Rattle.request_context.specs.Record.{IsRecordOf}
use Rattle.plain_fabric.proofs.Carried.{same_asked}
use Rattle.plain_fabric.proofs.carrying.read.Goals as goal

pub returns-clause-asked : goal.returns-clause-asked
returns-clause-asked g c asked is =
    let whole = c.as_slice.ensures ∙ c.in_ok-bytes.ensures.bytes ∙ ap joined c.in_ok-pieces.ensures.taken in
    let read : IsRecordOf c.as_slice.result.now c.in_ok-asked.field-0 = c.in_ok-asked.ensures in
    let found = rw c.in-Some.is at read in
    same_asked _ c.in-Some.asked asked (subst (λ (b : List ℕ). IsRecordOf b (Some c.in-Some.asked)) whole found) is
