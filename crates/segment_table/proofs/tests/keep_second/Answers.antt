use Rattle.std.proofs.Common.{◌≡◌, refl, ap, arith}
use Rattle.unit_model.specs.Runs.{chunks_for}
use Rattle.segment_table.proofs.tests.keep_second.Goals as goal

pub keep-requires-clause-within : goal.keep-requires-clause-within
keep-requires-clause-within c =
    let two : chunks_for 16385 ≡ 2 = refl in
    omega (arith, c.in-Run.ensures.run.1.0, two)

pub keep-requires-clause-empty : goal.keep-requires-clause-empty
keep-requires-clause-empty c i lt =
    let two : chunks_for c.in-Run.run'.size ≡ 2 = ap chunks_for c.in-Run.ensures.run.0 in
    c.in-Run.ensures.slots.1 i (omega (arith, lt, two))
