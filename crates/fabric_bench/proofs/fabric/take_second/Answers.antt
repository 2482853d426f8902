use Rattle.std.proofs.Common.{ap, arith}
use Rattle.unit_model.specs.Runs.{chunks_for}
use Rattle.fabric_rule.proofs.TurnsTold.{only_works, works_on}
use Rattle.fabric_bench.proofs.fabric.take_second.Goals as goal

pub release-requires-clause-within : goal.release-requires-clause-within
release-requires-clause-within c =
    let size = ap chunks_for c.in-Run.ensures.told.run.0 in
    omega (arith, c.in-Run.ensures.told.within, size)

pub release-requires-clause-empty : goal.release-requires-clause-empty
release-requires-clause-empty c i lt =
    let size = ap chunks_for c.in-Run.ensures.told.run.0 in
    c.in-Run.ensures.told.slots.1 i (omega (arith, lt, size))

pub returns-clause-works : goal.returns-clause-works
returns-clause-works c =
    let old = c.args.seat.now.seat.me.0 in
    let claimed = c.claim.new.seat.seat.me.0 in
    let released = c.release.new.seat.seat.me.0 in
    works_on old claimed released (only_works old claimed c.claim.ensures.told.view) (only_works claimed released c.release.ensures.view)

pub returns-in_default-clause-works : goal.returns-in_default-clause-works
returns-in_default-clause-works c = only_works c.args.seat.now.seat.me.0 c.claim.new.seat.seat.me.0 c.claim.ensures.told.view
