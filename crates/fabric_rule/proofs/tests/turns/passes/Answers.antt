use Rattle.fabric_rule.proofs.TurnsTold.{only_works, works_get, works_on}
use Rattle.fabric_rule.proofs.tests.turns.passes.Goals as goal

pub goes_round-passed-requires-clause-may : goal.goes_round-passed-requires-clause-may
goes_round-passed-requires-clause-may c =
    let old = c.args.seat.now.seat.me.0 in
    let claimed = c.claim.new.seat.seat.me.0 in
    works_get c.args.table.now.table.shared.key 0 old claimed (only_works old claimed c.claim.ensures.told.view) c.requires.gets

pub release-requires-clause-within : goal.release-requires-clause-within
release-requires-clause-within c = c.in-Run.ensures.told.within

pub release-requires-clause-empty : goal.release-requires-clause-empty
release-requires-clause-empty c = rw c.goes_round-passed.ensures.slots c.in-Run.ensures.told.slots.1

pub returns-clause-works : goal.returns-clause-works
returns-clause-works c =
    let old = c.args.seat.now.seat.me.0 in
    let claimed = c.claim.new.seat.seat.me.0 in
    let round = c.goes_round-passed.new.seat.seat.me.0 in
    let released = c.release.new.seat.seat.me.0 in
    works_on old claimed released (only_works old claimed c.claim.ensures.told.view) (works_on claimed round released c.goes_round-passed.ensures.works (only_works round released c.release.ensures.view))

pub returns-in_default-clause-works : goal.returns-in_default-clause-works
returns-in_default-clause-works c = only_works c.args.seat.now.seat.me.0 c.claim.new.seat.seat.me.0 c.claim.ensures.told.view
