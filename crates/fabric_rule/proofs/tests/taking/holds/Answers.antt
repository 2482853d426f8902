use Rattle.std.proofs.Common.{ap}
use Rattle.fabric_rule.proofs.TestSeats.{may_hold}
use Rattle.fabric_rule.proofs.tests.taking.holds.Goals as goal

pub take_in-requires-clause-may : goal.take_in-requires-clause-may
take_in-requires-clause-may c =
    let handed_on = c.hand_on-state in
    may_hold handed_on.result.seat.me.0 handed_on.new.seat.seat.me.0 c.args.seat.seat.me.0 (ap (λ m. m.0) c.requires.noted) (ap (λ m. m.0) handed_on.ensures.leaves) (ap (λ m. m.0) handed_on.ensures.stays)
