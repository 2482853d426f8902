use Rattle.std.proofs.Common.{◌<◌, arith}
use Rattle.nncq_ring.proofs.RingWords.{first_low, first_high}
use Rattle.nncq_ring.proofs.opening.first_entry.Goals as goal

pub returns-then-slot-start : goal.returns-then-slot-start
returns-then-slot-start c place before near slot =
    let some : 0 < c.args.size = omega (arith, c.requires.0) in
    first_low c.args.size c.args.start c.args.slot place some before near slot c.if-slot-start.true

pub returns-else-slot-start : goal.returns-else-slot-start
returns-else-slot-start c place before near slot =
    let some : 0 < c.args.size = omega (arith, c.requires.0) in
    first_high c.args.size c.args.start c.args.slot place some before near slot (omega (arith, c.if-slot-start.false))
