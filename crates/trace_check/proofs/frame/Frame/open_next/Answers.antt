use Rattle.std.proofs.Common.{arith}
use Rattle.unit_model.specs.Conditions.{eleventh_of}
use Rattle.unit_model.proofs.MetConditions.{open_below}
use Rattle.trace_check.proofs.frame.Frame.open_next.Goals as goal

pub overflow_add-count : goal.overflow_add-count
overflow_add-count c =
    let below = open_below c.args.self.now (eleventh_of c.args.self.now) c.args.seat c.args.count c.most_segments-most.result c.requires c.most_segments-most.ensures.out c.most_segments-most.ensures.back in
    omega (arith, below)
