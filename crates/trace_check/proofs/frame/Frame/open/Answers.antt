use Rattle.std.proofs.Common.{◌+◌, ◌*◌, refl}
use Rattle.trace_check.proofs.Listed.{all_free}
use Rattle.trace_check.proofs.frame.Frame.open.Goals as goal

pub returns : goal.returns
returns c =
    let shape = c.args.shape.now in
    rw (all_free c.new.result (640 * (shape.out_segments + shape.back_segments)) c.new.ensures.empty, c.in_ok-fresh_queues.ensures) refl
