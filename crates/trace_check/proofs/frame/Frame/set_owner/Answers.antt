use Rattle.std.proofs.Common.{◌+◌, ◌*◌, refl}
use Rattle.trace_check.specs.Owners.{owner_in}
use Rattle.trace_check.proofs.Listed.{set_listed}
use Rattle.unit_model.specs.Effects.{with_owner}
use Rattle.trace_check.proofs.frame.Frame.set_owner.Goals as goal

pub returns : goal.returns
unfolding with_owner
returns c =
    let shape = c.self.inside.shape in
    let e = set_listed (owner_in c.self.inside.owners) (owner_in c.keep.new.owners) (640 * (shape.out_segments + shape.back_segments)) c.args.number c.args.owner c.in_ok-keep.ensures.here c.in_ok-keep.ensures.apart in
    rw (← c.self.view_is, e) refl
