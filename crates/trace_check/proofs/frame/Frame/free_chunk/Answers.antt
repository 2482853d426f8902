use Rattle.std.proofs.Common.{◌+◌, ◌*◌, refl}
use Rattle.trace_check.specs.Owners.{owner_in}
use Rattle.trace_check.proofs.Listed.{set_listed}
use Rattle.unit_model.specs.Effects.{with_owner}
use Rattle.unit_model.specs.declared.machine.Owner.TheVariants.{Free}
use Rattle.trace_check.proofs.frame.Frame.free_chunk.Goals as goal

pub returns : goal.returns
unfolding with_owner
returns c =
    let shape = c.self.inside.shape in
    let e = set_listed (owner_in c.self.inside.owners) (owner_in c.forget.new.owners) (640 * (shape.out_segments + shape.back_segments)) c.args.number Free c.forget.ensures.here c.forget.ensures.apart in
    rw (← c.self.view_is, e) refl
