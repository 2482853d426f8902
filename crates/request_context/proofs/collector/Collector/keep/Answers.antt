use Rattle.std.proofs.Common.{◌+◌, ◌^◌, ◌<◌, arith}
use Rattle.request_context.specs.Cutting.{record_to}
use Rattle.request_context.proofs.Collected.{kept_more}
use Rattle.request_context.proofs.Fits.{next_fits}
use Rattle.request_context.proofs.collector.Collector.keep.Goals as goal

pub overflow_add-self : goal.overflow_add-self
overflow_add-self g c =
    let within = rw (← c.self.view_is) at c.requires.within in
    let fits : c.self.inside.next + 1 < 2 ^ 32 = next_fits (record_to g.H.Handlers.reply_of c.self.inside.asked) c.self.inside.next (g.met.H.Handlers.replies_fit c.self.inside.asked.name c.self.inside.asked.request).short within in
    omega (arith, fits)

pub invariant_of-self-2 : goal.invariant_of-self-2
invariant_of-self-2 g c =
    let within = rw (← c.self.view_is) at c.requires.within in
    let parcels = rw (← c.self.view_is) at c.requires.parcels in
    kept_more g.H.Handlers.reply_of c.self.inside.asked c.self.inside.next c.self.inside.kept.items c.reserve.new.self.items c.move_bytes.new.to.items c.args.pieces.now.parcels
    c.self.invariant within parcels c.in_ok-reserve.ensures.items c.move_bytes.ensures.bytes
