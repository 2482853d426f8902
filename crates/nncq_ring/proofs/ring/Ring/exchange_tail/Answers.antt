use Rattle.std.proofs.Common.{ℕ, ◌<◌, sym, subst, arith}
use Rattle.nncq_ring.specs.Shown.{ShowsFilled}
use Rattle.nncq_ring.specs.Views.{events_of}
use Rattle.nncq_ring.proofs.Stepping.{helps}
use Rattle.nncq_ring.proofs.ring.Ring.exchange_tail.Goals as goal

pub compare_exchange-requires : goal.compare_exchange-requires
compare_exchange-requires c =
    let table = c.args.self.now.table.shared in
    let seat = c.args.seat.now.seat in
    let sized = c.args.self.now.sized in
    let there : 32 < table.table_id.words = omega (arith, sized.1, sized.2) in
    let shown : ShowsFilled table.key.0 c.args.place (events_of seat.me.0) = subst (λ (m : ℕ). ShowsFilled m c.args.place (events_of seat.me.0)) (sym sized.0) c.requires.shown in
    (c.requires.own, there, λ s holds homes at fits. helps table.key table.table_id.slots seat.id seat.me.0 seat.me.1 s holds at c.args.place shown)
