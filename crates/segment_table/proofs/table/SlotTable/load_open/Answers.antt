use Rattle.std.proofs.Common.{ℕ, ◌<◌, ◌*◌, ◌∙◌, sym, ap, subst, arith}
use Rattle.segment_table.specs.Seats.{IsSeat}
use Rattle.segment_table.proofs.SeatFacts.{after_open}
use Rattle.segment_table.proofs.Stepping.{sees_open}
use Rattle.segment_table.proofs.table.SlotTable.load_open.Goals as goal

pub load-requires : goal.load-requires
load-requires g c =
    let table = c.args.self.now.table.shared in
    let seat = c.args.seat.now.seat in
    let sized = c.args.self.now.sized in
    let some : 0 < table.table_id.words = omega (arith, sized.1) in
    (c.requires.own.0, some, λ s holds homes at fits. sees_open table.key table.table_id.slots seat.id seat.me.0 seat.me.1 s (c.requires.own.1 ∙ sym sized.0) c.args.seat.now.sound holds (homes ∙ sized.4 ∙ ap (λ (m : ℕ). 640 * m) (sym sized.0)) at)

pub invariant_of-seat : goal.invariant_of-seat
invariant_of-seat g c = record {
  sound = subst (IsSeat {T = g.row.T.Denot}) (sym c.load.ensures.2.1) (after_open c.args.seat.now.seat.me c.args.seat.now.sound c.load.result c.load.ensures.2.0);
}
