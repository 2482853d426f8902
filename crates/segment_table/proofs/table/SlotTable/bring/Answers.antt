use Rattle.std.proofs.Common.{ℕ, ◌<◌, ◌*◌, ◌∙◌, sym, ap, subst, arith}
use mathlib.Core.Option.{none}
use Rattle.atomic_table.specs.Table.{Allows, step}
use Rattle.carried_slots.specs.Carried.{front}
use Rattle.carried_slots.proofs.Lookups.{front_weighs}
use Rattle.segment_table.specs.Rule.{Brings, SegHolds}
use Rattle.segment_table.specs.Seats.{IsSeat}
use Rattle.segment_table.proofs.SeatFacts.{same_numbers}
use Rattle.segment_table.proofs.Stepping.{brings}
use Rattle.segment_table.proofs.table.SlotTable.bring.Goals as goal

pub load-requires : goal.load-requires
load-requires g c =
    let table = c.args.self.now.table.shared in
    let seat = c.args.seat.now.seat in
    let sized = c.args.self.now.sized in
    let some : 0 < table.table_id.words = omega (arith, sized.1) in
    let Steps : ℕ → Type 0 = λ k. Allows (SegHolds table.key) table.table_id.slots seat.id seat.me 0 (λ m. m) (Brings k (step table.table_id.slots 0 0 0 none) seat.me) in
    let here : Steps c.args._chunk = λ s holds homes at fits. brings table.key table.table_id.slots seat.id seat.me.0 seat.me.1 s (c.requires.own.1 ∙ sym sized.0) c.args.seat.now.sound holds (homes ∙ sized.4 ∙ ap (λ (m : ℕ). 640 * m) (sym sized.0)) at c.args._chunk in
    (c.requires.own.0, some, subst Steps (sym c.requires.aim) here)

pub invariant_of-seat : goal.invariant_of-seat
invariant_of-seat g c =
    let me = c.args.seat.now.seat.me in
    let kept : IsSeat {T = g.row.T.Denot} (me.0, front g.J.Aim.chunk me.1) = same_numbers me c.args.seat.now.sound (me.0, front g.J.Aim.chunk me.1) (λ k. me.0) (λ f. front_weighs f me.1 g.J.Aim.chunk) in
    record {
      sound = subst (IsSeat {T = g.row.T.Denot}) (sym c.load.ensures.2) kept;
    }
