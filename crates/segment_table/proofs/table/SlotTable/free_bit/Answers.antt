use Rattle.std.proofs.Common.{ℕ, ◌≡◌, ◌+◌, ◌*◌, ◌∙◌, refl, sym, ap, subst, arith}
use Rattle.carried_slots.specs.Carried.{content}
use Rattle.chunk_map.specs.Rule.{table_index, word_number}
use Rattle.chunk_map.proofs.Numbers.{index_within, number_back}
use Rattle.segment_table.specs.Seats.{IsSeat}
use Rattle.segment_table.proofs.SeatFacts.{after_release}
use Rattle.segment_table.proofs.Stepping.{frees_bit}
use Rattle.segment_table.proofs.table.SlotTable.free_bit.Goals as goal

pub fetch_or-requires : goal.fetch_or-requires
fetch_or-requires g c =
    let table = c.args.self.now.table.shared in
    let seat = c.args.seat.now.seat in
    let sized = c.args.self.now.sized in (
      c.requires.own.0,
      omega (arith, sized.1, index_within c.args.number c.args.self.now.segments c.requires.number),
      λ s holds homes at fits. frees_bit table.key table.table_id.slots seat.id seat.me.0 seat.me.1 s (c.requires.own.1 ∙ sym sized.0) c.args.seat.now.sound holds (homes ∙ sized.4 ∙ ap (λ (m : ℕ). 640 * m) (sym sized.0)) at c.args.number c.args.bit (omega (arith, sized.0, c.requires.number)) c.requires.bit c.requires.empty,
    )

pub invariant_of-seat : goal.invariant_of-seat
invariant_of-seat g c =
    let me = c.args.seat.now.seat.me in
    let chunk : ℕ = 64 * word_number (table_index c.args.number) + c.args.bit in
    let same : chunk ≡ 64 * c.args.number + c.args.bit = omega (arith, number_back c.args.number) in
    record {
      sound = subst (IsSeat {T = g.row.T.Denot}) (sym (c.fetch_or.ensures.2 c.args.bit c.requires.bit refl)) (after_release me c.args.seat.now.sound chunk (ap (content me.1) same ∙ c.requires.empty));
    }
