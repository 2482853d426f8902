use Rattle.std.proofs.Common.{ℕ, ◌*◌, ◌∙◌, sym, ap, subst, arith}
use Rattle.chunk_map.specs.Rule.{table_index, word_number}
use Rattle.chunk_map.proofs.Numbers.{index_within}
use Rattle.segment_table.specs.Seats.{IsSeat}
use Rattle.segment_table.proofs.SeatFacts.{after_word}
use Rattle.segment_table.proofs.Stepping.{sees_word}
use Rattle.segment_table.proofs.table.SlotTable.load_word.Goals as goal

pub load-requires : goal.load-requires
load-requires g c =
    let table = c.args.self.now.table.shared in
    let seat = c.args.seat.now.seat in
    let sized = c.args.self.now.sized in (
      c.requires.own.0,
      omega (arith, sized.1, index_within c.args.number c.args.self.now.segments c.requires.number),
      λ s holds homes at fits. sees_word table.key table.table_id.slots seat.id seat.me.0 seat.me.1 s (c.requires.own.1 ∙ sym sized.0) c.args.seat.now.sound holds (homes ∙ sized.4 ∙ ap (λ (m : ℕ). 640 * m) (sym sized.0)) at (table_index c.args.number),
    )

pub invariant_of-seat : goal.invariant_of-seat
invariant_of-seat g c = record {
  sound = subst (IsSeat {T = g.row.T.Denot}) (sym c.load.ensures.2) (after_word c.args.seat.now.seat.me c.args.seat.now.sound (word_number (table_index c.args.number)) c.load.result);
}
