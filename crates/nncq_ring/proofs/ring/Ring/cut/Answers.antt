use Rattle.std.proofs.Common.{ℕ, ◌<◌, refl, sym, subst, arith}
use Rattle.atomic_table.specs.Table.{Splits}
use Rattle.nncq_ring.specs.Rule.{RingHolds}
use Rattle.nncq_ring.specs.Views.{just, without}
use Rattle.nncq_ring.proofs.Stepping.{splits, without_weighs}
use Rattle.nncq_ring.proofs.ring.Ring.cut.Goals as goal

pub split_seat-requires : goal.split_seat-requires
split_seat-requires g c =
    let table = c.args.self.now.table.shared in
    let seat = c.args.seat.now.seat in
    let v : ℕ = c.args.v in
    let some : 0 < table.table_id.words = omega (arith, c.args.self.now.sized.1, c.args.self.now.sized.2) in (
      c.requires.own,
      some,
      subst (λ (x : ℕ). Splits (RingHolds table.key) seat.id seat.me.0 (without x seat.me.0) (just x)) (sym c.requires.aim)
          (λ s holds at. splits table.key seat.id seat.me.0 (without v seat.me.0) (just v) (λ f. omega (arith, without_weighs f v seat.me.0 c.requires.held)) refl refl s holds at),
    )
