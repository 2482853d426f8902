use Rattle.std.proofs.Common.{ℕ, ◌<◌, ◌∙◌, sym, subst, arith}
use Rattle.atomic_table.specs.Table.{Allows, step}
use Rattle.nncq_ring.specs.Rule.{RingHolds, SeesTail}
use Rattle.nncq_ring.proofs.Stepping.{sees_tail}
use Rattle.nncq_ring.proofs.ring.Ring.load_tail.Goals as goal

pub load-requires : goal.load-requires
load-requires g c =
    let table = c.args.self.now.table.shared in
    let seat = c.args.seat.now.seat in
    let sized = c.args.self.now.sized in
    let there : 32 < table.table_id.words = omega (arith, sized.1, sized.2) in
    let Steps : ℕ → Type 0 = λ n. Allows (RingHolds table.key) table.table_id.slots seat.id seat.me 32 (λ m. m) (SeesTail n (step table.table_id.slots 32 0 0 mathlib.Core.Option.none) seat.me) in
    let here : Steps table.key.0 = λ s holds homes at fits. sees_tail table.key table.table_id.slots seat.id seat.me.0 seat.me.1 s holds at in
    (c.requires.own, there, subst Steps (sized.0 ∙ sym c.requires.aim) here)
