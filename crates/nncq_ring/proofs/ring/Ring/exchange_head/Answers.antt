use Rattle.std.proofs.Common.{ℕ, ◌≡◌, ◌<◌, ◌+◌, ◌/◌, ◌%◌, ◌==◌, ◌∙◌, ap, sym, subst, arith}
use prog.Atomic.{either}
use Rattle.atomic_table.specs.Table.{Allows, step}
use Rattle.nncq_ring.specs.Rule.{RingHolds, Takes}
use Rattle.nncq_ring.proofs.Stepping.{takes}
use Rattle.nncq_ring.proofs.ring.Ring.exchange_head.Goals as goal

pub compare_exchange-requires : goal.compare_exchange-requires
compare_exchange-requires g c =
    let table = c.args.self.now.table.shared in
    let seat = c.args.seat.now.seat in
    let sized = c.args.self.now.sized in
    let h : ℕ = c.args.place in
    let there : 16 < table.table_id.words = omega (arith, sized.1, sized.2) in
    let full : c.args.entry / table.key.0 ≡ h / table.key.0 = subst (λ (m : ℕ). c.args.entry / m ≡ h / m) (sym sized.0) c.requires.full in
    let value : c.args.entry % table.key.0 ≡ g.J.Aim.value = ap (λ (m : ℕ). c.args.entry % m) sized.0 ∙ sym c.requires.aim.1 in
    let Steps : ℕ → ℕ → Type 0 = λ n x. Allows (RingHolds table.key) table.table_id.slots seat.id seat.me 16 (λ m. either (m == h) (h + 1) m) (Takes n x (step table.table_id.slots 16 h (h + 1) mathlib.Core.Option.none) seat.me) in
    let here : Steps table.key.0 (c.args.entry % table.key.0) = λ s holds homes at fits. takes table.key table.table_id.slots seat.id seat.me.0 seat.me.1 s holds at h c.args.entry full c.requires.looked c.requires.seen in (
      c.requires.own,
      there,
      subst (λ (n : ℕ). Steps n g.J.Aim.value) (sized.0 ∙ sym c.requires.aim.0) (subst (Steps table.key.0) value here),
    )
