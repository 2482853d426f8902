use Rattle.std.proofs.Common.{ℕ, ◌≡◌, ◌<◌, ◌+◌, ◌%◌, ◌∙◌, ap, sym, subst, arith}
use Rattle.atomic_table.specs.Table.{Allows, step}
use Rattle.nncq_ring.specs.Rule.{RingHolds, SeesEntry}
use Rattle.nncq_ring.proofs.Stepping.{sees_entry}
use Rattle.nncq_ring.proofs.ring.Ring.load_entry.Goals as goal

pub load-requires : goal.load-requires
load-requires g c =
    let table = c.args.self.now.table.shared in
    let seat = c.args.seat.now.seat in
    let sized = c.args.self.now.sized in
    let t : ℕ = c.args.place in
    let there : c.word_of-word.result < table.table_id.words = omega (arith, c.word_of-word.ensures.1, sized.1) in
    let word : 48 + t % table.key.0 ≡ c.word_of-word.result = ap (λ (m : ℕ). 48 + t % m) sized.0 ∙ sym c.word_of-word.ensures.0 in
    let Steps : ℕ → ℕ → ℕ → Type 0 = λ n place i. Allows (RingHolds table.key) table.table_id.slots seat.id seat.me i (λ m. m) (SeesEntry n place (step table.table_id.slots i 0 0 mathlib.Core.Option.none) seat.me) in
    let here : Steps table.key.0 t (48 + t % table.key.0) = λ s holds homes at fits. sees_entry table.key table.table_id.slots seat.id seat.me.0 seat.me.1 s holds at t in (
      c.requires.own,
      there,
      subst (λ (n : ℕ). Steps n g.J.Aim.place c.word_of-word.result) (sized.0 ∙ sym c.requires.aim.0)
          (subst (λ (place : ℕ). Steps table.key.0 place c.word_of-word.result) (sym c.requires.aim.1)
          (subst (Steps table.key.0 t) word here)),
    )
