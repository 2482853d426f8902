use Rattle.std.proofs.Common.{ℕ, ◌≡◌, ◌<◌, ◌+◌, ◌-◌, ◌/◌, ◌%◌, ◌==◌, ◌∙◌, ap, sym, subst, arith, div-add-mod'}
use prog.Atomic.{either}
use Rattle.atomic_table.specs.Table.{Allows, step}
use Rattle.nncq_ring.specs.Words.{entry_of}
use Rattle.nncq_ring.specs.Rule.{RingHolds, Puts}
use Rattle.nncq_ring.proofs.Stepping.{puts}
use Rattle.nncq_ring.proofs.ring.Ring.exchange_entry.Goals as goal

pub compare_exchange-requires : goal.compare_exchange-requires
compare_exchange-requires g c =
    let table = c.args.self.now.table.shared in
    let seat = c.args.seat.now.seat in
    let sized = c.args.self.now.sized in
    let t : ℕ = c.args.place in
    let x : ℕ = c.args.entry in
    let v : ℕ = c.args.v in
    let n : ℕ = c.args.self.now.size in
    let second : ℕ = t - t % n + v in
    let there : c.word_of-word.result < table.table_id.words = omega (arith, c.word_of-word.ensures.1, sized.1) in
    let word : 48 + t % table.key.0 ≡ c.word_of-word.result = ap (λ (m : ℕ). 48 + t % m) sized.0 ∙ sym c.word_of-word.ensures.0 in
    let is_entry : second ≡ entry_of n t v = omega (arith, div-add-mod' t n) in
    let is_entry' : second ≡ entry_of table.key.0 t v = is_entry ∙ ap (λ (m : ℕ). entry_of m t v) (sym sized.0) in
    let before : x / table.key.0 + 1 ≡ t / table.key.0 = subst (λ (m : ℕ). x / m + 1 ≡ t / m) (sym sized.0) c.requires.before in
    let Steps : ℕ → ℕ → ℕ → ℕ → Type 0 = λ size p y i. Allows (RingHolds table.key) table.table_id.slots seat.id seat.me i (λ m. either (m == x) second m) (Puts size p y (step table.table_id.slots i x second mathlib.Core.Option.none) seat.me) in
    let here : Steps table.key.0 t v (48 + t % table.key.0) = λ s holds homes at fits. puts table.key table.table_id.slots seat.id seat.me.0 seat.me.1 s holds at t x v second c.requires.fresh c.requires.held before c.requires.looked c.requires.seen is_entry' in (
      c.requires.own,
      there,
      subst (λ (size : ℕ). Steps size g.J.Aim.place g.J.Aim.value c.word_of-word.result) (sized.0 ∙ sym c.requires.aim.0)
          (subst (λ (p : ℕ). Steps table.key.0 p g.J.Aim.value c.word_of-word.result) (sym c.requires.aim.1)
          (subst (λ (y : ℕ). Steps table.key.0 t y c.word_of-word.result) (sym c.requires.aim.2)
          (subst (Steps table.key.0 t v) word here))),
    )
