-- Places, slots and cycles.
use Rattle.std.proofs.Common.{ℕ, suc, ◌+◌, ◌*◌, ◌/◌, ◌%◌, ◌≡◌, ◌≢◌, ◌≤◌, ◌<◌, ap, ◌∙◌, arith, div-add-mod', mod-lt, suc-mul}
use Rattle.std.proofs.lemmas.Nat.{div-mul-add, mod-mul-add, le-div}
use Rattle.atomic_table.proofs.Lists.{one_turn}

-- one turn on: the same slot, the next cycle
turn_on : (n p : ℕ) → p + n ≡ suc (p / n) * n + p % n
turn_on n p = omega (arith, suc-mul (p / n) n, div-add-mod' p n)

pub turned_slot : (n p : ℕ) → 0 < n → (p + n) % n ≡ p % n
turned_slot n p pos = ap (λ (z : ℕ). z % n) (turn_on n p) ∙ mod-mul-add (suc (p / n)) n (p % n) (mod-lt p pos)

pub turned_cycle : (n p : ℕ) → 0 < n → (p + n) / n ≡ p / n + 1
turned_cycle n p pos = ap (λ (z : ℕ). z / n) (turn_on n p) ∙ div-mul-add (suc (p / n)) n (p % n) (mod-lt p pos) ∙ omega arith

-- a later place has no earlier cycle
pub cycles_rise : (n p q : ℕ) → 0 < n → p ≤ q → p / n ≤ q / n
cycles_rise n p q pos le = le-div (p / n) q n pos (omega (arith, div-add-mod' p n, le))

-- two places less than one turn apart have two slots
pub slots_apart : (n p q : ℕ) → p < q → q < p + n → p % n ≢ q % n
slots_apart n p q lt near same = let one : p ≡ q = one_turn p q n (omega (arith, lt)) near same in absurd (omega (arith, lt, one))
