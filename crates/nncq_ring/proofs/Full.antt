-- A ring that starts full.
use Rattle.std.proofs.Common.{ℕ, zero, suc, ◌+◌, ◌-◌, ◌*◌, ◌/◌, ◌%◌, ◌≡◌, ◌≤◌, ◌<◌, inl, inr, List, [], ◌∷◌, ◌++◌, refl, sym, ap, ap₂, ◌∙◌, subst, arith, div-add-mod', mod-lt, suc-mul}
use Rattle.std.proofs.lemmas.Bool.{cases_lt}
use Rattle.atomic_table.proofs.Lists.{one_turn}
use Rattle.std.proofs.lemmas.Nat.{div-mul-add, mod-mul-add}
use Rattle.unit_model.specs.Weights.{weigh, below}
use Rattle.unit_model.proofs.Weights.{weigh_push}
use Rattle.nncq_ring.specs.Words.{Words, logical_tail, IsWellFormed, places, line_of}
use Rattle.nncq_ring.specs.RingWords.{StartsFull, full_line}
use Rattle.nncq_ring.proofs.Exchanges.{places_last, tail_open}
use Rattle.nncq_ring.proofs.Numbers.{turned_slot, turned_cycle}

module _ (n start : ℕ) (w : Words) (pos : 0 < n) (turned : n ≤ start) (full : StartsFull n start w) where
  full_cycle : (value : ℕ) → value < n → w.entry ((start + value) % n) / n ≡ (start + value) / n
  full_cycle value lt = ap (λ (x : ℕ). x / n) (full.entries value lt) ∙ div-mul-add ((start + value) / n) n value lt

  full_value : (value : ℕ) → value < n → w.entry ((start + value) % n) % n ≡ value
  full_value value lt = ap (λ (x : ℕ). x % n) (full.entries value lt) ∙ mod-mul-add ((start + value) / n) n value lt

  pub full_tail : logical_tail n w ≡ start + n
  full_tail =
      let first : start + 0 ≡ start = omega arith in
      let here : w.entry (start % n) / n ≡ start / n = subst (λ (p : ℕ). w.entry (p % n) / n ≡ p / n) first (full_cycle 0 pos) in
      let at : w.entry (w.tail % n) / n ≡ start / n = ap (λ (p : ℕ). w.entry (p % n) / n) full.tail ∙ ap (λ (j : ℕ). w.entry j / n) (turned_slot n start pos) ∙ here in
      let cycle : w.tail / n ≡ start / n + 1 = ap (λ (p : ℕ). p / n) full.tail ∙ turned_cycle n start pos in
      tail_open n w (λ is. absurd (omega (arith, is, at, cycle))) ∙ full.tail

  full_places : (k : ℕ) → k ≤ n → places n w.entry start k ≡ full_line start k
  full_places zero le = refl
  full_places (suc k) le =
      places_last n w.entry start k
      ∙ ap₂ (λ (line : List (ℕ × ℕ)) (value : ℕ). line ++ (start + k, value) ∷ []) (full_places k (omega (arith, le))) (full_value k (omega (arith, le)))

  pub full_fine : IsWellFormed n w
  full_fine = record {
    size = pos;
    turned = omega (arith, turned, full.head);
    front = omega (arith, full.head, full_tail);
    room = omega (arith, full.head, full_tail);
    cycles = λ p lt near.
        let from : start + (p - start) ≡ p = omega (arith, near, full_tail) in
        subst (λ (q : ℕ). w.entry (q % n) / n ≡ q / n) from (full_cycle (p - start) (omega (arith, lt, near, full_tail)));
  }

  pub full_starts : line_of n w ≡ full_line start n
  full_starts =
      let long : logical_tail n w - w.head ≡ n = omega (arith, full_tail, full.head) in
      ap₂ (places n w.entry) full.head long ∙ full_places n (omega arith)

-- what its values weigh
pub full_weighs : (f : ℕ → ℕ) (start k : ℕ) → weigh (λ (e : ℕ × ℕ). f e.1) (full_line start k) ≡ below f k
full_weighs f start zero = refl
full_weighs f start (suc k) = omega (arith, weigh_push (λ (e : ℕ × ℕ). f e.1) (full_line start k) (start + k, k), full_weighs f start k)

-- ---- its first entries

same_turn : (n start v w : ℕ) → v < n → w < n → (start + v) % n ≡ (start + w) % n → v ≡ w
same_turn n start v w low low' same =
    elim (cases_lt v w) [
      | inl lt ↦ let one : start + v ≡ start + w = one_turn (start + v) (start + w) n (omega (arith, lt)) (omega (arith, low')) same in omega (arith, one)
      | inr le ↦ let one : start + w ≡ start + v = one_turn (start + w) (start + v) n (omega (arith, le)) (omega (arith, low)) (sym same) in omega (arith, one)
    ]

-- the value whose place has a slot that is below the start's, or isn't
pub full_low : (n start slot value : ℕ) → 0 < n → slot < start % n → value < n → (start + value) % n ≡ slot → value ≡ slot + n - start % n
full_low n start slot value pos low lt is =
    let r : start % n < n = mod-lt start pos in
    let whole : start + (slot + n - start % n) ≡ suc (start / n) * n + slot = omega (arith, div-add-mod' start n, suc-mul (start / n) n, low, r) in
    let at : (start + (slot + n - start % n)) % n ≡ slot = ap (λ (m : ℕ). m % n) whole ∙ mod-mul-add (suc (start / n)) n slot (omega (arith, low, r)) in
    same_turn n start value (slot + n - start % n) lt (omega (arith, low, r)) (is ∙ sym at)

pub full_high : (n start slot value : ℕ) → start % n ≤ slot → slot < n → value < n → (start + value) % n ≡ slot → value ≡ slot - start % n
full_high n start slot value le within lt is =
    let whole : start + (slot - start % n) ≡ start / n * n + slot = omega (arith, div-add-mod' start n, le) in
    let at : (start + (slot - start % n)) % n ≡ slot = ap (λ (m : ℕ). m % n) whole ∙ mod-mul-add (start / n) n slot within in
    same_turn n start value (slot - start % n) lt (omega (arith, within)) (is ∙ sym at)
