-- Words only rise, and there is room for a number that is held.
use Rattle.std.proofs.Common.{ℕ, zero, suc, ◌+◌, ◌-◌, ◌*◌, ◌/◌, ◌%◌, ◌≡◌, ◌≤◌, ◌<◌, inl, inr, refl, sym, ap, ap₂, ◌∙◌, arith, mod-lt, div-add-mod', suc-mul}
use Rattle.std.proofs.lemmas.Bool.{cases_eq}
use Rattle.unit_model.specs.Weights.{weigh, below}
use Rattle.unit_model.proofs.Weights.{below_ones}
use Rattle.nncq_ring.specs.Words.{Words, entry_of, logical_tail, IsWellFormed, places, line_of, SetsEntry, SetsTail, SetsHead}
use Rattle.nncq_ring.specs.Later.{Later}
use Rattle.nncq_ring.proofs.Exchanges.{tail_at, pushed_tail, helped_tail, popped_tail}

-- a place is its cycle and its slot
place_is : (n p q : ℕ) → p % n ≡ q % n → p / n ≡ q / n → p ≡ q
place_is n p q slot cycle = sym (div-add-mod' p n) ∙ ap₂ (λ (a b : ℕ). a * n + b) cycle slot ∙ div-add-mod' q n

place_before : (n p q : ℕ) → p % n ≡ q % n → p / n + 1 ≡ q / n → p + n ≡ q
place_before n p q slot cycle =
    let one : p / n + 1 ≡ suc (p / n) = omega arith in
    let turn : suc (p / n) * n + p % n ≡ q = ap₂ (λ (a b : ℕ). a * n + b) (sym one ∙ cycle) slot ∙ div-add-mod' q n in
    omega (arith, turn, suc-mul (p / n) n, div-add-mod' p n)

pub pushed_later : (n t v : ℕ) (w w' : Words) → IsWellFormed n w → t ≤ w.tail → w.entry (t % n) / n + 1 ≡ t / n → v < n → logical_tail n w < w.head + n → SetsEntry n w w' (t % n) (entry_of n t v) → Later n w w'
pushed_later n t v w w' fine seen before small room sets =
    let at = tail_at n w t fine seen before in
    let next = pushed_tail n t v w w' fine seen before small room sets in
    record {
      head = omega (arith, sets.head);
      tail = omega (arith, sets.tail);
      next = omega (arith, at.0, next);
      filled = λ p has. elim (cases_eq (p % n) (t % n)) [
        | inl slot ↦
            let cycle : p / n + 1 ≡ t / n = ap (λ (m : ℕ). m + 1) (sym has ∙ ap (λ (j : ℕ). w.entry j / n) slot) ∙ before in
            inr (omega (arith, place_before n p t slot cycle, room, at.0, sets.head))
        | inr other ↦ inl (sets.others (p % n) (mod-lt p fine.size) other)
      ];
      vacant = λ p has. elim (cases_eq (p % n) (t % n)) [
        | inl slot ↦
            let cycle : p / n ≡ t / n = sym has ∙ ap (λ (j : ℕ). w.entry j / n + 1) slot ∙ before in
            inr (omega (arith, place_is n p t slot cycle, next))
        | inr other ↦ inl (sets.others (p % n) (mod-lt p fine.size) other)
      ];
    }

pub helped_later : (n : ℕ) (w w' : Words) → IsWellFormed n w → w.entry (w.tail % n) / n ≡ w.tail / n → SetsTail n w w' (w.tail + 1) → Later n w w'
helped_later n w w' fine full sets = record {
  head = omega (arith, sets.head);
  tail = omega (arith, sets.tail);
  next = omega (arith, helped_tail n w w' fine full sets);
  filled = λ p has. inl (sets.entries (p % n) (mod-lt p fine.size));
  vacant = λ p has. inl (sets.entries (p % n) (mod-lt p fine.size));
}

pub popped_later : (n : ℕ) (w w' : Words) → IsWellFormed n w → w.entry (w.head % n) / n ≡ w.head / n → SetsHead n w w' (w.head + 1) → Later n w w'
popped_later n w w' fine full sets = record {
  head = omega (arith, sets.head);
  tail = omega (arith, sets.tail);
  next = omega (arith, popped_tail n w w' fine full sets);
  filled = λ p has. inl (sets.entries (p % n) (mod-lt p fine.size));
  vacant = λ p has. inl (sets.entries (p % n) (mod-lt p fine.size));
}

count_places : (n : ℕ) (entry : ℕ → ℕ) (from k : ℕ) → weigh (λ (e : ℕ × ℕ). 1) (places n entry from k) ≡ k
count_places n entry from zero = refl
count_places n entry from (suc k) = omega (arith, count_places n entry (suc from) k)

pub room_left : (n : ℕ) (w : Words) (held : (ℕ → ℕ) → ℕ) → IsWellFormed n w → ((f : ℕ → ℕ) → weigh (λ e. f e.1) (line_of n w) + held f ≡ below f n) → 0 < held (λ v. 1) → logical_tail n w < w.head + n
room_left n w held fine all mine =
    omega (arith, mine, all (λ v. 1), below_ones n, count_places n w.entry w.head (logical_tail n w - w.head), fine.front)
