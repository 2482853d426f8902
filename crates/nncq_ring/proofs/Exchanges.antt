-- What an exchange that is won does to the line.
use Rattle.std.proofs.Common.{ℕ, zero, suc, ◌+◌, ◌-◌, ◌/◌, ◌%◌, ◌≡◌, ◌≢◌, ◌≤◌, ◌<◌, ◌==◌, ◌⊎◌, inl, inr, ⊎_elim, Bool, cond, List, [], ◌∷◌, ◌++◌, length, refl, sym, ap, ap₂, ◌∙◌, subst, arith, mod-lt}
use Rattle.std.proofs.lemmas.Nat.{div-mul-add, mod-mul-add}
use Rattle.std.proofs.lemmas.Bool.{eq-eqb, ne_eqb, cases_eq, cases_lt}
use Rattle.nncq_ring.specs.Words.{Words, entry_of, logical_tail, IsWellFormed, places, line_of, SetsEntry, SetsTail, SetsHead}
use Rattle.nncq_ring.proofs.Numbers.{turned_slot, turned_cycle, cycles_rise, slots_apart}

-- ---- the logical tail

pub tail_full : (n : ℕ) (w : Words) → w.entry (w.tail % n) / n ≡ w.tail / n → logical_tail n w ≡ w.tail + 1
tail_full n w is = ap (λ (b : Bool). cond b (w.tail + 1) w.tail) (eq-eqb (w.entry (w.tail % n) / n) (w.tail / n) is)

pub tail_open : (n : ℕ) (w : Words) → w.entry (w.tail % n) / n ≢ w.tail / n → logical_tail n w ≡ w.tail
tail_open n w ne = ap (λ (b : Bool). cond b (w.tail + 1) w.tail) (ne_eqb (w.entry (w.tail % n) / n) (w.tail / n) ne)

pub tail_cases : (n : ℕ) (w : Words) → (logical_tail n w ≡ w.tail) ⊎ (logical_tail n w ≡ w.tail + 1)
tail_cases n w = ⊎_elim (λ is. inr (tail_full n w is)) (λ ne. inl (tail_open n w ne)) (cases_eq (w.entry (w.tail % n) / n) (w.tail / n))

-- ---- lists of places

pub places_same : (n : ℕ) (entry entry' : ℕ → ℕ) (from k : ℕ) → ((p : ℕ) → from ≤ p → p < from + k → entry' (p % n) ≡ entry (p % n)) → places n entry' from k ≡ places n entry from k
places_same n entry entry' from zero same = refl
places_same n entry entry' from (suc k) same =
    ap₂ (λ (x : ℕ) (rest : List (ℕ × ℕ)). (from, x % n) ∷ rest) (same from (omega arith) (omega arith)) (places_same n entry entry' (suc from) k (λ p low high. same p (omega (arith, low)) (omega (arith, high))))

pub places_last : (n : ℕ) (entry : ℕ → ℕ) (from k : ℕ) → places n entry from (suc k) ≡ places n entry from k ++ (from + k, entry ((from + k) % n) % n) ∷ []
places_last n entry from zero = let same : from ≡ from + 0 = omega arith in ap (λ (p : ℕ). (p, entry (p % n) % n) ∷ []) same
places_last n entry from (suc k) =
    let same : suc from + k ≡ from + suc k = omega arith in
    ap (λ (rest : List (ℕ × ℕ)). (from, entry (from % n) % n) ∷ rest) (places_last n entry (suc from) k ∙ ap (λ (p : ℕ). places n entry (suc from) k ++ (p, entry (p % n) % n) ∷ []) same)

pub places_long : (n : ℕ) (entry : ℕ → ℕ) (from k : ℕ) → length (places n entry from k) ≡ k
places_long n entry from zero = refl
places_long n entry from (suc k) = ap suc (places_long n entry (suc from) k)

-- ---- what an entry's cycle says of the logical tail

-- A place below the logical tail has its cycle in its slot, or a later one: that of the last place of the slot that is filled.
cycle_from : (n : ℕ) (w : Words) → IsWellFormed n w → (t p fuel : ℕ) → logical_tail n w ≤ p + fuel → t ≤ p → p % n ≡ t % n → p < logical_tail n w → t / n ≤ w.entry (t % n) / n
cycle_from n w fine t p zero near le slot lt = absurd (omega (arith, near, lt))
cycle_from n w fine t p (suc fuel) near le slot lt =
    elim (cases_lt (p + n) (logical_tail n w)) [
      | inl far ↦ cycle_from n w fine t (p + n) fuel (omega (arith, near, fine.size)) (omega (arith, le)) (turned_slot n p fine.size ∙ slot) far
      | inr last ↦
          let here : w.entry (t % n) / n ≡ p / n = ap (λ (j : ℕ). w.entry j / n) (sym slot) ∙ fine.cycles p lt last in
          omega (arith, here, cycles_rise n t p fine.size le)
    ]

pub not_lower : (n : ℕ) (w : Words) → IsWellFormed n w → (t : ℕ) → t < logical_tail n w → t / n ≤ w.entry (t % n) / n
not_lower n w fine t lt = cycle_from n w fine t t (logical_tail n w) (omega arith) (omega arith) refl lt

pub tail_at : (n : ℕ) (w : Words) (t : ℕ) → IsWellFormed n w → t ≤ w.tail → w.entry (t % n) / n + 1 ≡ t / n → (logical_tail n w ≡ t) × (w.tail ≡ t)
tail_at n w t fine seen before =
    elim (cases_lt t (logical_tail n w)) [
      | inl above ↦ absurd (omega (arith, before, not_lower n w fine t above))
      | inr le ↦ ⊎_elim
          (λ open_tail. (omega (arith, le, seen, open_tail), omega (arith, le, seen, open_tail)))
          (λ full. absurd (omega (arith, le, seen, full)))
          (tail_cases n w)
    ]

-- ---- a won entry exchange

module _ (n t v : ℕ) (w w' : Words) (fine : IsWellFormed n w) (seen : t ≤ w.tail) (before : w.entry (t % n) / n + 1 ≡ t / n) (small : v < n) (room : logical_tail n w < w.head + n) (sets : SetsEntry n w w' (t % n) (entry_of n t v)) where
  at : (logical_tail n w ≡ t) × (w.tail ≡ t)
  at = tail_at n w t fine seen before

  new_cycle : w'.entry (t % n) / n ≡ t / n
  new_cycle = ap (λ (x : ℕ). x / n) sets.here ∙ div-mul-add (t / n) n v small

  new_value : w'.entry (t % n) % n ≡ v
  new_value = ap (λ (x : ℕ). x % n) sets.here ∙ mod-mul-add (t / n) n v small

  kept : (p : ℕ) → p < t → t < p + n → w'.entry (p % n) ≡ w.entry (p % n)
  kept p lt near = sets.others (p % n) (mod-lt p fine.size) (slots_apart n p t lt near)

  -- the logical tail rises by one
  pub pushed_tail : logical_tail n w' ≡ t + 1
  pushed_tail =
      let tail' : w'.tail ≡ t = sets.tail ∙ at.1 in
      let cycle : w'.entry (w'.tail % n) / n ≡ w'.tail / n = subst (λ (m : ℕ). w'.entry (m % n) / n ≡ m / n) (sym tail') new_cycle in
      tail_full n w' cycle ∙ ap (λ (m : ℕ). m + 1) tail'

  pub pushed_fine : IsWellFormed n w'
  pushed_fine = record {
    size = fine.size;
    turned = omega (arith, fine.turned, sets.head);
    front = omega (arith, fine.front, sets.head, at.0, pushed_tail);
    room = omega (arith, room, sets.head, at.0, pushed_tail);
    cycles = λ p lt near. elim (cases_eq p t) [
      | inl is ↦ subst (λ (m : ℕ). w'.entry (m % n) / n ≡ m / n) (sym is) new_cycle
      | inr other ↦
          let low : p < t = omega (arith, lt, other, pushed_tail) in
          let high : t < p + n = omega (arith, near, pushed_tail) in
          ap (λ (x : ℕ). x / n) (kept p low high) ∙ fine.cycles p (omega (arith, low, at.0)) (omega (arith, high, at.0))
    ];
  }

  -- the value stands last in the line, at this place
  pub pushed_line : line_of n w' ≡ line_of n w ++ (t, v) ∷ []
  pushed_line =
      let k : ℕ = t - w.head in
      let from : w.head + k ≡ t = omega (arith, fine.front, at.0) in
      let longer : logical_tail n w' - w'.head ≡ suc k = omega (arith, fine.front, at.0, pushed_tail, sets.head) in
      let long : logical_tail n w - w.head ≡ k = ap (λ (m : ℕ). m - w.head) at.0 in
      let same : places n w'.entry w.head k ≡ places n w.entry w.head k = places_same n w.entry w'.entry w.head k (λ p low high. kept p (omega (arith, high, from)) (omega (arith, low, room, at.0))) in
      ap₂ (places n w'.entry) sets.head longer
      ∙ places_last n w'.entry w.head k
      ∙ ap₂ (λ (front : List (ℕ × ℕ)) (p : ℕ). front ++ (p, w'.entry (p % n) % n) ∷ []) same from
      ∙ ap₂ (λ (m x : ℕ). places n w.entry w.head m ++ (t, x) ∷ []) (sym long) new_value

-- ---- a won tail exchange, where the entry at the tail has its cycle

pub next_open : (n : ℕ) (w : Words) → IsWellFormed n w → w.entry (logical_tail n w % n) / n + 1 ≡ logical_tail n w / n
next_open n w fine =
    let next : ℕ = logical_tail n w in
    let p : ℕ = next - n in
    let turn : p + n ≡ next = omega (arith, fine.turned, fine.front) in
    let slot : next % n ≡ p % n = ap (λ (m : ℕ). m % n) (sym turn) ∙ turned_slot n p fine.size in
    let cycle : next / n ≡ p / n + 1 = ap (λ (m : ℕ). m / n) (sym turn) ∙ turned_cycle n p fine.size in
    let here : w.entry (p % n) / n ≡ p / n = fine.cycles p (omega (arith, turn, fine.size)) (omega (arith, turn)) in
    let at : w.entry (next % n) / n ≡ p / n = ap (λ (j : ℕ). w.entry j / n) slot ∙ here in
    omega (arith, at, cycle)

module _ (n : ℕ) (w w' : Words) (fine : IsWellFormed n w) (full : w.entry (w.tail % n) / n ≡ w.tail / n) (sets : SetsTail n w w' (w.tail + 1)) where
  pub helped_tail : logical_tail n w' ≡ logical_tail n w
  helped_tail =
      let next : logical_tail n w ≡ w.tail + 1 = tail_full n w full in
      let tail' : w'.tail ≡ logical_tail n w = sets.tail ∙ sym next in
      let entry' : w'.entry (logical_tail n w % n) ≡ w.entry (logical_tail n w % n) = sets.entries (logical_tail n w % n) (mod-lt (logical_tail n w) fine.size) in
      let lower : w'.entry (logical_tail n w % n) / n + 1 ≡ logical_tail n w / n = ap (λ (x : ℕ). x / n + 1) entry' ∙ next_open n w fine in
      let ne : w'.entry (w'.tail % n) / n ≢ w'.tail / n = subst (λ (m : ℕ). w'.entry (m % n) / n ≢ m / n) (sym tail') (λ is. absurd (omega (arith, is, lower))) in
      tail_open n w' ne ∙ tail'

  pub helped_fine : IsWellFormed n w'
  helped_fine = record {
    size = fine.size;
    turned = omega (arith, fine.turned, sets.head);
    front = omega (arith, fine.front, sets.head, helped_tail);
    room = omega (arith, fine.room, sets.head, helped_tail);
    cycles = λ p lt near. ap (λ (x : ℕ). x / n) (sets.entries (p % n) (mod-lt p fine.size)) ∙ fine.cycles p (omega (arith, lt, helped_tail)) (omega (arith, near, helped_tail));
  }

  -- the line stays
  pub helped_line : line_of n w' ≡ line_of n w
  helped_line =
      let long : logical_tail n w' - w'.head ≡ logical_tail n w - w.head = ap₂ (λ (a b : ℕ). a - b) helped_tail sets.head in
      ap₂ (places n w'.entry) sets.head long ∙ places_same n w.entry w'.entry w.head (logical_tail n w - w.head) (λ p low high. sets.entries (p % n) (mod-lt p fine.size))

-- ---- a won head exchange, where the entry at the head has its cycle

module _ (n : ℕ) (w w' : Words) (fine : IsWellFormed n w) (full : w.entry (w.head % n) / n ≡ w.head / n) (sets : SetsHead n w w' (w.head + 1)) where
  -- the line isn't empty
  pub some_left : w.head < logical_tail n w
  some_left = elim (cases_eq w.head (logical_tail n w)) [
    | inl last ↦
        let lower : w.entry (w.head % n) / n + 1 ≡ w.head / n = subst (λ (m : ℕ). w.entry (m % n) / n + 1 ≡ m / n) (sym last) (next_open n w fine) in
        absurd (omega (arith, full, lower))
    | inr ne ↦ omega (arith, ne, fine.front)
  ]

  pub popped_tail : logical_tail n w' ≡ logical_tail n w
  popped_tail =
      let entry' : w'.entry (w.tail % n) ≡ w.entry (w.tail % n) = sets.entries (w.tail % n) (mod-lt w.tail fine.size) in
      ap (λ (m : ℕ). cond (w'.entry (m % n) / n == m / n) (m + 1) m) sets.tail ∙ ap (λ (x : ℕ). cond (x / n == w.tail / n) (w.tail + 1) w.tail) entry'

  pub popped_fine : IsWellFormed n w'
  popped_fine = record {
    size = fine.size;
    turned = omega (arith, fine.turned, sets.head);
    front = omega (arith, some_left, sets.head, popped_tail);
    room = omega (arith, fine.room, sets.head, popped_tail);
    cycles = λ p lt near. ap (λ (x : ℕ). x / n) (sets.entries (p % n) (mod-lt p fine.size)) ∙ fine.cycles p (omega (arith, lt, popped_tail)) (omega (arith, near, popped_tail));
  }

  -- the first of the line is taken
  pub popped_line : line_of n w ≡ (w.head, w.entry (w.head % n) % n) ∷ line_of n w'
  popped_line =
      let k : ℕ = logical_tail n w - (w.head + 1) in
      let one : logical_tail n w - w.head ≡ suc k = omega (arith, some_left) in
      let after_head : w'.head ≡ suc w.head = sets.head ∙ omega arith in
      let long : logical_tail n w' - w'.head ≡ k = omega (arith, popped_tail, sets.head) in
      let rest : line_of n w' ≡ places n w.entry (suc w.head) k = ap₂ (places n w'.entry) after_head long ∙ places_same n w.entry w'.entry (suc w.head) k (λ p low high. sets.entries (p % n) (mod-lt p fine.size)) in
      ap (places n w.entry w.head) one ∙ ap (λ (r : List (ℕ × ℕ)). (w.head, w.entry (w.head % n) % n) ∷ r) (sym rest)
