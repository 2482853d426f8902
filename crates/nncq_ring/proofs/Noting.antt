-- What a look shows, and that notes stay true.
use Rattle.std.proofs.Common.{ℕ, zero, suc, ◌+◌, ◌-◌, ◌/◌, ◌%◌, ◌≡◌, ◌≤◌, ◌<◌, inl, inr, ⊎_elim, List, [], ◌∷◌, refl, sym, ap, ◌∙◌, subst, arith}
use Rattle.std.proofs.lemmas.Bool.{cases_eq, cases_lt}
use Rattle.std.proofs.lemmas.Nat.{div-mul-add}
use Rattle.nncq_ring.specs.declared.view.RingEvent.{RingEvent}
use Rattle.nncq_ring.specs.declared.view.RingEvent.TheVariants.{SawTail, SawHead, SawEntry, Pushed, Popped}
use Rattle.nncq_ring.specs.Words.{Words, entry_of, logical_tail, IsWellFormed, places, line_of}
use Rattle.nncq_ring.specs.Later.{Later, Begun}
use Rattle.nncq_ring.specs.Notes.{EntryNoted, Noted, AllNoted}
use Rattle.nncq_ring.proofs.Numbers.{turned_slot, turned_cycle, cycles_rise}
use Rattle.nncq_ring.proofs.Exchanges.{tail_open, not_lower, next_open}

no_places : (n : ℕ) (w : Words) → logical_tail n w ≡ w.head → line_of n w ≡ []
no_places n w is = let none_left : logical_tail n w - w.head ≡ 0 = omega (arith, is) in ap (places n w.entry w.head) none_left

pub empty_seen : (n h : ℕ) (w : Words) → IsWellFormed n w → h ≤ w.head → w.entry (h % n) / n + 1 ≡ h / n → (w.head ≡ h) × (logical_tail n w ≡ h) × (line_of n w ≡ [])
empty_seen n h w fine seen before =
    elim (cases_lt h (logical_tail n w)) [
      | inl above ↦ absurd (omega (arith, before, not_lower n w fine h above))
      | inr le ↦
          let at : w.head ≡ h = omega (arith, le, seen, fine.front) in
          let next : logical_tail n w ≡ h = omega (arith, le, seen, fine.front) in
          (at, next, no_places n w (next ∙ sym at))
    ]

-- A place from the logical tail on has an earlier cycle in its slot: that of the last place of the slot that is filled.
cycle_below : (n : ℕ) (w : Words) → IsWellFormed n w → (t q fuel : ℕ) → q ≤ fuel → q ≤ t → q % n ≡ t % n → logical_tail n w ≤ q → w.entry (t % n) / n < t / n
cycle_below n w fine t q zero small le slot high = absurd (omega (arith, small, high, fine.front, fine.turned, fine.size))
cycle_below n w fine t q (suc fuel) small le slot high =
    let p : ℕ = q - n in
    let turn : p + n ≡ q = omega (arith, high, fine.front, fine.turned) in
    let slot' : p % n ≡ t % n = sym (turned_slot n p fine.size) ∙ ap (λ (m : ℕ). m % n) turn ∙ slot in
    elim (cases_lt p (logical_tail n w)) [
      | inl last ↦
          let here : w.entry (t % n) / n ≡ p / n = ap (λ (j : ℕ). w.entry j / n) (sym slot') ∙ fine.cycles p last (omega (arith, high, turn)) in
          let cycle : q / n ≡ p / n + 1 = ap (λ (m : ℕ). m / n) (sym turn) ∙ turned_cycle n p fine.size in
          omega (arith, here, cycle, cycles_rise n q t fine.size le)
      | inr le' ↦ cycle_below n w fine t p fuel (omega (arith, small, turn, fine.size)) (omega (arith, le, turn)) slot' le'
    ]

pub lower : (n t : ℕ) (w : Words) → IsWellFormed n w → logical_tail n w ≤ t → w.entry (t % n) / n < t / n
lower n t w fine le = cycle_below n w fine t t t (omega arith) (omega arith) refl le

pub full_seen : (n t : ℕ) (w : Words) → IsWellFormed n w → w.entry (t % n) / n ≡ t / n → t < logical_tail n w
full_seen n t w fine has =
    elim (cases_lt t (logical_tail n w)) [
      | inl lt ↦ lt
      | inr le ↦ absurd (omega (arith, has, lower n t w fine le))
    ]

-- An entry with a later cycle than its place shows that the head has passed the place.
pub passed_seen : (n t : ℕ) (w : Words) → IsWellFormed n w → t / n < w.entry (t % n) / n → t < w.head
passed_seen n t w fine later =
    elim (cases_lt t w.head) [
      | inl lt ↦ lt
      | inr le ↦ elim (cases_lt t (logical_tail n w)) [
        | inl last ↦ absurd (omega (arith, later, fine.cycles t last (omega (arith, fine.room, le))))
        | inr high ↦ absurd (omega (arith, later, lower n t w fine high))
      ]
    ]

-- Up to the logical tail, no slot has a cycle below the one before its place's.
pub near_cycle : (n t : ℕ) (w : Words) → IsWellFormed n w → t ≤ logical_tail n w → t / n ≤ w.entry (t % n) / n + 1
near_cycle n t w fine le =
    elim (cases_lt t (logical_tail n w)) [
      | inl lt ↦ omega (arith, not_lower n w fine t lt)
      | inr high ↦
          let last : logical_tail n w ≡ t = omega (arith, le, high) in
          let before : w.entry (t % n) / n + 1 ≡ t / n = subst (λ (m : ℕ). w.entry (m % n) / n + 1 ≡ m / n) last (next_open n w fine) in
          omega (arith, before)
    ]

pub may_help : (n t : ℕ) (w : Words) → w.tail ≡ t → t < logical_tail n w → w.entry (w.tail % n) / n ≡ w.tail / n
may_help n t w is above =
    elim (cases_eq (w.entry (w.tail % n) / n) (w.tail / n)) [
      | inl has ↦ has
      | inr other ↦ absurd (omega (arith, is, above, tail_open n w other))
    ]

pub may_take : (n h x : ℕ) (w : Words) → w.head ≡ h → x / n ≡ h / n → EntryNoted n w h x → (w.entry (w.head % n) ≡ x) × (w.entry (w.head % n) / n ≡ w.head / n)
may_take n h x w is has noted =
    let there : w.entry (h % n) ≡ x = ⊎_elim (λ a. a) (λ b. absurd (omega (arith, b, is))) (noted.filled has) in
    let here : w.entry (w.head % n) ≡ x = ap (λ (m : ℕ). w.entry (m % n)) is ∙ there in
    (here, ap (λ (m : ℕ). m / n) here ∙ has ∙ ap (λ (m : ℕ). m / n) (sym is))

pub starts : (n : ℕ) (w : Words) → 0 < n → n ≤ w.head → w.tail ≡ w.head → ((p : ℕ) → p < w.head → w.head ≤ p + n → w.entry (p % n) / n ≡ p / n) → IsWellFormed n w × (line_of n w ≡ []) × (logical_tail n w ≡ w.head)
starts n w pos turned same filled =
    let p : ℕ = w.head - n in
    let turn : p + n ≡ w.head = omega (arith, turned) in
    let slot : w.tail % n ≡ p % n = ap (λ (m : ℕ). m % n) (same ∙ sym turn) ∙ turned_slot n p pos in
    let cycle : w.tail / n ≡ p / n + 1 = ap (λ (m : ℕ). m / n) (same ∙ sym turn) ∙ turned_cycle n p pos in
    let here : w.entry (w.tail % n) / n ≡ p / n = ap (λ (j : ℕ). w.entry j / n) slot ∙ filled p (omega (arith, turn, pos)) (omega (arith, turn)) in
    let next : logical_tail n w ≡ w.head = tail_open n w (λ is. absurd (omega (arith, is, here, cycle))) ∙ same in (
      record {
        size = pos;
        turned = turned;
        front = omega (arith, next);
        room = omega (arith, next);
        cycles = λ q lt near. filled q (omega (arith, lt, next)) (omega (arith, near, next));
      },
      no_places n w next,
      next,
    )

pub look_noted : (n place : ℕ) (w : Words) → IsWellFormed n w → EntryNoted n w place (w.entry (place % n))
look_noted n place w fine = record { filled = λ has. inl refl; above = λ has. full_seen n place w fine has; vacant = λ has. inl refl; passed = λ later. passed_seen n place w fine later }

entry_stays : (n place x : ℕ) (w w' : Words) → Later n w w' → EntryNoted n w place x → EntryNoted n w' place x
entry_stays n place x w w' later noted = record {
  filled = λ has. ⊎_elim
      (λ is. ⊎_elim (λ same. inl (same ∙ is)) (λ passed. inr passed) (later.filled place (ap (λ (m : ℕ). m / n) is ∙ has)))
      (λ passed. inr (omega (arith, passed, later.head)))
      (noted.filled has);
  above = λ has. omega (arith, noted.above has, later.next);
  vacant = λ has. ⊎_elim
      (λ is. ⊎_elim (λ same. inl (same ∙ is)) (λ taken. inr taken) (later.vacant place (ap (λ (m : ℕ). m / n + 1) is ∙ has)))
      (λ taken. inr (omega (arith, taken, later.next)))
      (noted.vacant has);
  passed = λ more. omega (arith, noted.passed more, later.head);
}

note_stays : (n : ℕ) (w w' : Words) (e : RingEvent) → Later n w w' → Noted n w e → Noted n w' e
note_stays n w w' (SawTail t) later noted = omega (arith, noted, later.tail)
note_stays n w w' (SawHead h) later noted = omega (arith, noted, later.head)
note_stays n w w' (SawEntry place x) later noted = entry_stays n place x w w' later noted
note_stays n w w' (Pushed place value) later noted = omega (arith, noted, later.next)
note_stays n w w' (Popped place value) later noted = omega (arith, noted, later.head)

pub notes_stay : (n : ℕ) (w w' : Words) (log : List RingEvent) → Later n w w' → AllNoted n w log → AllNoted n w' log
notes_stay n w w' [] later noted = tt
notes_stay n w w' (e ∷ es) later noted = (note_stays n w w' e later noted.0, notes_stay n w w' es later noted.1)

-- A first entry stays until its slot is filled.
pub begun_stays : (n start : ℕ) (w w' : Words) → 0 < n → Later n w w' → Begun n start w → Begun n start w'
begun_stays n start w w' pos later begun = record {
  tail = omega (arith, begun.tail, later.tail);
  entries = λ place lt near. ⊎_elim
      (λ is.
      let slot : (place + n) % n ≡ place % n = turned_slot n place pos in
      let first : entry_of n place 0 / n ≡ place / n = div-mul-add (place / n) n 0 pos in
      let before : w.entry ((place + n) % n) / n + 1 ≡ (place + n) / n = ap (λ (j : ℕ). w.entry j / n + 1) slot ∙ ap (λ (x : ℕ). x / n + 1) is ∙ ap (λ (m : ℕ). m + 1) first ∙ sym (turned_cycle n place pos) in
      ⊎_elim (λ same. inl (ap w'.entry (sym slot) ∙ same ∙ ap w.entry slot ∙ is)) (λ filled. inr filled) (later.vacant (place + n) before))
      (λ filled. inr (omega (arith, filled, later.next)))
      (begun.entries place lt near);
}
