-- What a step at one ring does to this ring's part of any table's rule, and what it tells. Views are of any type: `log` is what
-- a view noted of the ring, `held` what its numbers weigh, and `others` what numbers elsewhere weigh, as in further rings.
use Rattle.std.proofs.Common.{ℕ, ◌+◌, ◌/◌, ◌%◌, ◌^◌, ◌≡◌, ◌≢◌, ◌<◌, ◌≤◌, ⊎_elim, List, [], ◌∷◌, ◌++◌, set, refl, sym, ap, ap₂, ◌∙◌, arith}
use mathlib.Core.Option.{some}
use lib.ListN.{get_elem?}
use Rattle.unit_model.specs.Weights.{weigh}
use Rattle.unit_model.specs.Sharing.{Owned, Holds}
use Rattle.unit_model.proofs.Sharing.{owned_stays, owned_moves, owned_below}
use Rattle.unit_model.proofs.Views.{sum_at}
use Rattle.unit_model.proofs.Weights.{weigh_push}
use Rattle.nncq_ring.specs.declared.view.RingEvent.{RingEvent}
use Rattle.nncq_ring.specs.declared.view.RingEvent.TheVariants.{SawTail, SawHead, SawEntry, Pushed, Popped}
use Rattle.nncq_ring.specs.Words.{Words, entry_of, logical_tail, line_of, SetsEntry, SetsTail, SetsHead}
use Rattle.nncq_ring.specs.Later.{Later}
use Rattle.nncq_ring.specs.Moments.{Meets, PutLast, TookFirst, WasEmpty, WasEntry, WasHead, WasTail}
use Rattle.nncq_ring.specs.Notes.{EntryNoted, Noted, RingPart}
use Rattle.nncq_ring.specs.Rule.{line_weight}
use Rattle.nncq_ring.specs.Shown.{SawPlace, ShowsFilled}
use Rattle.nncq_ring.proofs.Exchanges.{tail_cases, not_lower, pushed_tail, pushed_line, helped_tail, helped_line, popped_tail, popped_line}
use Rattle.nncq_ring.proofs.MomentLaws.{empty_at, filled_above, first_there, near_place, put_last, took_first}
use Rattle.nncq_ring.proofs.Noting.{look_noted, may_help}
use Rattle.nncq_ring.proofs.RingParts.{note_at, part_steps, part_pushes, part_helps, part_pops}
use Rattle.nncq_ring.proofs.RingWords.{stays_later}
use Rattle.nncq_ring.proofs.Rising.{pushed_later, helped_later, popped_later, room_left}

module _ (V : Type 0) (n : ℕ) (log : V → List RingEvent) (held : (ℕ → ℕ) → V → ℕ) (others : (ℕ → ℕ) → ℕ) (w : Words) (views : List V) (k : ℕ) (v : V) (at : get_elem? views k ≡ some v)
    (part : RingPart n log w views) (worn : logical_tail n w ≤ 2 ^ 62) (owned : Owned held (λ f. line_weight n w f + others f) n views) where
  -- the ring's part, the end of places, who has each number, and what notes rest on, with other words and another view
  abbrev pub RingAfter : Words → V → Type 0
  RingAfter w' u = RingPart n log w' (set views k u) × (logical_tail n w' ≤ 2 ^ 62) × Owned held (λ f. line_weight n w' f + others f) n (set views k u) × Later n w w'

  pub met : Meets n (log v) w
  met = record { fine = part.fine; noted = part.noted k v at }

  -- one of the seat's notes holds now
  note : (j : ℕ) (e : RingEvent) → get_elem? (log v) j ≡ some e → Noted n w e
  note j e there = note_at n w (log v) j e there (part.noted k v at)

  pub tail_below : w.tail ≤ 2 ^ 62
  tail_below = ⊎_elim (λ is. omega (arith, is, worn)) (λ is. omega (arith, is, worn)) (tail_cases n w)

  pub head_below : w.head ≤ 2 ^ 62
  head_below = omega (arith, part.fine.front, worn)

  -- ---- looks

  pub looked : (u : V) (e : RingEvent) → log u ≡ e ∷ log v → ((f : ℕ → ℕ) → held f u ≡ held f v) → Noted n w e → RingAfter w u
  looked u e grown same noted = (
    part_steps n log w views k v at part w u e grown (stays_later n w) part.fine noted,
    worn,
    owned_stays held (λ f. line_weight n w f + others f) n views k v u at same owned,
    stays_later n w,
  )

  pub was_tail : WasTail n w.tail (log v)
  was_tail = record { words = w; met = met; tail = refl }

  pub was_head : WasHead n w.head (log v)
  was_head = record { words = w; met = met; head = refl }

  pub was_entry : (place : ℕ) → WasEntry n place (w.entry (place % n)) (log v)
  was_entry place = record { words = w; met = met; entry = refl }

  pub entry_noted : (place : ℕ) → EntryNoted n w place (w.entry (place % n))
  entry_noted place = look_noted n place w part.fine

  pub was_empty : (place : ℕ) → get_elem? (log v) 0 ≡ some (SawHead place) → w.entry (place % n) / n + 1 ≡ place / n → WasEmpty n place (log v)
  was_empty = empty_at n (log v) w met

  pub near : (place : ℕ) → SawPlace place (log v) → place / n ≤ w.entry (place % n) / n + 1
  near = near_place n (log v) w met

  -- ---- an entry exchange, where the tail was seen and then the entry

  module _ (t x value : ℕ) (before : x / n + 1 ≡ t / n) (looked_at : get_elem? (log v) 0 ≡ some (SawEntry t x)) (seen : get_elem? (log v) 1 ≡ some (SawTail t)) where
    pub put : (w' : Words) (u : V) → t < 2 ^ 62 → Holds held value v → 0 < held (λ y. 1) v → w.entry (t % n) ≡ x → SetsEntry n w w' (t % n) (entry_of n t value) → log u ≡ Pushed t value ∷ log v
        → ((f : ℕ → ℕ) → held f u + f value ≡ held f v) → RingAfter w' u × PutLast n t value (log v) × (line_of n w' ≡ line_of n w ++ (t, value) ∷ [])
    put w' u fresh mine some_held found sets grown gives =
        let small : value < n = owned_below held (λ f. line_weight n w f + others f) n views k v at value mine owned in
        let there : w.entry (t % n) / n + 1 ≡ t / n = ap (λ (y : ℕ). y / n + 1) found ∙ before in
        let room : logical_tail n w < w.head + n = room_left n w (λ f. others f + weigh (held f) views) part.fine (λ f. omega (arith, owned f)) (omega (arith, some_held, sum_at (held (λ y. 1)) views k v at)) in
        let noted : t ≤ w.tail = note 1 (SawTail t) seen in
        let last : PutLast n t value (log v) = put_last n (log v) w met t value seen there small room w' sets in
        let line : line_of n w' ≡ line_of n w ++ (t, value) ∷ [] = pushed_line n t value w w' part.fine noted there small room sets in
        let weight : (f : ℕ → ℕ) → line_weight n w' f ≡ line_weight n w f + f value = λ f. ap (weigh (λ e. f e.1)) line ∙ weigh_push (λ e. f e.1) (line_of n w) (t, value) in (
          (
            part_pushes n log w views k v at part w' u t value 1 seen grown there small room sets,
            omega (arith, fresh, pushed_tail n t value w w' part.fine noted there small room sets),
            owned_moves held (λ f. line_weight n w f + others f) (λ f. line_weight n w' f + others f) n views k v u at (λ f. omega (arith, weight f, gives f)) owned,
            pushed_later n t value w w' part.fine noted there small room sets,
          ),
          last,
          line,
        )

    -- another entry than the one that was seen has the place's cycle or a later one
    pub later_entry : w.entry (t % n) ≢ x → t / n ≤ w.entry (t % n) / n
    later_entry other =
        let noted : EntryNoted n w t x = note 0 (SawEntry t x) looked_at in
        ⊎_elim (λ same. absurd (other same)) (λ filled. not_lower n w part.fine t filled) (noted.vacant before)

  -- ---- a head exchange, where the head was seen and then the entry

  module _ (h x : ℕ) (full : x / n ≡ h / n) (looked_at : get_elem? (log v) 0 ≡ some (SawEntry h x)) (seen : get_elem? (log v) 1 ≡ some (SawHead h)) where
    pub took : (w' : Words) (u : V) → w.head ≡ h → SetsHead n w w' (h + 1) → log u ≡ Popped h (x % n) ∷ log v → ((f : ℕ → ℕ) → held f u ≡ f (x % n) + held f v)
        → RingAfter w' u × TookFirst n h (x % n) (log v) × (line_of n w ≡ (h, x % n) ∷ line_of n w')
    took w' u found sets grown gains =
        let value : ℕ = x % n in
        let next : SetsHead n w w' (w.head + 1) = record { head = sets.head ∙ ap (λ (m : ℕ). m + 1) (sym found); tail = sets.tail; entries = sets.entries } in
        let there = first_there n (log v) w met h x full looked_at found in
        let line : line_of n w ≡ (h, value) ∷ line_of n w' = popped_line n w w' part.fine there.1 next ∙ ap₂ (λ (p y : ℕ). (p, y % n) ∷ line_of n w') found there.0 in
        let weight : (f : ℕ → ℕ) → line_weight n w f ≡ f value + line_weight n w' f = λ f. ap (weigh (λ e. f e.1)) line in (
          (
            part_pops n log w views k v at part w' u h x value 0 looked_at full found grown next,
            omega (arith, worn, popped_tail n w w' part.fine there.1 next),
            owned_moves held (λ f. line_weight n w f + others f) (λ f. line_weight n w' f + others f) n views k v u at (λ f. omega (arith, weight f, gains f)) owned,
            popped_later n w w' part.fine there.1 next,
          ),
          took_first n (log v) w met h x full looked_at found w' sets,
          line,
        )

    -- another head than the one that was seen is a later one
    pub later_head : w.head ≢ h → h < w.head
    later_head other = let noted : h ≤ w.head = note 1 (SawHead h) seen in omega (arith, noted, other)

  -- ---- a tail exchange, where the place was seen to be filled

  above : (t : ℕ) → ShowsFilled n t (log v) → t < logical_tail n w
  above = filled_above n (log v) w met

  module _ (t : ℕ) (shown : ShowsFilled n t (log v)) where
    pub helped : (w' : Words) (u : V) → w.tail ≡ t → SetsTail n w w' (t + 1) → log u ≡ SawTail (t + 1) ∷ log v → ((f : ℕ → ℕ) → held f u ≡ held f v) → RingAfter w' u × (line_of n w' ≡ line_of n w)
    helped w' u found sets grown same =
        let next : SetsTail n w w' (w.tail + 1) = record { head = sets.head; tail = sets.tail ∙ ap (λ (m : ℕ). m + 1) (sym found); entries = sets.entries } in
        let full = may_help n t w found (above t shown) in
        let line : line_of n w' ≡ line_of n w = helped_line n w w' part.fine full next in
        let weight : (f : ℕ → ℕ) → line_weight n w' f ≡ line_weight n w f = λ f. ap (weigh (λ e. f e.1)) line in (
          (
            part_helps n log w views k v at part w' u t (above t shown) found grown next,
            omega (arith, worn, helped_tail n w w' part.fine full next),
            owned_moves held (λ f. line_weight n w f + others f) (λ f. line_weight n w' f + others f) n views k v u at (λ f. omega (arith, weight f, same f)) owned,
            helped_later n w w' part.fine full next,
          ),
          line,
        )

    -- another tail than the place is past it
    pub past : w.tail ≢ t → t < w.tail
    past other = ⊎_elim (λ is. omega (arith, is, other, above t shown)) (λ is. omega (arith, is, other, above t shown)) (tail_cases n w)
