-- What was so at a step of one seat, by the ring's words at it and by what the seat had noted.
use Rattle.std.proofs.Common.{ℕ, ◌+◌, ◌/◌, ◌%◌, ◌≡◌, ◌≢◌, ◌<◌, ◌≤◌, ⊎_elim, List, [], ◌∷◌, ◌++◌, sym, ap, ap₂, ◌∙◌, arith}
use mathlib.Core.Option.{some}
use lib.ListN.{get_elem?}
use Rattle.nncq_ring.specs.declared.view.RingEvent.{RingEvent}
use Rattle.nncq_ring.specs.declared.view.RingEvent.TheVariants.{SawTail, SawHead, SawEntry, Pushed}
use Rattle.nncq_ring.specs.Moments.{Meets, PutLast, TookFirst, WasEmpty}
use Rattle.nncq_ring.specs.Notes.{EntryNoted, Noted}
use Rattle.nncq_ring.specs.Shown.{SawPlace, ShowsFilled}
use Rattle.nncq_ring.specs.Words.{Words, entry_of, logical_tail, line_of, SetsEntry, SetsHead}
use Rattle.nncq_ring.proofs.Exchanges.{popped_line, pushed_line, tail_at, tail_cases}
use Rattle.nncq_ring.proofs.Noting.{empty_seen, may_take, near_cycle}
use Rattle.nncq_ring.proofs.RingParts.{note_at}

module _ (n : ℕ) (log : List RingEvent) (w : Words) (met : Meets n log w) where
  -- one of the seat's notes holds
  note : (j : ℕ) (e : RingEvent) → get_elem? log j ≡ some e → Noted n w e
  note j e there = note_at n w log j e there met.noted

  pub empty_at : (place : ℕ) → get_elem? log 0 ≡ some (SawHead place) → w.entry (place % n) / n + 1 ≡ place / n → WasEmpty n place log
  empty_at place seen before =
      let empty_now = empty_seen n place w met.fine (note 0 (SawHead place) seen) before in
      record { words = w; met = met; head = empty_now.0; line = empty_now.2 }

  pub near_place : (place : ℕ) → SawPlace place log → place / n ≤ w.entry (place % n) / n + 1
  near_place place seen =
      let below_next : place ≤ logical_tail n w = ⊎_elim
      (λ tail. let most : place ≤ w.tail = note 0 (SawTail place) tail in ⊎_elim (λ is. omega (arith, is, most)) (λ is. omega (arith, is, most)) (tail_cases n w))
      (λ head. let most : place ≤ w.head = note 0 (SawHead place) head in omega (arith, most, met.fine.front))
      seen in
      near_cycle n place w met.fine below_next

  -- an entry exchange that was won
  pub put_last : (place value : ℕ) → get_elem? log 1 ≡ some (SawTail place) → w.entry (place % n) / n + 1 ≡ place / n → value < n → logical_tail n w < w.head + n
      → (w' : Words) → SetsEntry n w w' (place % n) (entry_of n place value) → PutLast n place value log
  put_last place value seen before small room w' sets =
      let noted : place ≤ w.tail = note 1 (SawTail place) seen in
      record { before = w; after = w'; met = met; tail = (tail_at n w place met.fine noted before).0; sets = sets; line = pushed_line n place value w w' met.fine noted before small room sets }

  -- a head exchange that was won
  module _ (place entry : ℕ) (full : entry / n ≡ place / n) (looked_at : get_elem? log 0 ≡ some (SawEntry place entry)) (found : w.head ≡ place) where
    pub first_there : (w.entry (w.head % n) ≡ entry) × (w.entry (w.head % n) / n ≡ w.head / n)
    first_there = may_take n place entry w found full (note 0 (SawEntry place entry) looked_at)

    pub took_first : (w' : Words) → SetsHead n w w' (place + 1) → TookFirst n place (entry % n) log
    took_first w' sets =
        let next : SetsHead n w w' (w.head + 1) = record { head = sets.head ∙ ap (λ (m : ℕ). m + 1) (sym found); tail = sets.tail; entries = sets.entries } in
        record {
          before = w;
          after = w';
          met = met;
          head = found;
          sets = sets;
          line = popped_line n w w' met.fine first_there.1 next ∙ ap₂ (λ (p x : ℕ). (p, x % n) ∷ line_of n w') found first_there.0;
        }

  -- a place that was seen to be filled
  pub filled_above : (place : ℕ) → ShowsFilled n place log → place < logical_tail n w
  filled_above place shown =
      ⊎_elim
      (λ pushed. note 0 (Pushed place pushed.0) pushed.1)
      (λ saw. let noted : EntryNoted n w place saw.0 = note 0 (SawEntry place saw.0) saw.1 in noted.above saw.2)
      shown
