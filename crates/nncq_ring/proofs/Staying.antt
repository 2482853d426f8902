-- A step that changes none of a ring's words leaves all of the ring.
use Rattle.std.proofs.Common.{ℕ, ◌+◌, ◌-◌, ◌/◌, ◌%◌, ◌≡◌, ◌≤◌, ◌<◌, ◌==◌, ◌⊎◌, ⊎_elim, inl, cond, List, set, ap, ap₂, ◌∙◌, arith, mod-lt, get_or-set_other}
use mathlib.Core.Option.{some}
use lib.ListN.{get_elem?}
use Rattle.nncq_ring.specs.declared.view.RingEvent.{RingEvent}
use Rattle.nncq_ring.specs.Words.{Words, logical_tail, IsWellFormed, places, line_of, SameWords}
use Rattle.nncq_ring.specs.Later.{Later}
use Rattle.nncq_ring.specs.Notes.{RingPart}
use Rattle.nncq_ring.specs.RingWords.{ring_words}
use Rattle.nncq_ring.specs.Staying.{RingStays}
use Rattle.nncq_ring.proofs.Exchanges.{places_same}
use Rattle.nncq_ring.proofs.Noting.{notes_stay}
use Rattle.nncq_ring.proofs.RingParts.{part_stays}

module _ (n : ℕ) (w w' : Words) (fine : IsWellFormed n w) (same : SameWords n w w') where
  pub same_tail : logical_tail n w' ≡ logical_tail n w
  same_tail =
      ap (λ (m : ℕ). cond (w'.entry (m % n) / n == m / n) (m + 1) m) same.tail
      ∙ ap (λ (x : ℕ). cond (x / n == w.tail / n) (w.tail + 1) w.tail) (same.entries (w.tail % n) (mod-lt w.tail fine.size))

  pub same_fine : IsWellFormed n w'
  same_fine = record {
    size = fine.size;
    turned = omega (arith, fine.turned, same.head);
    front = omega (arith, fine.front, same.head, same_tail);
    room = omega (arith, fine.room, same.head, same_tail);
    cycles = λ p lt near. ap (λ (x : ℕ). x / n) (same.entries (p % n) (mod-lt p fine.size)) ∙ fine.cycles p (omega (arith, lt, same_tail)) (omega (arith, near, same_tail));
  }

  pub same_line : line_of n w' ≡ line_of n w
  same_line =
      let long : logical_tail n w' - w'.head ≡ logical_tail n w - w.head = ap₂ (λ (a b : ℕ). a - b) same_tail same.head in
      ap₂ (places n w'.entry) same.head long ∙ places_same n w.entry w'.entry w.head (logical_tail n w - w.head) (λ p low high. same.entries (p % n) (mod-lt p fine.size))

  pub same_later : Later n w w'
  same_later = record {
    head = omega (arith, same.head);
    tail = omega (arith, same.tail);
    next = omega (arith, same_tail);
    filled = λ p has. inl (same.entries (p % n) (mod-lt p fine.size));
    vacant = λ p has. inl (same.entries (p % n) (mod-lt p fine.size));
  }

  pub ring_stays : RingStays n w w'
  ring_stays = record {
    fine = same_fine;
    tail = same_tail;
    line = same_line;
    later = same_later;
    noted = λ log noted. notes_stay n w w' log same_later noted;
  }

-- the part of a rule that speaks of a ring whose words and whose notes a step left
pub part_same : (V : Type 0) (n : ℕ) (log : V → List RingEvent) (w w' : Words) (views : List V) (k : ℕ) (v u : V) → get_elem? views k ≡ some v → RingPart n log w views → SameWords n w w' → log u ≡ log v → RingPart n log w' (set views k u)
part_same V n log w w' views k v u at part same unnoted = part_stays n log w views k v at part w' u unnoted (same_later n w w' part.fine same) (same_fine n w w' part.fine same)

-- a word outside a ring's words is none of the ring's
pub set_outside : (n offset : ℕ) (words : List ℕ) (i x : ℕ) → (i < offset) ⊎ (offset + 32 + n ≤ i) → SameWords n (ring_words offset words) (ring_words offset (set words i x))
set_outside n offset words i x outside = record {
  head = get_or-set_other words i offset x 0 (λ is. ⊎_elim (λ low. absurd (omega (arith, is, low))) (λ high. absurd (omega (arith, is, high))) outside);
  tail = get_or-set_other words i (offset + 16) x 0 (λ is. ⊎_elim (λ low. absurd (omega (arith, is, low))) (λ high. absurd (omega (arith, is, high))) outside);
  entries = λ j lt. get_or-set_other words i (offset + 32 + j) x 0 (λ is. ⊎_elim (λ low. absurd (omega (arith, is, low))) (λ high. absurd (omega (arith, is, high, lt))) outside);
}
