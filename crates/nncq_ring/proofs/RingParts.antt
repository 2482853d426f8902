-- What the kinds of step do to a ring's part of a rule, over views of any type.
use Rattle.std.proofs.Common.{ℕ, zero, suc, ◌+◌, ◌/◌, ◌%◌, ◌≡◌, ◌≤◌, ◌<◌, ◌⊎◌, ⊎_elim, List, [], ◌∷◌, ◌++◌, set, sym, subst, arith}
use mathlib.Core.Option.{some, some-injective, some-ne-none}
use lib.ListN.{get_elem?}
use Rattle.atomic_table.proofs.Lists.{at_set, at_snoc}
use Rattle.nncq_ring.specs.declared.view.RingEvent.{RingEvent}
use Rattle.nncq_ring.specs.declared.view.RingEvent.TheVariants.{SawTail, SawEntry, Pushed, Popped}
use Rattle.nncq_ring.specs.Words.{Words, entry_of, logical_tail, IsWellFormed, SetsEntry, SetsTail, SetsHead}
use Rattle.nncq_ring.specs.Later.{Later}
use Rattle.nncq_ring.specs.Notes.{EntryNoted, Noted, AllNoted, RingPart}
use Rattle.nncq_ring.proofs.Exchanges.{pushed_fine, pushed_tail, helped_fine, popped_fine}
use Rattle.nncq_ring.proofs.Rising.{pushed_later, helped_later, popped_later}
use Rattle.nncq_ring.proofs.Noting.{notes_stay, may_help, may_take}

-- one note of a log
pub note_at : (n : ℕ) (w : Words) (log : List RingEvent) (j : ℕ) (e : RingEvent) → get_elem? log j ≡ some e → AllNoted n w log → Noted n w e
note_at n w [] j e at noted = absurd (some-ne-none e (sym at))
note_at n w (x ∷ xs) zero e at noted = subst (Noted n w) (some-injective x e at) noted.0
note_at n w (x ∷ xs) (suc j) e at noted = note_at n w xs j e at noted.1

notes_both : (n : ℕ) (w : Words) (xs ys : List RingEvent) → AllNoted n w xs → AllNoted n w ys → AllNoted n w (xs ++ ys)
notes_both n w [] ys one two = two
notes_both n w (x ∷ xs) ys one two = (one.0, notes_both n w xs ys one.1 two)

module _ {V : Type 0} (n : ℕ) (log : V → List RingEvent) (w : Words) (views : List V) (k : ℕ) (v : V) (at : get_elem? views k ≡ some v) (part : RingPart n log w views) where
  -- any step of one seat that notes one event more
  pub part_steps : (w' : Words) (u : V) (e : RingEvent) → log u ≡ e ∷ log v → Later n w w' → IsWellFormed n w' → Noted n w' e → RingPart n log w' (set views k u)
  part_steps w' u e grown later fine noted = record {
    fine = fine;
    noted = λ j y there. ⊎_elim
        (λ t. subst (λ (z : V). AllNoted n w' (log z)) t.1 (subst (AllNoted n w') (sym grown) (noted, notes_stay n w w' (log v) later (part.noted k v at))))
        (λ t. notes_stay n w w' (log y) later (part.noted j y t.1))
        (at_set views k j u y there);
  }

  -- the frame: the ring's words and the seat's notes of it stay
  pub part_stays : (w' : Words) (u : V) → log u ≡ log v → Later n w w' → IsWellFormed n w' → RingPart n log w' (set views k u)
  part_stays w' u same later fine = record {
    fine = fine;
    noted = λ j y there. ⊎_elim
        (λ t. subst (λ (z : V). AllNoted n w' (log z)) t.1 (subst (AllNoted n w') (sym same) (notes_stay n w w' (log v) later (part.noted k v at))))
        (λ t. notes_stay n w w' (log y) later (part.noted j y t.1))
        (at_set views k j u y there);
  }

  -- a won entry exchange at a tail that the seat saw
  pub part_pushes : (w' : Words) (u : V) (t value j : ℕ) → get_elem? (log v) j ≡ some (SawTail t) → log u ≡ Pushed t value ∷ log v → w.entry (t % n) / n + 1 ≡ t / n → value < n → logical_tail n w < w.head + n
      → SetsEntry n w w' (t % n) (entry_of n t value) → RingPart n log w' (set views k u)
  part_pushes w' u t value j saw grown before small room sets =
      let seen : t ≤ w.tail = note_at n w (log v) j (SawTail t) saw (part.noted k v at) in
      let next = pushed_tail n t value w w' part.fine seen before small room sets in
      part_steps w' u (Pushed t value) grown (pushed_later n t value w w' part.fine seen before small room sets) (pushed_fine n t value w w' part.fine seen before small room sets) (omega (arith, next))

  -- a won tail exchange at a place that the seat pushed at, or saw filled
  pub part_helps : (w' : Words) (u : V) (t : ℕ) → t < logical_tail n w → w.tail ≡ t → log u ≡ SawTail (t + 1) ∷ log v → SetsTail n w w' (w.tail + 1) → RingPart n log w' (set views k u)
  part_helps w' u t above is grown sets =
      let full = may_help n t w is above in
      part_steps w' u (SawTail (t + 1)) grown (helped_later n w w' part.fine full sets) (helped_fine n w w' part.fine full sets) (omega (arith, sets.tail, is))

  -- a won head exchange at a head whose entry the seat saw with the head's cycle
  pub part_pops : (w' : Words) (u : V) (h x value j : ℕ) → get_elem? (log v) j ≡ some (SawEntry h x) → x / n ≡ h / n → w.head ≡ h → log u ≡ Popped h value ∷ log v → SetsHead n w w' (w.head + 1) → RingPart n log w' (set views k u)
  part_pops w' u h x value j saw has is grown sets =
      let noted : EntryNoted n w h x = note_at n w (log v) j (SawEntry h x) saw (part.noted k v at) in
      let full = (may_take n h x w is has noted).1 in
      part_steps w' u (Popped h value) grown (popped_later n w w' part.fine full sets) (popped_fine n w w' part.fine full sets) (omega (arith, sets.head, is))

  -- one view is cut in two, and each half has the notes or none of them
  pub part_splits : (left right : V) → (log left ≡ log v) ⊎ (log left ≡ []) → (log right ≡ log v) ⊎ (log right ≡ []) → RingPart n log w (set views k left ++ right ∷ [])
  part_splits left right l r =
      let half : (u : V) → (log u ≡ log v) ⊎ (log u ≡ []) → AllNoted n w (log u) = λ u cases. ⊎_elim (λ same. subst (AllNoted n w) (sym same) (part.noted k v at)) (λ empty. subst (AllNoted n w) (sym empty) tt) cases in
      record {
        fine = part.fine;
        noted = λ j y there. ⊎_elim
            (λ before. ⊎_elim (λ t. subst (λ (z : V). AllNoted n w (log z)) t.1 (half left l)) (λ t. part.noted j y t.1) (at_set views k j left y before))
            (λ is. subst (λ (z : V). AllNoted n w (log z)) is (half right r))
            (at_snoc (set views k left) right y j there);
      }

  -- two views are made one
  pub part_joins : (other : ℕ) (o both spent : V) → get_elem? views other ≡ some o → log both ≡ log v ++ log o → log spent ≡ [] → RingPart n log w (set (set views k both) other spent)
  part_joins other o both spent there together empty = record {
    fine = part.fine;
    noted = λ j y seen. ⊎_elim
        (λ t. subst (λ (z : V). AllNoted n w (log z)) t.1 (subst (AllNoted n w) (sym empty) tt))
        (λ t. ⊎_elim
        (λ s. subst (λ (z : V). AllNoted n w (log z)) s.1 (subst (AllNoted n w) (sym together) (notes_both n w (log v) (log o) (part.noted k v at) (part.noted other o there))))
        (λ s. part.noted j y s.1)
        (at_set views k j both y t.1))
        (at_set (set views k both) other j spent y seen);
  }
