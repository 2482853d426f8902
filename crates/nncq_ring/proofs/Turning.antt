-- What a turn tells, over any table's steps.
use Rattle.std.proofs.Common.{ℕ, ◌≡◌, ◌≢◌, ◌+◌, ◌/◌, ◌%◌, ◌^◌, ◌<◌, ◌≤◌, ◌∙◌, inl, inr, List, [], ◌∷◌, refl, ap, subst}
use mathlib.Core.Option.{some}
use lib.ListN.{get_elem?}
use Rattle.nncq_ring.specs.declared.view.RingEvent.{RingEvent}
use Rattle.nncq_ring.specs.declared.view.RingEvent.TheVariants.{SawTail, SawHead, SawEntry, Pushed, Popped}
use Rattle.nncq_ring.specs.Moments.{PutLast, TookFirst, WasEmpty, WasEntry, WasHead, WasTail}
use Rattle.nncq_ring.specs.Shown.{ShowsFilled}
use Rattle.nncq_ring.specs.Turns.{Chain, Tells, tail_looks, head_looks, IsDone, IsPushLost, IsWorn, IsGot, IsEmpty, IsPopLost}

module _ (V : Type 0) (log : V → List RingEvent) (steps : RingEvent → V → V → Type 0) (logs : (e : RingEvent) (v u : V) → steps e v u → log u ≡ e ∷ log v) where
  log_two : (d e : RingEvent) (v u w : V) → steps e v u → steps d u w → log w ≡ d ∷ e ∷ log v
  log_two d e v u w first second = logs d u w second ∙ ap (λ (es : List RingEvent). d ∷ es) (logs e v u first)

  -- the event before the newest one
  pub second_newest : (d e : RingEvent) (v u w : V) → steps e v u → steps d u w → get_elem? (log w) 1 ≡ some e
  second_newest d e v u w first second = ap (λ (l : List RingEvent). get_elem? l 1) (log_two d e v u w first second)

  pub put_shows : (n place value : ℕ) (v u : V) → steps (Pushed place value) v u → ShowsFilled n place (log u)
  put_shows n place value v u is = inl (value, ap (λ (l : List RingEvent). get_elem? l 0) (logs (Pushed place value) v u is))

  -- the newest event
  pub newest : (e : RingEvent) (v u : V) → steps e v u → get_elem? (log u) 0 ≡ some e
  newest e v u is = ap (λ (l : List RingEvent). get_elem? l 0) (logs e v u is)

  pub worn : (n tail : ℕ) (v u : V) → 2 ^ 62 ≤ tail → WasTail n tail (log v) → steps (SawTail tail) v u → Tells steps v u (IsWorn n (log v) tail)
  worn n tail v u high was first = (SawTail tail ∷ [], record { high = high; was = was; told = refl }, (v, refl, first))

  -- ---- a push: the tail was seen, and then the entry
  module _ (n tail entry : ℕ) (fresh : tail < 2 ^ 62) (v u w : V) (was : WasTail n tail (log v)) (first : steps (SawTail tail) v u) (second : steps (SawEntry tail entry) u w) (was_entry : WasEntry n tail entry (log u)) where
    looks : Chain steps (tail_looks tail entry) v w
    looks = (u, (v, refl, first), second)

    seen : WasEntry n tail entry (SawTail tail ∷ log v)
    seen = subst (WasEntry n tail entry) (logs (SawTail tail) v u first) was_entry

    pub done : (value : ℕ) (x y : V) → entry / n + 1 ≡ tail / n → (steps (Pushed tail value) w x) × PutLast n tail value (log w) → (t : ℕ) × (tail < t) × (steps (SawTail t) x y) → Tells steps v y (IsDone n value (log v) tail)
    done value x y before won past =
        let last : PutLast n tail value (SawEntry tail entry ∷ SawTail tail ∷ log v) = subst (PutLast n tail value) (log_two (SawEntry tail entry) (SawTail tail) v u w first second) won.1 in (
          SawTail past.0 ∷ Pushed tail value ∷ tail_looks tail entry,
          record { fresh = fresh; entry = entry; before = before; last = last; tail = past.0; past = past.1; told = refl },
          (x, (w, looks, won.0), past.2),
        )

    pub lost_filled : (y : V) → entry / n ≡ tail / n → (t : ℕ) × (tail < t) × (steps (SawTail t) w y) → Tells steps v y (IsPushLost n (log v) tail entry)
    lost_filled y has past = (
      SawTail past.0 ∷ tail_looks tail entry,
      record { fresh = fresh; was = was; seen = seen; cause = inl (has, past.0, past.1, refl) },
      (w, looks, past.2),
    )

    pub lost_later : tail / n < entry / n → Tells steps v w (IsPushLost n (log v) tail entry)
    lost_later later = (tail_looks tail entry, record { fresh = fresh; was = was; seen = seen; cause = inr (inl (later, refl)) }, looks)

    pub lost_exchange : (found : ℕ) (x : V) → entry / n + 1 ≡ tail / n → found ≢ entry → (steps (SawEntry tail found) w x) × (tail / n ≤ found / n) → Tells steps v x (IsPushLost n (log v) tail entry)
    lost_exchange found x before other missed = (
      SawEntry tail found ∷ tail_looks tail entry,
      record { fresh = fresh; was = was; seen = seen; cause = inr (inr (before, found, other, missed.1, refl)) },
      (w, looks, missed.0),
    )

  -- ---- a pop: the head was seen, and then the entry
  module _ (n head entry : ℕ) (v u w : V) (was : WasHead n head (log v)) (first : steps (SawHead head) v u) (second : steps (SawEntry head entry) u w) (was_entry : WasEntry n head entry (log u)) where
    pop_looks : Chain steps (head_looks head entry) v w
    pop_looks = (u, (v, refl, first), second)

    pop_seen : WasEntry n head entry (SawHead head ∷ log v)
    pop_seen = subst (WasEntry n head entry) (logs (SawHead head) v u first) was_entry

    pub got : (x : V) → entry / n ≡ head / n → (steps (Popped head (entry % n)) w x) × TookFirst n head (entry % n) (log w) → Tells steps v x (IsGot n (log v) head (entry % n))
    got x full won =
        let taken : TookFirst n head (entry % n) (SawEntry head entry ∷ SawHead head ∷ log v) = subst (TookFirst n head (entry % n)) (log_two (SawEntry head entry) (SawHead head) v u w first second) won.1 in (
          Popped head (entry % n) ∷ head_looks head entry,
          record { entry = entry; full = full; carried = refl; first = taken; told = refl },
          (w, pop_looks, won.0),
        )

    pub pop_lost_later : head / n < entry / n → Tells steps v w (IsPopLost n (log v) head entry)
    pop_lost_later later = (head_looks head entry, record { was = was; seen = pop_seen; cause = inl (later, refl) }, pop_looks)

    pub pop_lost_exchange : (found : ℕ) (x : V) → entry / n ≡ head / n → (steps (SawHead found) w x) × (head < found) → Tells steps v x (IsPopLost n (log v) head entry)
    pop_lost_exchange found x full missed = (
      SawHead found ∷ head_looks head entry,
      record { was = was; seen = pop_seen; cause = inr (full, found, missed.1, refl) },
      (w, pop_looks, missed.0),
    )

    pub empty : entry / n + 1 ≡ head / n → WasEmpty n head (log u) → Tells steps v w (IsEmpty n (log v) head entry)
    empty before line = (
      head_looks head entry,
      record { before = before; seen = pop_seen; was = subst (WasEmpty n head) (logs (SawHead head) v u first) line; told = refl },
      pop_looks,
    )
