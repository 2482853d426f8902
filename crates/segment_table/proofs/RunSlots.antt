-- The slots of a seat after a search, and after a run was given back.
use Rattle.std.proofs.Common.{ℕ, ◌≡◌, ◌+◌, ◌/◌, ◌<◌, ◌≤◌, inl, inr, List, [], ◌∷◌, refl, ap, ◌∙◌, arith}
use Rattle.std.specs.List.{range_with_len}
use Rattle.std.specs.Prelude.{Option}
use Rattle.atomic_table.specs.Table.{Me}
use Rattle.carried_slots.specs.Carried.{IsDistinct}
use Rattle.carried_slots.specs.EmptySlots.{empty_weight, full_slots}
use Rattle.carried_slots.specs.RunLaws.{AreApart}
use Rattle.carried_slots.specs.RunSlots.{HasEmpty, HasFull, HasNone, SameElsewhere}
use Rattle.carried_slots.proofs.EmptyRuns.{run_released}
use Rattle.carried_slots.proofs.EmptySlots.{full_stay, known_empty}
use Rattle.carried_slots.proofs.RunMoving.{run_stays}
use Rattle.unit_model.specs.Runs.{chunks_for}
use Rattle.unit_model.specs.Weights.{weigh, is_number}
use Rattle.chunk_map.specs.Gains.{Steps, given_back, with_events}
use Rattle.chunk_map.specs.declared.view.MapEvent.{MapEvent}
use Rattle.chunk_map.specs.declared.view.MapEvent.TheVariants.{SawOpen, SawWord, Gained, Missed, Released, OpenedTo, FoundOpen}
use Rattle.chunk_map.specs.declared.view.MapView.{MapView}
use Rattle.chunk_map.proofs.GainLaws.{back_weigh, steps_back}
use Rattle.segment_table.specs.Events.{did, frees_one, slots_after}

module _ {T : Type 0} where
  -- no event touches a slot with a value
  event_full : (e : MapEvent) (c : List (ℕ × Option T)) → full_slots (slots_after e c) ≡ full_slots c
  event_full (SawOpen count) c = refl
  event_full (SawWord number found) c = refl
  event_full (Gained chunk) c = refl
  event_full (Missed chunk) c = refl
  event_full (Released chunk) c = full_stay chunk c
  event_full (OpenedTo count) c = refl
  event_full (FoundOpen count) c = refl

  events_full : (es : List MapEvent) (me : Me (Option T) MapView) → full_slots (with_events did es me).1 ≡ full_slots me.1
  events_full [] me = refl
  events_full (e ∷ es) me = event_full e (with_events did es me).1 ∙ events_full es me

  pub steps_full : (me me' : Me (Option T) MapView) → Steps did me me' → full_slots me'.1 ≡ full_slots me.1
  steps_full me me' steps = ap (λ (m : Me (Option T) MapView). full_slots m.1) steps.1 ∙ events_full steps.0 me

  pub given_back_run : (first n : ℕ) (me me' : Me (Option T) MapView) → IsDistinct me.1 → me' ≡ given_back did first n me
      → HasEmpty first n me.1 → HasNone first n me'.1 × SameElsewhere first n me.1 me'.1
  given_back_run first n me me' once is empty =
      let V : Type 0 = Me (Option T) MapView in
      let steps : Steps did me (given_back did first n me) = steps_back V did first n me in
      let full : full_slots me'.1 ≡ full_slots me.1 = ap (λ (m : V). full_slots m.1) is ∙ steps_full me (given_back did first n me) steps in
      let weighs : (ℕ → ℕ) → V → ℕ = λ f m. empty_weight f m.1 in
      let given : (f : ℕ → ℕ) → weigh f (range_with_len first n) + empty_weight f me'.1 ≡ empty_weight f me.1 = λ f.
      ap (λ (m : V). weigh f (range_with_len first n) + empty_weight f m.1) is
      ∙ back_weigh V did weighs (λ h chunk m mine. frees_one h chunk m.1 mine) first n me f (λ i lt. known_empty (first + i) me.1 (empty i lt)) in
      run_released first n me.1 me'.1 once full (λ k. given (is_number k))

-- two runs have no slot in common, whichever is named first
pub apart_either : (first n other m : ℕ) → AreApart first n other m → AreApart other m first n
apart_either first n other m (inl before) = inr before
apart_either first n other m (inr behind) = inl behind

-- a run that is filled stays so where another one changes
pub stays_full : {T : Type 0} (first n other m : ℕ) (c c' : List (ℕ × Option T)) → AreApart first n other m → SameElsewhere other m c c' → HasFull first n c → HasFull first n c'
stays_full {T} first n other m c c' apart same full i lt = let there = full i lt in (there.0, run_stays T first n other m c c' apart same i lt ∙ there.1)

-- and one that is empty
pub stays_empty : {T : Type 0} (first n other m : ℕ) (c c' : List (ℕ × Option T)) → AreApart first n other m → SameElsewhere other m c c' → HasEmpty first n c → HasEmpty first n c'
stays_empty {T} first n other m c c' apart same empty i lt = run_stays T first n other m c c' apart same i lt ∙ empty i lt

-- a run of some bytes has some chunks
pub some_chunks : (size : ℕ) → 1 ≤ size → 0 < chunks_for size
some_chunks size some = let is : chunks_for size ≡ (size + 16383) / 16384 = refl in omega (arith, is, some)
