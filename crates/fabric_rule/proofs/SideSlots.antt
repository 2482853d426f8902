-- What a search in the segments of a side, and a run that is given back there, make of a seat.
use Rattle.std.proofs.Common.{ℕ, ◌≡◌, ◌≢◌, ◌+◌, ◌*◌, ◌/◌, ◌%◌, ◌<◌, ◌≤◌, ◌⊎◌, inl, inr, ⊎_elim, Bool, true, false, nat_lt, if◌then◌else◌, List, ◌∷◌, refl, sym, ap, ◌∙◌, subst, arith}
use Rattle.std.specs.List.{range_with_len}
use Rattle.std.specs.Prelude.{Option, None, Some}
use Rattle.std.proofs.lemmas.Bool.{cases_lt, lt-ltb, ltb-true}
use Rattle.atomic_table.specs.Table.{Me}
use Rattle.carried_slots.specs.Carried.{IsDistinct, but, content}
use Rattle.carried_slots.specs.EmptySlots.{empty_weight, full_slots, without_empty}
use Rattle.carried_slots.specs.RunSlots.{HasEmpty, HasNone, SameElsewhere}
use Rattle.carried_slots.proofs.EmptyRuns.{nothing_claimed, run_claimed, run_released}
use Rattle.carried_slots.proofs.EmptySlots.{empty_is_but, empty_known, full_stay, gone_weightless, known_empty}
use Rattle.carried_slots.proofs.Ranges.{cases_within, is_inside, one_within}
use Rattle.chunk_map.specs.Claims.{IfFull, IfRun}
use Rattle.chunk_map.specs.Gains.{Steps, given_back}
use Rattle.chunk_map.specs.Runs.{AreFree, IsLowest, run_chunks}
use Rattle.chunk_map.specs.declared.search.Claim.{Claim}
use Rattle.chunk_map.specs.declared.search.Claim.TheVariants.{Full, Run}
use Rattle.chunk_map.specs.declared.view.MapEvent.{MapEvent}
use Rattle.chunk_map.specs.declared.view.MapEvent.TheVariants.{SawOpen, SawWord, Gained, Missed, Released, OpenedTo, FoundOpen}
use Rattle.chunk_map.proofs.GainLaws.{back_weigh, steps_back, steps_keep}
use Rattle.unit_model.specs.Runs.{chunks_for}
use Rattle.unit_model.specs.Shapes.{IsValid}
use Rattle.unit_model.specs.Weights.{is_number, times, weigh}
use Rattle.unit_model.specs.declared.shape.Shape.{Shape}
use Rattle.unit_model.proofs.Weights.{is_number_other, times_in_range, times_off_range}
use Rattle.fabric_words.specs.Offsets.{map_start, offset_of}
use Rattle.fabric_words.specs.Places.{IsThere}
use Rattle.fabric_words.specs.declared.place.Place.TheVariants.{Chunks}
use Rattle.fabric_rule.specs.Claiming.{chunk_in, side_segments}
use Rattle.fabric_rule.specs.Looks.{map_word, opened_word}
use Rattle.fabric_rule.specs.SegmentMaps.{OnlyChunks, did, first_in_side, frees_one, side_chunks, side_first, side_weight, slots_after, view_after_map}
use Rattle.fabric_rule.specs.declared.event.FabricEvent.{FabricEvent}
use Rattle.fabric_rule.specs.declared.event.FabricEvent.TheVariants.{AtMap}
use Rattle.fabric_rule.specs.declared.event.Segments.{Segments}
use Rattle.fabric_rule.specs.declared.event.Segments.TheVariants.{Out, Back}
use Rattle.fabric_rule.specs.declared.view.FabricView.{FabricView}

-- a chunk's number over both sides
pub chunk_is : (shape : Shape) (segments : Segments) (chunk : ℕ) → chunk_in shape segments chunk ≡ side_first shape segments + chunk
chunk_is shape Out chunk = omega arith
chunk_is shape Back chunk = refl

-- what the events of the steps make of slots

pub gained_slots : {T : Type 0} (shape : Shape) (segments : Segments) (chunk : ℕ) (c : List (ℕ × Option T)) → chunk < side_chunks shape segments → slots_after shape segments (Gained chunk) c ≡ (chunk_in shape segments chunk, None) ∷ c
gained_slots shape segments chunk c lt =
    ap (λ (b : Bool). if b then (side_first shape segments + chunk, None) ∷ c else c) (lt-ltb chunk (side_chunks shape segments) lt)
    ∙ ap (λ (k : ℕ). (k, None) ∷ c) (sym (chunk_is shape segments chunk))

pub released_slots : {T : Type 0} (shape : Shape) (segments : Segments) (chunk : ℕ) (c : List (ℕ × Option T)) → chunk < side_chunks shape segments → content c (chunk_in shape segments chunk) ≡ Some None
    → slots_after shape segments (Released chunk) c ≡ but (chunk_in shape segments chunk) c
released_slots shape segments chunk c lt empty =
    ap (λ (b : Bool). if b then without_empty (side_first shape segments + chunk) c else c) (lt-ltb chunk (side_chunks shape segments) lt)
    ∙ ap (λ (k : ℕ). without_empty k c) (sym (chunk_is shape segments chunk))
    ∙ empty_is_but (chunk_in shape segments chunk) c empty

pub is_empty : {T : Type 0} (shape : Shape) (segments : Segments) (chunk : ℕ) (c : List (ℕ × Option T)) → IsDistinct c → 0 < side_weight shape segments (is_number chunk) c → content c (chunk_in shape segments chunk) ≡ Some None
is_empty shape segments chunk c once mine =
    let lt : chunk < side_chunks shape segments = is_inside (side_first shape segments) (side_chunks shape segments) chunk c mine in
    ap (content c) (chunk_is shape segments chunk)
    ∙ empty_known (side_first shape segments + chunk) c once (omega (arith, mine, one_within (side_first shape segments) (side_chunks shape segments) chunk c lt))

-- ---- where words of the map stand

pub open_there : (shape : Shape) (segments : Segments) → IsThere shape (opened_word segments)
open_there shape Out = tt
open_there shape Back = tt

pub map_there : (shape : Shape) (segments : Segments) (number : ℕ) → number < 10 * side_segments shape segments → IsThere shape (Chunks (map_word shape segments number))
map_there shape Out number lt = omega (arith, lt)
map_there shape Back number lt = omega (arith, lt)

pub map_stands : (shape : Shape) (segments : Segments) (number : ℕ) → map_start + 16 * (map_word shape segments 0 / 10) + 16 * (number / 10) + number % 10 ≡ offset_of shape (Chunks (map_word shape segments number))
map_stands shape Out number = omega arith
map_stands shape Back number = omega arith

pub sides_are : (shape : Shape) (segments : Segments) → IsValid shape → (1 ≤ side_segments shape segments) × (side_segments shape segments ≤ 8)
sides_are shape Out valid = valid.out_segments
sides_are shape Back valid = valid.back_segments

-- ---- a run's numbers, counted from another one on

shifted : (first run n i : ℕ) → times (first + i) (range_with_len (first + run) n) ≡ times i (range_with_len run n)
shifted first run n i =
    elim (cases_lt i run) [
      | inl lt ↦ omega (arith, times_off_range i run n (inl lt), times_off_range (first + i) (first + run) n (inl (omega (arith, lt))))
      | inr from ↦ elim (cases_lt i (run + n)) [
        | inl inside ↦ omega (arith, times_in_range i run n from inside, times_in_range (first + i) (first + run) n (omega (arith, from)) (omega (arith, inside)))
        | inr behind ↦ omega (arith, times_off_range i run n (inr behind), times_off_range (first + i) (first + run) n (inr (omega (arith, behind))))
      ]
    ]

-- ---- its view

only_more : (v u : FabricView) (chunks : List ℕ) (e : FabricEvent) → OnlyChunks v u → OnlyChunks v (record u { chunks = chunks; log = e ∷ u.log })
only_more v u chunks e is = ap (λ (w : FabricView). record w { chunks = chunks; log = e ∷ u.log }) is

event_only : (shape : Shape) (segments : Segments) (v u : FabricView) (e : MapEvent) → OnlyChunks v u → OnlyChunks v (view_after_map shape segments e u)
event_only shape segments v u (SawOpen count) is = only_more v u u.chunks (AtMap segments (SawOpen count)) is
event_only shape segments v u (SawWord number found) is = only_more v u u.chunks (AtMap segments (SawWord number found)) is
event_only shape segments v u (Gained chunk) is = only_more v u (view_after_map shape segments (Gained chunk) u).chunks (AtMap segments (Gained chunk)) is
event_only shape segments v u (Missed chunk) is = only_more v u u.chunks (AtMap segments (Missed chunk)) is
event_only shape segments v u (Released chunk) is = only_more v u (view_after_map shape segments (Released chunk) u).chunks (AtMap segments (Released chunk)) is
event_only shape segments v u (OpenedTo count) is = only_more v u u.chunks (AtMap segments (OpenedTo count)) is
event_only shape segments v u (FoundOpen count) is = only_more v u u.chunks (AtMap segments (FoundOpen count)) is

module _ (T : Type 0) (shape : Shape) (segments : Segments) where
  abbrev V : Type 0
  V = Me (Option T) FabricView

  abbrev first : ℕ
  first = side_first shape segments

  abbrev size : ℕ
  size = side_chunks shape segments

  abbrev Slots : Type 0
  Slots = List (ℕ × Option T)

  -- ---- what no event touches

  full_if : (b : Bool) (chunk : ℕ) (c : Slots) → full_slots (if b then without_empty (first + chunk) c else c) ≡ full_slots c
  full_if true chunk c = full_stay (first + chunk) c
  full_if false chunk c = refl

  full_more : (b : Bool) (chunk : ℕ) (c : Slots) → full_slots (if b then (first + chunk, None) ∷ c else c) ≡ full_slots c
  full_more true chunk c = refl
  full_more false chunk c = refl

  event_full : (e : MapEvent) (c : Slots) → full_slots (slots_after shape segments e c) ≡ full_slots c
  event_full (SawOpen count) c = refl
  event_full (SawWord number found) c = refl
  event_full (Gained chunk) c = full_more (nat_lt chunk size) chunk c
  event_full (Missed chunk) c = refl
  event_full (Released chunk) c = full_if (nat_lt chunk size) chunk c
  event_full (OpenedTo count) c = refl
  event_full (FoundOpen count) c = refl

  pub steps_full : (me me' : V) → Steps (did shape segments) me me' → full_slots me'.1 ≡ full_slots me.1
  steps_full me me' steps = steps_keep V (did shape segments) (λ (m : V). full_slots m.1 ≡ full_slots me.1) (λ e m is. event_full e m.1 ∙ is) me me' steps refl

  module _ (k : ℕ) (out : (k < first) ⊎ (first + size ≤ k)) where
    apart : (chunk : ℕ) → chunk < size → first + chunk ≢ k
    apart chunk lt is = ⊎_elim (λ low. absurd (omega (arith, low, is))) (λ high. absurd (omega (arith, high, is, lt))) out

    elsewhere_more : (b : Bool) (chunk : ℕ) (c : Slots) → nat_lt chunk size ≡ b → empty_weight (is_number k) (if b then (first + chunk, None) ∷ c else c) ≡ empty_weight (is_number k) c
    elsewhere_more true chunk c is = omega (arith, is_number_other k (first + chunk) (apart chunk (ltb-true chunk size is)))
    elsewhere_more false chunk c is = refl

    elsewhere_if : (b : Bool) (chunk : ℕ) (c : Slots) → nat_lt chunk size ≡ b → empty_weight (is_number k) (if b then without_empty (first + chunk) c else c) ≡ empty_weight (is_number k) c
    elsewhere_if true chunk c is = gone_weightless (is_number k) (first + chunk) c (is_number_other k (first + chunk) (apart chunk (ltb-true chunk size is)))
    elsewhere_if false chunk c is = refl

    event_elsewhere : (e : MapEvent) (c : Slots) → empty_weight (is_number k) (slots_after shape segments e c) ≡ empty_weight (is_number k) c
    event_elsewhere (SawOpen count) c = refl
    event_elsewhere (SawWord number found) c = refl
    event_elsewhere (Gained chunk) c = elsewhere_more (nat_lt chunk size) chunk c refl
    event_elsewhere (Missed chunk) c = refl
    event_elsewhere (Released chunk) c = elsewhere_if (nat_lt chunk size) chunk c refl
    event_elsewhere (OpenedTo count) c = refl
    event_elsewhere (FoundOpen count) c = refl

    steps_elsewhere : (me me' : V) → Steps (did shape segments) me me' → empty_weight (is_number k) me'.1 ≡ empty_weight (is_number k) me.1
    steps_elsewhere me me' steps = steps_keep V (did shape segments) (λ (m : V). empty_weight (is_number k) m.1 ≡ empty_weight (is_number k) me.1) (λ e m is. event_elsewhere e m.1 ∙ is) me me' steps refl

  pub steps_only : (me me' : V) → Steps (did shape segments) me me' → OnlyChunks me.0 me'.0
  steps_only me me' steps = steps_keep V (did shape segments) (λ (m : V). OnlyChunks me.0 m.0) (λ e m is. event_only shape segments me.0 m.0 e is) me me' steps refl

  -- ---- a run was claimed, or none

  -- what the empty slots of the side say of each slot
  each_slot : (me me' : V) → Steps (did shape segments) me me' → (run n : ℕ) → run + n ≤ size → ((f : ℕ → ℕ) → side_weight shape segments f me'.1 ≡ weigh f (range_with_len run n) + side_weight shape segments f me.1)
      → (k : ℕ) → empty_weight (is_number k) me'.1 ≡ times k (range_with_len (first + run) n) + empty_weight (is_number k) me.1
  each_slot me me' steps run n fits gained k =
      elim (cases_within first size k) [
        | inl here ↦
            let i : ℕ = here.0 in
            subst (λ (j : ℕ). empty_weight (is_number j) me'.1 ≡ times j (range_with_len (first + run) n) + empty_weight (is_number j) me.1) (sym here.2)
            (omega (arith, one_within first size i me.1 here.1, one_within first size i me'.1 here.1, gained (is_number i), shifted first run n i))
        | inr out ↦ omega (arith, steps_elsewhere k out me me' steps, times_off_range k (first + run) n (⊎_elim (λ low. inl (omega (arith, low))) (λ high. inr (omega (arith, high, fits))) out))
      ]

  pub claimed : (me me' : V) → IsDistinct me'.1 → Steps (did shape segments) me me' → (run n : ℕ) → run + n ≤ size → ((f : ℕ → ℕ) → side_weight shape segments f me'.1 ≡ weigh f (range_with_len run n) + side_weight shape segments f me.1)
      → HasNone (first + run) n me.1 × HasEmpty (first + run) n me'.1 × SameElsewhere (first + run) n me.1 me'.1
  claimed me me' once' steps run n fits gained =
      run_claimed (first + run) n me.1 me'.1 once' (steps_full me me' steps) (each_slot me me' steps run n fits gained)

  pub not_claimed : (me me' : V) → IsDistinct me'.1 → Steps (did shape segments) me me' → ((f : ℕ → ℕ) → side_weight shape segments f me'.1 ≡ side_weight shape segments f me.1) → (k : ℕ) → content me'.1 k ≡ content me.1 k
  not_claimed me me' once' steps same =
      nothing_claimed me.1 me'.1 once' (steps_full me me' steps) (λ k. omega (arith, each_slot me me' steps 0 0 (omega arith) (λ f. omega (arith, same f)) k))

  -- a claim's answer
  pub claim_within : (claim : Claim) (opened bytes : ℕ) (free may : ℕ → Bool) → opened ≤ side_segments shape segments → IfRun claim (λ run. run.segment < opened)
      → IfRun claim (λ run. (run.size ≡ bytes) × AreFree free (chunks_for bytes) run.segment run.chunk × IsLowest may (chunks_for bytes) run.segment run.chunk)
      → IfRun claim (λ run. 640 * run.segment + run.chunk + chunks_for run.size ≤ size)
  claim_within (Run run) opened bytes free may some_open lt found = omega (arith, some_open, lt, found.1.0, ap chunks_for found.0)
  claim_within (Full seen) opened bytes free may some_open lt found = tt

  pub claim_slots : (claim : Claim) (me me' : V) → IsDistinct me'.1 → Steps (did shape segments) me me' → IfRun claim (λ run. 640 * run.segment + run.chunk + chunks_for run.size ≤ size)
      → IfRun claim (λ run. (f : ℕ → ℕ) → side_weight shape segments f me'.1 ≡ weigh f (run_chunks run) + side_weight shape segments f me.1)
      → IfRun claim (λ run. HasNone (first_in_side shape segments run) (chunks_for run.size) me.1 × HasEmpty (first_in_side shape segments run) (chunks_for run.size) me'.1 × SameElsewhere (first_in_side shape segments run) (chunks_for run.size) me.1 me'.1)
  claim_slots (Run run) me me' once' steps within gained = claimed me me' once' steps (640 * run.segment + run.chunk) (chunks_for run.size) within gained
  claim_slots (Full seen) me me' once' steps within gained = tt

  pub claim_none : (claim : Claim) (me me' : V) → IsDistinct me'.1 → Steps (did shape segments) me me' → IfFull claim (λ seen. (f : ℕ → ℕ) → side_weight shape segments f me'.1 ≡ side_weight shape segments f me.1)
      → IfFull claim (λ seen. (k : ℕ) → content me'.1 k ≡ content me.1 k)
  claim_none (Run run) me me' once' steps same = tt
  claim_none (Full seen) me me' once' steps same = not_claimed me me' once' steps same

  -- ---- a run was given back

  pub held_within : (run n : ℕ) (c : Slots) → run + n ≤ size → HasEmpty (first + run) n c → (i : ℕ) → i < n → 0 < side_weight shape segments (is_number (run + i)) c
  held_within run n c fits empty i lt =
      let same : first + run + i ≡ first + (run + i) = omega arith in
      omega (arith, one_within first size (run + i) c (omega (arith, lt, fits)), ap (λ (k : ℕ). empty_weight (is_number k) c) same, known_empty (first + run + i) c (empty i lt))

  pub released : (me me' : V) → IsDistinct me.1 → (run n : ℕ) → run + n ≤ size → me' ≡ given_back (did shape segments) run n me → HasEmpty (first + run) n me.1 → HasNone (first + run) n me'.1 × SameElsewhere (first + run) n me.1 me'.1
  released me me' once run n fits is empty =
      let back : V = given_back (did shape segments) run n me in
      let weighs : (ℕ → ℕ) → V → ℕ = λ f m. side_weight shape segments f m.1 in
      let steps : Steps (did shape segments) me me' = subst (Steps (did shape segments) me) (sym is) (steps_back V (did shape segments) run n me) in
      let given : (f : ℕ → ℕ) → weigh f (range_with_len run n) + side_weight shape segments f me'.1 ≡ side_weight shape segments f me.1 = λ f.
      ap (λ (m : V). weigh f (range_with_len run n) + weighs f m) is ∙ back_weigh V (did shape segments) weighs (λ g chunk m some_there. frees_one shape segments g chunk m.1 some_there) run n me f (held_within run n me.1 fits empty) in
      run_released (first + run) n me.1 me'.1 once (steps_full me me' steps)
      (λ k. elim (cases_within first size k) [
        | inl here ↦
            let i : ℕ = here.0 in
            subst (λ (j : ℕ). times j (range_with_len (first + run) n) + empty_weight (is_number j) me'.1 ≡ empty_weight (is_number j) me.1) (sym here.2)
            (omega (arith, one_within first size i me.1 here.1, one_within first size i me'.1 here.1, given (is_number i), shifted first run n i))
        | inr out ↦ omega (arith, steps_elsewhere k out me me' steps, times_off_range k (first + run) n (⊎_elim (λ low. inl (omega (arith, low))) (λ high. inr (omega (arith, high, fits))) out))
      ])

  pub released_only : (me me' : V) (run n : ℕ) → me' ≡ given_back (did shape segments) run n me → OnlyChunks me.0 me'.0
  released_only me me' run n is = steps_only me me' (subst (Steps (did shape segments) me) (sym is) (steps_back V (did shape segments) run n me))
