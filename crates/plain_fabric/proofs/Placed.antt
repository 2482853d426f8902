-- The words that the steps of a message change are there, and what it releases holds nothing.
use Rattle.std.proofs.Common.{Bool, ◌≡◌, ℕ, zero, suc, ◌+◌, ◌*◌, ◌==◌, ◌≤◌, ◌<◌, ◌^◌, inl, inr, List, [], ◌∷◌, ◌++◌, map, refl, arith}
use Rattle.std.specs.Prelude.{Option}
use Rattle.std.proofs.lemmas.Bool.{cases_Bool}
use Rattle.std.proofs.lemmas.Nat.{mod_below}
use Rattle.std.specs.List.{range_with_len}
use Rattle.unit_model.specs.Core.{chunk_number}
use Rattle.unit_model.specs.Holding.{first_segment, items_of}
use Rattle.unit_model.specs.Limits.{segment_chunks}
use Rattle.unit_model.specs.Runs.{chunks_for}
use Rattle.unit_model.specs.declared.machine.Step.{Step}
use Rattle.unit_model.specs.declared.machine.Step.TheVariants.{Draw, Claim, Release, Open, GetItem, SetRun, SetPart, Arm, Push, Pop, Settle, GiveItem, Abandon}
use Rattle.unit_model.specs.declared.shape.Shape.{Shape}
use Rattle.fabric_words.specs.Places.{HasItem, segments_of}
use Rattle.plain_fabric.specs.Contents.{AllVacated, HoldNothing, IsVacated}
use Rattle.plain_fabric.specs.Laws.{HasOnePair}
use Rattle.plain_fabric.specs.Schedule.{claims, first_chunk, freeing, giving, item_of_message, part_message, posting, request_message, releases, run_of_message, settling, undoing, winning}
use Rattle.plain_fabric.specs.Stepping.{AllPlaced, CanGo}
use Rattle.plain_fabric.specs.declared.message.Message.{Message}

-- ---- what is released

module _ {X : Type 0} (chunks : List (Option X)) where
  is_vacated : HoldNothing chunks → (step : Step) → IsVacated chunks step
  is_vacated none (Draw seat stream) = tt
  is_vacated none (Claim seat segment chunk) = tt
  is_vacated none (Release seat segment chunk) = none (chunk_number segment chunk)
  is_vacated none (Open seat count) = tt
  is_vacated none (GetItem seat queue item place) = tt
  is_vacated none (SetRun seat queue item run) = tt
  is_vacated none (SetPart seat queue item part) = tt
  is_vacated none (Arm seat queue item stream) = tt
  is_vacated none (Push seat queue item place) = tt
  is_vacated none (Pop seat queue item place) = tt
  is_vacated none (Settle seat queue item stream) = tt
  is_vacated none (GiveItem seat queue item place) = tt
  is_vacated none (Abandon seat stream) = tt

  pub all_vacated : HoldNothing chunks → (steps : List Step) → AllVacated chunks steps
  all_vacated none [] = tt
  all_vacated none (step ∷ steps) = (is_vacated none step, all_vacated none steps)

-- ---- what is placed

pub both_placed : (shape : Shape) (steps more : List Step) → AllPlaced shape steps → AllPlaced shape more → AllPlaced shape (steps ++ more)
both_placed shape [] more first second = second
both_placed shape (step ∷ steps) more first second = (first.0, both_placed shape steps more first.1 second)

claims_from : (shape : Shape) (seat segment : ℕ) → segment < segments_of shape → (count first : ℕ) → first + count ≤ segment_chunks → AllPlaced shape (map (Claim seat segment) (range_with_len first count))
claims_from shape seat segment there zero first short = tt
claims_from shape seat segment there (suc count) first short = (omega (arith, there, short), claims_from shape seat segment there count (first + 1) (omega (arith, short)))

releases_from : (shape : Shape) (seat segment : ℕ) → segment < segments_of shape → (count first : ℕ) → first + count ≤ segment_chunks → AllPlaced shape (map (Release seat segment) (range_with_len first count))
releases_from shape seat segment there zero first short = tt
releases_from shape seat segment there (suc count) first short = (omega (arith, there, short), releases_from shape seat segment there count (first + 1) (omega (arith, short)))

module _ (shape : Shape) (m : Message) (plain : HasOnePair shape) (can : CanGo shape m) where
  segment_there : first_segment shape m.queue < segments_of shape
  segment_there = elim (cases_Bool (m.queue == 0)) [
    | inl line ↦ let is : first_segment shape m.queue ≡ 0 = rw line refl in omega (arith, is, plain.valid.out_segments.0)
    | inr back ↦ let is : first_segment shape m.queue ≡ shape.out_segments = rw back refl in omega (arith, is, plain.valid.back_segments.0)
  ]

  some_items : 1 ≤ items_of shape m.queue
  some_items = elim (cases_Bool (m.queue == 0)) [
    | inl line ↦ let is : items_of shape m.queue ≡ shape.items = rw line refl in omega (arith, is, plain.valid.items.0)
    | inr back ↦ let is : items_of shape m.queue ≡ shape.back_items = rw back refl in omega (arith, is, plain.valid.back_items.0)
  ]

  pub run_there : first_chunk shape m + chunks_for m.size ≤ segment_chunks * segments_of shape
  run_there = omega (arith, segment_there, can.fits)

  item_there : HasItem shape m.queue (item_of_message shape m)
  item_there = record { in_queues = omega (arith, can.queue, plain.engines); in_items = mod_below m.before (items_of shape m.queue) some_items }

  place_low : shape.start + m.before < 2 ^ 63
  place_low = omega (arith, can.early)

  pub claims_placed : (seat : ℕ) → AllPlaced shape (claims seat (run_of_message shape m))
  claims_placed seat = claims_from shape seat (first_segment shape m.queue) segment_there (chunks_for m.size) 0 (omega (arith, can.fits))

  pub releases_placed : (seat : ℕ) → AllPlaced shape (releases seat (run_of_message shape m))
  releases_placed seat = releases_from shape seat (first_segment shape m.queue) segment_there (chunks_for m.size) 0 (omega (arith, can.fits))

  pub posting_placed : AllPlaced shape (posting shape m)
  posting_placed = ((item_there.in_queues, place_low), (item_there, (item_there, (item_there, ((item_there, place_low), tt)))))

  pub winning_placed : AllPlaced shape (winning shape m)
  winning_placed = ((item_there.in_queues, place_low), (item_there, tt))

  pub freeing_placed : AllPlaced shape (freeing shape m)
  freeing_placed = both_placed shape (releases m.to (run_of_message shape m)) (giving shape m ∷ []) (releases_placed m.to) ((item_there, can.early), tt)

  pub settling_placed : AllPlaced shape (settling shape m ∷ [])
  settling_placed = (item_there, tt)

  pub undoing_placed : AllPlaced shape (undoing shape m)
  undoing_placed = both_placed shape (releases m.from (run_of_message shape m)) _ (releases_placed m.from) ((item_there.in_queues, place_low), ((item_there, can.early), tt))

-- the claims release nothing, and so the steps of posting and of winning
pub claims_vacated : {X : Type 0} (chunks : List (Option X)) (seat segment : ℕ) (count first : ℕ) → AllVacated chunks (map (Claim seat segment) (range_with_len first count))
claims_vacated chunks seat segment zero first = tt
claims_vacated chunks seat segment (suc count) first = (tt, claims_vacated chunks seat segment count (first + 1))

-- ---- messages

pub request_goes : (shape : Shape) (drawn size : ℕ) → HasOnePair shape → drawn < 2 ^ 48 → size ≤ 10485760 → CanGo shape (request_message drawn size)
request_goes shape drawn size plain few short = record {
  queue = omega arith;
  early = omega (arith, plain.valid.room_behind, plain.valid.items.1, few);
  fits = omega (arith, short);
}

pub part_goes : (shape : Shape) (drawn sent number size : ℕ) (last : Bool) → HasOnePair shape → sent < 2 ^ 61 → size ≤ 262144 → CanGo shape (part_message drawn sent number last size)
part_goes shape drawn sent number size last plain few short = record {
  queue = omega arith;
  early = omega (arith, plain.valid.room_behind, plain.valid.back_items.1, few);
  fits = omega (arith, short);
}
