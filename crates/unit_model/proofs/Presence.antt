-- What is there: what a seat holds, the sides of seats, and the shape after a step.
use Rattle.std.proofs.Common.{ℕ, ◌+◌, ◌≡◌, ◌≢◌, ◌≤◌, ◌<◌, ◌==◌, inl, inr, List, length, get_or, refl, sym, ap, ◌∙◌, arith}
use Rattle.std.proofs.lemmas.Bool.{cases_lt, cases_Bool, le-ltb, lt-ltb}
use Rattle.std.proofs.lemmas.List.{get_or_past}
use Rattle.unit_model.proofs.Changes.{changed_at, unchanged_at, changed_length}
use Rattle.unit_model.proofs.ItemChanges.{queue_there}
use Rattle.unit_model.proofs.MetSteps.{role_is_there}
use Rattle.unit_model.specs.Core.{blank, no_queue, queue_of, role_of, owner_of, side_start, side_end, side_opened}
use Rattle.unit_model.specs.Effects.{after_step, with_note, with_item, with_run_owner, with_in_line, with_free, without_first_free, without_first_in_line, with_owner, with_opened}
use Rattle.unit_model.specs.Holding.{HasItsShape, items_of}
use Rattle.unit_model.specs.Lists.{change_at}
use Rattle.unit_model.specs.Premises.{IsInHand}
use Rattle.unit_model.specs.Soundness.{IsSound}
use Rattle.unit_model.specs.declared.machine.Core.{Core}
use Rattle.unit_model.specs.declared.machine.Item.{Item}
use Rattle.unit_model.specs.declared.machine.Owner.TheVariants.{Free, Seat}
use Rattle.unit_model.specs.declared.machine.Queue.{Queue}
use Rattle.unit_model.specs.declared.machine.Step.{Step}
use Rattle.unit_model.specs.declared.machine.Step.TheVariants.{Draw, Claim, Release, Open, GetItem, SetRun, SetPart, Arm, Push, Pop, Settle, GiveItem, Abandon}

-- ---- seats, items and chunks

-- an item in a seat's hand is there
pub hand_is_there : (core : Core) (seat queue item : ℕ) → IsInHand core seat queue item → item < length (queue_of core queue).items
hand_is_there core seat queue item hand =
    elim (cases_lt item (length (queue_of core queue).items)) [
      | inl inside ↦ inside
      | inr past ↦ absurd (cc (sym hand ∙ ap (λ (i : Item). i.whereabouts) (get_or_past (queue_of core queue).items item blank past)))
    ]

-- an item that is there is of a queue that is there, and is one of those that its queue has by the shape
pub item_is_there : (core : Core) (queue item : ℕ) → HasItsShape core → item < length (queue_of core queue).items → (queue < 1 + core.shape.engines) × (item < items_of core.shape queue)
item_is_there core queue item shape inside =
    let there : queue < 1 + core.shape.engines = omega (arith, queue_there core queue item inside, shape.queues) in
    (there, omega (arith, inside, shape.items queue there))

-- a chunk that a seat has is there
pub owned_is_there : (core : Core) (number seat : ℕ) → owner_of core number ≡ Seat seat → number < length core.owners
owned_is_there core number seat is =
    elim (cases_lt number (length core.owners)) [
      | inl inside ↦ inside
      | inr past ↦ absurd (cc (sym is ∙ get_or_past core.owners number Free past))
    ]

-- engines have the first seats
pub engine_is_low : (core : Core) (seat : ℕ) → role_of core seat ≡ 0 → seat < core.shape.engines
engine_is_low core seat role =
    elim (cases_lt seat core.shape.engines) [
      | inl lt ↦ lt
      | inr past ↦
          elim (cases_lt seat (core.shape.engines + core.shape.workers)) [
            | inl worker ↦ absurd (omega (arith, role, one past worker))
            | inr none ↦ absurd (omega (arith, none, role_is_there core seat (omega (arith, role))))
          ]
    ]
  where
    one : core.shape.engines ≤ seat → seat < core.shape.engines + core.shape.workers → role_of core seat ≡ 1
    one past worker = rw (le-ltb seat core.shape.engines past, lt-ltb seat (core.shape.engines + core.shape.workers) worker) refl

-- ---- sides

-- no more segments of a side are open than it has
pub opened_most : (core : Core) (seat : ℕ) → IsSound core → side_start core seat + side_opened core seat ≤ side_end core seat
opened_most core seat sound =
    elim (cases_Bool (role_of core seat == 0)) [
      | inl engine ↦
          let start : side_start core seat ≡ 0 = rw engine refl in
          let end : side_end core seat ≡ core.shape.out_segments = rw engine refl in
          let opened : side_opened core seat ≡ core.opened.out = rw engine refl in
          omega (arith, start, end, opened, sound.held.segments.out.1)
      | inr worker ↦
          let start : side_start core seat ≡ core.shape.out_segments = rw worker refl in
          let end : side_end core seat ≡ core.shape.out_segments + core.shape.back_segments = rw worker refl in
          let opened : side_opened core seat ≡ core.opened.back = rw worker refl in
          omega (arith, start, end, opened, sound.held.segments.back.1)
    ]

-- each side is a part of all segments
pub side_is_there : (core : Core) (seat : ℕ) → side_end core seat ≤ core.shape.out_segments + core.shape.back_segments
side_is_there core seat =
    elim (cases_Bool (role_of core seat == 0)) [
      | inl engine ↦ let end : side_end core seat ≡ core.shape.out_segments = rw engine refl in omega (arith, end)
      | inr worker ↦ let end : side_end core seat ≡ core.shape.out_segments + core.shape.back_segments = rw worker refl in omega (arith, end)
    ]

-- ---- a queue that changes twice

pub twice_here : (queues : List Queue) (queue : ℕ) (first second : Queue → Queue) → queue < length queues → get_or (change_at queue second (change_at queue first queues)) queue no_queue ≡ second (first (get_or queues queue no_queue))
twice_here queues queue first second there =
    changed_at queue second (change_at queue first queues) no_queue (omega (arith, changed_length queue first queues)) ∙ ap second (changed_at queue first queues no_queue there)

pub twice_elsewhere : (queues : List Queue) (queue : ℕ) (first second : Queue → Queue) (q : ℕ) → q ≢ queue → get_or (change_at queue second (change_at queue first queues)) q no_queue ≡ get_or queues q no_queue
twice_elsewhere queues queue first second q other = unchanged_at queue second (change_at queue first queues) q no_queue other ∙ unchanged_at queue first queues q no_queue other

-- ---- no step changes the shape

pub shape_stays : (core : Core) (step : Step) → (after_step core step).shape ≡ core.shape
unfolding after_step with_note with_item with_run_owner with_in_line with_free without_first_free without_first_in_line with_owner with_opened
shape_stays core (Draw seat stream) = refl
shape_stays core (Claim seat segment chunk) = refl
shape_stays core (Release seat segment chunk) = refl
shape_stays core (Open seat count) = refl
shape_stays core (GetItem seat queue item place) = refl
shape_stays core (SetRun seat queue item run) = refl
shape_stays core (SetPart seat queue item part) = refl
shape_stays core (Arm seat queue item stream) = refl
shape_stays core (Push seat queue item place) = refl
shape_stays core (Pop seat queue item place) = refl
shape_stays core (Settle seat queue item stream) = refl
shape_stays core (GiveItem seat queue item place) = refl
shape_stays core (Abandon seat stream) = refl
