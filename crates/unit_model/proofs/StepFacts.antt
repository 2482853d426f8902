-- What the conditions of a step say, and what its effect is on seats and items.
use Rattle.std.proofs.Common.{◌≡◌, ◌≢◌, ℕ, ◌+◌, ◌<◌, ◌-◌, ◌^◌, ◌==◌, ◌&&◌, nat_lt, nat_le, Bool, true, false, if◌then◌else◌, [], ◌∷◌, ◌++◌, length, set, drop, refl, ap, arith, inl, inr}
use Rattle.std.specs.Prelude.{None}
use Rattle.std.proofs.lemmas.Bool.{and_parts, ltb-true, eqb-true, ne_eqb, cases_Bool}
use Rattle.unit_model.specs.Conditions.{unless, is_engine, is_either, is_there, may_fill, may_empty, may_use, has_tag, part_of}
use Rattle.unit_model.specs.Core.{queue_of, item_of, role_of, whereabouts_code}
use Rattle.unit_model.specs.Effects.{after_step, with_note, with_item, with_run_owner, with_in_line, with_free, without_first_free, without_first_in_line, noted, armed_note, settled_note}
use Rattle.unit_model.specs.Lists.{change_at}
use Rattle.unit_model.specs.StreamCounts.{StreamCounts}
use Rattle.unit_model.specs.declared.machine.Core.{Core}
use Rattle.unit_model.specs.declared.machine.Item.{Item}
use Rattle.unit_model.specs.declared.machine.Note.{Note}
use Rattle.unit_model.specs.declared.machine.Note.TheVariants.{Drawn, Abandoned, Sent, Received, Closed}
use Rattle.unit_model.specs.declared.machine.Step.TheVariants.{Draw, GetItem, SetRun, SetPart, Arm, Push, Pop, Settle, GiveItem, Abandon}
use Rattle.unit_model.specs.declared.machine.Whereabouts.{Whereabouts}
use Rattle.unit_model.specs.declared.machine.Whereabouts.TheVariants.{InFreeList, InLine, WithSeat}
use Rattle.unit_model.specs.declared.runs.Run.{Run}
use Rattle.unit_model.proofs.Changes.{changed_twice}
use Rattle.unit_model.proofs.ItemChanges.{SetsItem}
use Rattle.unit_model.proofs.MetConditions.{test_of}
use Rattle.unit_model.proofs.SeatNotes.{Adds}

-- ---- what a met condition says

seat_below : (engines workers seat : ℕ) → nat_le (if nat_lt seat engines then 0 else if nat_lt seat (engines + workers) then 1 else 3) 1 ≡ true → seat < engines + workers
seat_below engines workers seat met =
    elim (cases_Bool (nat_lt seat engines)) [
      | inl engine ↦ omega (arith, ltb-true seat engines engine)
      | inr other ↦ elim (cases_Bool (nat_lt seat (engines + workers))) [
        | inl worker ↦ ltb-true seat (engines + workers) worker
        | inr past ↦ absurd (cc (rw past at (rw other at met)))
      ]
    ]

-- the seat is there
pub seat_there : (core : Core) (seat : ℕ) → StreamCounts core → is_either core seat ≡ None → seat < length core.seats
unfolding is_either
seat_there core seat counts met =
    omega (arith, counts.seats, seat_below core.shape.engines core.shape.workers seat (test_of (nat_le (role_of core seat) 1) _ _ _ met))

pub engine_role : (core : Core) (seat : ℕ) → is_engine core seat ≡ None → role_of core seat ≡ 0
unfolding is_engine
engine_role core seat met = eqb-true (role_of core seat) 0 (test_of (role_of core seat == 0) _ _ _ met)

-- an engine's seat is there
pub engine_there : (core : Core) (seat : ℕ) → StreamCounts core → is_engine core seat ≡ None → seat < length core.seats
engine_there core seat counts met =
    let least : nat_le (role_of core seat) 1 ≡ true = rw (engine_role core seat met) refl in
    omega (arith, counts.seats, seat_below core.shape.engines core.shape.workers seat least)

item_inside : (core : Core) (queue item : ℕ) (more : Bool) (rule want found : ℕ) → unless (is_there core queue item && more) rule want found ≡ None → item < length (queue_of core queue).items
item_inside core queue item more rule want found met = ltb-true item (length (queue_of core queue).items) (and_parts (is_there core queue item) more (test_of (is_there core queue item && more) _ _ _ met)).0

pub fill_inside : (core : Core) (seat queue item : ℕ) → may_fill core seat queue item ≡ None → item < length (queue_of core queue).items
unfolding may_fill
fill_inside core seat queue item met = item_inside core queue item _ _ _ _ met

pub empty_inside : (core : Core) (seat queue item : ℕ) → may_empty core seat queue item ≡ None → item < length (queue_of core queue).items
unfolding may_empty
empty_inside core seat queue item met = item_inside core queue item _ _ _ _ met

pub use_inside : (core : Core) (queue item : ℕ) → may_use core queue item ≡ None → item < length (queue_of core queue).items
unfolding may_use
use_inside core queue item met = ltb-true item (length (queue_of core queue).items) (test_of (is_there core queue item) _ _ _ met)

pub tag_is : (core : Core) (queue item tag : ℕ) → has_tag core queue item tag ≡ None → (item_of core queue item).tag ≡ tag
unfolding has_tag
tag_is core queue item tag met = eqb-true (item_of core queue item).tag tag (test_of ((item_of core queue item).tag == tag) _ _ _ met)

pub held_of : (seat : ℕ) (w : Whereabouts) → whereabouts_code w ≡ 1 + seat → seat < 2 ^ 32 - 1 → w ≡ WithSeat seat
held_of seat InFreeList same small = absurd (omega (arith, same))
held_of seat InLine same small = absurd (omega (arith, same, small))
held_of seat (WithSeat k) same small = ap WithSeat (omega (arith, same))

-- ---- what a step does to an item

pub sets_after_get : (core : Core) (seat queue item place : ℕ) → item < length (queue_of core queue).items → SetsItem core (after_step core (GetItem seat queue item place)) queue item (record (item_of core queue item) { whereabouts = WithSeat seat })
unfolding after_step with_item without_first_free
sets_after_get core seat queue item place inside =
    let now : Item = record (item_of core queue item) { whereabouts = WithSeat seat } in
    record {
      inside = inside;
      change = λ q. record q { free = drop 1 q.free; items = set q.items item now };
      queues = changed_twice queue (λ q. record q { free = drop 1 q.free }) (λ q. record q { items = set q.items item now }) core.queues;
      items = λ q. refl;
    }

pub sets_after_pop : (core : Core) (seat queue item place : ℕ) → item < length (queue_of core queue).items → SetsItem core (after_step core (Pop seat queue item place)) queue item (record (item_of core queue item) { whereabouts = WithSeat seat })
unfolding after_step with_item without_first_in_line
sets_after_pop core seat queue item place inside =
    let now : Item = record (item_of core queue item) { whereabouts = WithSeat seat } in
    record {
      inside = inside;
      change = λ q. record q { line = drop 1 q.line; items = set q.items item now };
      queues = changed_twice queue (λ q. record q { line = drop 1 q.line }) (λ q. record q { items = set q.items item now }) core.queues;
      items = λ q. refl;
    }

pub sets_after_push : (core : Core) (seat queue item place : ℕ) → item < length (queue_of core queue).items → SetsItem core (after_step core (Push seat queue item place)) queue item (record (item_of core queue item) { whereabouts = InLine })
unfolding after_step with_item with_in_line
sets_after_push core seat queue item place inside =
    let now : Item = record (item_of core queue item) { whereabouts = InLine } in
    record {
      inside = inside;
      change = λ q. record q { line = q.line ++ (record { place = place; item = item }) ∷ []; next_line = place + 1; items = set q.items item now };
      queues = changed_twice queue (λ q. record q { line = q.line ++ (record { place = place; item = item }) ∷ []; next_line = place + 1 }) (λ q. record q { items = set q.items item now }) core.queues;
      items = λ q. refl;
    }

pub sets_after_give : (core : Core) (seat queue item place : ℕ) → item < length (queue_of core queue).items → SetsItem core (after_step core (GiveItem seat queue item place)) queue item (record (item_of core queue item) { whereabouts = InFreeList })
unfolding after_step with_item with_free
sets_after_give core seat queue item place inside =
    let now : Item = record (item_of core queue item) { whereabouts = InFreeList } in
    record {
      inside = inside;
      change = λ q. record q { free = q.free ++ (record { place = place; item = item }) ∷ []; next_free = place + 1; items = set q.items item now };
      queues = changed_twice queue (λ q. record q { free = q.free ++ (record { place = place; item = item }) ∷ []; next_free = place + 1 }) (λ q. record q { items = set q.items item now }) core.queues;
      items = λ q. refl;
    }

pub sets_after_run : (core : Core) (seat queue item : ℕ) (run : Run) → item < length (queue_of core queue).items → SetsItem core (after_step core (SetRun seat queue item run)) queue item (record (item_of core queue item) { run = run })
unfolding after_step with_item
sets_after_run core seat queue item run inside = record {
  inside = inside;
  change = λ q. record q { items = set q.items item (record (item_of core queue item) { run = run }) };
  queues = refl;
  items = λ q. refl;
}

pub sets_after_part : (core : Core) (seat queue item part : ℕ) → item < length (queue_of core queue).items → SetsItem core (after_step core (SetPart seat queue item part)) queue item (record (item_of core queue item) { part = part })
unfolding after_step with_item
sets_after_part core seat queue item part inside = record {
  inside = inside;
  change = λ q. record q { items = set q.items item (record (item_of core queue item) { part = part }) };
  queues = refl;
  items = λ q. refl;
}

pub sets_after_arm : (core : Core) (seat queue item stream : ℕ) → item < length (queue_of core queue).items → SetsItem core (after_step core (Arm seat queue item stream)) queue item (record (item_of core queue item) { tag = stream; stream = stream })
unfolding after_step with_item with_note with_run_owner
sets_after_arm core seat queue item stream inside = record {
  inside = inside;
  change = λ q. record q { items = set q.items item (record (item_of core queue item) { tag = stream; stream = stream }) };
  queues = refl;
  items = λ q. refl;
}

pub sets_after_settle : (core : Core) (seat queue item stream : ℕ) → item < length (queue_of core queue).items → SetsItem core (after_step core (Settle seat queue item stream)) queue item (record (item_of core queue item) { tag = 0 })
unfolding after_step with_item with_note with_run_owner
sets_after_settle core seat queue item stream inside = record {
  inside = inside;
  change = λ q. record q { items = set q.items item (record (item_of core queue item) { tag = 0 }) };
  queues = refl;
  items = λ q. refl;
}

-- ---- what a step notes

pub armed_back : (queue stream : ℕ) (item : Item) → queue ≢ 0 → armed_note queue stream item ≡ Sent (part_of stream item)
armed_back queue stream item back = rw (ne_eqb queue 0 back) refl

pub received_back : (engine : Bool) (queue stream : ℕ) (item : Item) → engine ≡ true → queue ≢ 0 → settled_note engine queue stream item ≡ Received (part_of stream item)
received_back engine queue stream item is back = rw is (rw (ne_eqb queue 0 back) refl)

pub closed_back : (engine : Bool) (queue stream : ℕ) (item : Item) → engine ≡ false → queue ≢ 0 → settled_note engine queue stream item ≡ Closed stream
closed_back engine queue stream item is back = rw is (rw (ne_eqb queue 0 back) refl)

pub adds_after_arm : (core : Core) (seat queue item stream : ℕ) (note : Note) → seat < length core.seats → armed_note queue stream (item_of core queue item) ≡ note → Adds core (after_step core (Arm seat queue item stream)) seat note
unfolding after_step with_item with_note with_run_owner
adds_after_arm core seat queue item stream note inside is = record { inside = inside; seats = ap (λ n. change_at seat (noted n) core.seats) is }

pub adds_after_settle : (core : Core) (seat queue item stream : ℕ) (note : Note) → seat < length core.seats → settled_note (role_of core seat == 0) queue stream (item_of core queue item) ≡ note → Adds core (after_step core (Settle seat queue item stream)) seat note
unfolding after_step with_item with_note with_run_owner
adds_after_settle core seat queue item stream note inside is = record { inside = inside; seats = ap (λ n. change_at seat (noted n) core.seats) is }

pub adds_after_draw : (core : Core) (seat stream : ℕ) → seat < length core.seats → Adds core (after_step core (Draw seat stream)) seat (Drawn stream)
unfolding after_step with_note
adds_after_draw core seat stream inside = record { inside = inside; seats = refl }

pub adds_after_abandon : (core : Core) (seat stream : ℕ) → seat < length core.seats → Adds core (after_step core (Abandon seat stream)) seat (Abandoned stream)
unfolding after_step with_note
adds_after_abandon core seat stream inside = record { inside = inside; seats = refl }
