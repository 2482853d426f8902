-- All stays held right by each step that changes no chunk's owner.
use Rattle.std.proofs.Common.{◌≡◌, ◌≢◌, ℕ, ◌+◌, ◌^◌, ◌<◌, ◌==◌, nat_lt, if◌then◌else◌, List, [], ◌∷◌, ◌++◌, drop, length, set, refl, sym, subst, arith, inl, inr}
use Rattle.std.specs.Prelude.{None}
use Rattle.std.proofs.lemmas.Bool.{and_parts, eqb-true, cases_Bool}
use Rattle.unit_model.proofs.ChangedCore.{each_changed, queue_there}
use Rattle.unit_model.proofs.Changes.{changed_twice, changed_length}
use Rattle.unit_model.proofs.HeldFrames.{keeps_shape, same_items, keeps_owners, same_messages, keeps_segments, keeps_streams, notes_stream, IsSameMessage}
use Rattle.unit_model.proofs.HeldItems.{stays_in_place, taken_from_free, taken_from_line, put_in_line, put_in_free}
use Rattle.unit_model.proofs.MetConditions.{each_met, test_of}
use Rattle.unit_model.proofs.MetSteps.{either_is_there, engine_is_there, worker_is_there, seat_is_low, fill_there, seat_has_it, first_free, first_in_line, next_is, item_is_low}
use Rattle.unit_model.proofs.StepFacts.{empty_inside, tag_is, use_inside}
use Rattle.unit_model.specs.Conditions.{conditions_by, conditions_of, is_engine, is_worker, is_next_stream, is_next_line_place, is_next_free_place}
use Rattle.unit_model.specs.Core.{no_queue, queue_of, item_of}
use Rattle.unit_model.specs.Effects.{after_step, with_note, with_item, with_in_line, with_free, without_first_free, without_first_in_line, noted}
use Rattle.unit_model.specs.Holding.{IsHeldRight, HasItsItems}
use Rattle.unit_model.specs.Lists.{change_at}
use Rattle.unit_model.specs.Running.{Enabled}
use Rattle.unit_model.specs.declared.machine.Core.{Core}
use Rattle.unit_model.specs.declared.machine.Entry.{Entry}
use Rattle.unit_model.specs.declared.machine.Item.{Item}
use Rattle.unit_model.specs.declared.machine.Note.TheVariants.{Drawn, Abandoned}
use Rattle.unit_model.specs.declared.machine.Queue.{Queue}
use Rattle.unit_model.specs.declared.machine.Step.TheVariants.{Draw, GetItem, SetRun, SetPart, Push, Pop, GiveItem, Abandon}
use Rattle.unit_model.specs.declared.machine.Whereabouts.TheVariants.{InFreeList, InLine, WithSeat}
use Rattle.unit_model.specs.declared.runs.Run.{Run}

-- ---- a seat's lists alone

pub held_draw : (core : Core) (seat stream : ℕ) → IsHeldRight core → Enabled core (Draw seat stream) → IsHeldRight (after_step core (Draw seat stream))
unfolding after_step with_note conditions_by is_next_stream
held_draw core seat stream held met =
    let is_next : is_next_stream core stream ≡ None = each_met (conditions_of core (Draw seat stream)) met 1 in
    let next : stream ≡ core.next = eqb-true _ _ (and_parts (stream == core.next) (nat_lt stream (2 ^ 62)) (test_of _ _ _ _ is_next)).0 in
    let some : stream ≢ 0 = λ none. absurd (omega (arith, next, held.streams.next, none)) in
    let seats = change_at seat (noted (Drawn stream)) core.seats in
    record {
      shape = keeps_shape core (stream + 1) core.opened core.owners core.queues seats held.shape refl refl (λ q. refl) (changed_length seat (noted (Drawn stream)) core.seats);
      queues = held.queues;
      owners = keeps_owners core (stream + 1) core.opened core.queues seats held.owners (λ q i. (refl, λ armed. refl));
      segments = keeps_segments core (stream + 1) core.owners core.queues seats held.segments (λ segment chunk inside closed free. free);
      streams = notes_stream core (stream + 1) seat (Drawn stream) core.opened core.owners core.queues held.streams (omega arith) some;
    }

pub held_abandon : (core : Core) (seat stream : ℕ) → IsHeldRight core → Enabled core (Abandon seat stream) → IsHeldRight (after_step core (Abandon seat stream))
unfolding after_step with_note
held_abandon core seat stream held met =
    let seats = change_at seat (noted (Abandoned stream)) core.seats in
    record {
      shape = keeps_shape core core.next core.opened core.owners core.queues seats held.shape refl refl (λ q. refl) (changed_length seat (noted (Abandoned stream)) core.seats);
      queues = held.queues;
      owners = keeps_owners core core.next core.opened core.queues seats held.owners (λ q i. (refl, λ armed. refl));
      segments = keeps_segments core core.next core.owners core.queues seats held.segments (λ segment chunk inside closed free. free);
      streams = notes_stream core core.next seat (Abandoned stream) core.opened core.owners core.queues held.streams held.streams.next (λ none. absurd (omega (arith, none)));
    }

-- ---- one item of one queue

-- a queue changes, and of its items one is written anew that carries the message that it carried
pub held_item : (core : Core) (q i : ℕ) (change : Queue → Queue) (new : Item) → IsHeldRight core → (change (queue_of core q)).items ≡ set (queue_of core q).items i new → i < length (queue_of core q).items → IsSameMessage (item_of core q i) new → HasItsItems (core.shape.engines + core.shape.workers) (change (queue_of core q)) → IsHeldRight (record core { queues = change_at q change core.queues })
held_item core q i change new held sets inside same queue =
    let queues = change_at q change core.queues in
    record {
      shape = keeps_shape core core.next core.opened core.owners queues core.seats held.shape refl (changed_length q change core.queues) (same_items core.queues q i change new sets) refl;
      queues = each_changed (λ m queue. HasItsItems (core.shape.engines + core.shape.workers) queue) q change core.queues no_queue queue held.queues;
      owners = keeps_owners core core.next core.opened queues core.seats held.owners (same_messages core.queues q i change new sets inside same);
      segments = keeps_segments core core.next core.owners queues core.seats held.segments (λ segment chunk closed none free. free);
      streams = keeps_streams core core.next core.opened core.owners queues held.streams held.streams.next;
    }

-- the same, where the queue changes twice
held_item_twice : (core : Core) (q i : ℕ) (first second : Queue → Queue) (new : Item) → IsHeldRight core → (second (first (queue_of core q))).items ≡ set (queue_of core q).items i new → i < length (queue_of core q).items → IsSameMessage (item_of core q i) new → HasItsItems (core.shape.engines + core.shape.workers) (second (first (queue_of core q))) → IsHeldRight (record core { queues = change_at q second (change_at q first core.queues) })
held_item_twice core q i first second new held sets inside same queue =
    subst (λ (queues : List Queue). IsHeldRight (record core { queues = queues })) (sym (changed_twice q first second core.queues))
    (held_item core q i (λ x. second (first x)) new held sets inside same queue)

pub held_get : (core : Core) (seat queue item place : ℕ) → IsHeldRight core → Enabled core (GetItem seat queue item place) → IsHeldRight (after_step core (GetItem seat queue item place))
unfolding after_step with_item without_first_free conditions_by
held_get core seat queue item place held met =
    let conditions = conditions_of core (GetItem seat queue item place) in
    let there = either_is_there core seat (each_met conditions met 0) in
    let inside = (fill_there core seat queue item (each_met conditions met 1)).0 in
    let first = first_free core queue item (each_met conditions met 3) in
    let new : Item = record (item_of core queue item) { whereabouts = WithSeat seat } in
    let low = item_is_low core queue item held.shape (queue_there core.queues queue item inside) inside in
    held_item_twice core queue item (λ q. record q { free = drop 1 q.free }) (λ q. record q { items = set q.items item new }) new held refl inside (refl, λ armed. refl)
    (taken_from_free (core.shape.engines + core.shape.workers) (queue_of core queue) item seat new (held.queues queue) inside low first there refl refl refl)

pub held_pop : (core : Core) (seat queue item place : ℕ) → IsHeldRight core → Enabled core (Pop seat queue item place) → IsHeldRight (after_step core (Pop seat queue item place))
unfolding after_step with_item without_first_in_line conditions_by
held_pop core seat queue item place held met =
    let conditions = conditions_of core (Pop seat queue item place) in
    let role : (if queue == 0 then is_worker core seat else is_engine core seat) ≡ None = each_met conditions met 0 in
    let there : seat < core.shape.engines + core.shape.workers = elim (cases_Bool (queue == 0)) [
      | inl line ↦ worker_is_there core seat (rw line at role)
      | inr back ↦ engine_is_there core seat (rw back at role)
    ] in
    let inside = empty_inside core seat queue item (each_met conditions met 1) in
    let first = first_in_line core queue item (each_met conditions met 3) in
    let new : Item = record (item_of core queue item) { whereabouts = WithSeat seat } in
    let low = item_is_low core queue item held.shape (queue_there core.queues queue item inside) inside in
    held_item_twice core queue item (λ q. record q { line = drop 1 q.line }) (λ q. record q { items = set q.items item new }) new held refl inside (refl, λ armed. refl)
    (taken_from_line (core.shape.engines + core.shape.workers) (queue_of core queue) item seat new (held.queues queue) inside low first there refl refl refl)

pub held_push : (core : Core) (seat queue item place : ℕ) → IsHeldRight core → Enabled core (Push seat queue item place) → IsHeldRight (after_step core (Push seat queue item place))
unfolding after_step with_item with_in_line conditions_by is_next_line_place
held_push core seat queue item place held met =
    let conditions = conditions_of core (Push seat queue item place) in
    let there = either_is_there core seat (each_met conditions met 0) in
    let inside = (fill_there core seat queue item (each_met conditions met 1)).0 in
    let holds = seat_has_it core seat queue item (seat_is_low core seat held.shape there) (each_met conditions met 2) in
    let at = next_is (queue_of core queue).next_line place (each_met conditions met 4) in
    let new : Item = record (item_of core queue item) { whereabouts = InLine } in
    let entry : Entry = record { place = place; item = item } in
    held_item_twice core queue item (λ q. record q { line = q.line ++ entry ∷ []; next_line = place + 1 }) (λ q. record q { items = set q.items item new }) new held refl inside (refl, λ armed. refl)
    (put_in_line (core.shape.engines + core.shape.workers) (queue_of core queue) item seat place new (held.queues queue) inside holds at refl refl refl)

pub held_give : (core : Core) (seat queue item place : ℕ) → IsHeldRight core → Enabled core (GiveItem seat queue item place) → IsHeldRight (after_step core (GiveItem seat queue item place))
unfolding after_step with_item with_free conditions_by is_next_free_place
held_give core seat queue item place held met =
    let conditions = conditions_of core (GiveItem seat queue item place) in
    let there = either_is_there core seat (each_met conditions met 0) in
    let inside = use_inside core queue item (each_met conditions met 1) in
    let holds = seat_has_it core seat queue item (seat_is_low core seat held.shape there) (each_met conditions met 2) in
    let none = tag_is core queue item 0 (each_met conditions met 3) in
    let at = next_is (queue_of core queue).next_free place (each_met conditions met 4) in
    let new : Item = record (item_of core queue item) { whereabouts = InFreeList } in
    let entry : Entry = record { place = place; item = item } in
    held_item_twice core queue item (λ q. record q { free = q.free ++ entry ∷ []; next_free = place + 1 }) (λ q. record q { items = set q.items item new }) new held refl inside (refl, λ armed. refl)
    (put_in_free (core.shape.engines + core.shape.workers) (queue_of core queue) item seat place new (held.queues queue) inside holds at refl none)

pub held_set_run : (core : Core) (seat queue item : ℕ) (run : Run) → IsHeldRight core → Enabled core (SetRun seat queue item run) → IsHeldRight (after_step core (SetRun seat queue item run))
unfolding after_step with_item conditions_by
held_set_run core seat queue item run held met =
    let conditions = conditions_of core (SetRun seat queue item run) in
    let inside = (fill_there core seat queue item (each_met conditions met 1)).0 in
    let none = tag_is core queue item 0 (each_met conditions met 3) in
    let new : Item = record (item_of core queue item) { run = run } in
    held_item core queue item (λ q. record q { items = set q.items item new }) new held refl inside (refl, λ armed. absurd (armed none))
    (stays_in_place (core.shape.engines + core.shape.workers) (queue_of core queue) item new (held.queues queue) inside refl (λ free. none) (λ armed. absurd (armed none)))

pub held_set_part : (core : Core) (seat queue item part : ℕ) → IsHeldRight core → Enabled core (SetPart seat queue item part) → IsHeldRight (after_step core (SetPart seat queue item part))
unfolding after_step with_item conditions_by
held_set_part core seat queue item part held met =
    let conditions = conditions_of core (SetPart seat queue item part) in
    let inside = (fill_there core seat queue item (each_met conditions met 1)).0 in
    let none = tag_is core queue item 0 (each_met conditions met 3) in
    let new : Item = record (item_of core queue item) { part = part } in
    held_item core queue item (λ q. record q { items = set q.items item new }) new held refl inside (refl, λ armed. refl)
    (stays_in_place (core.shape.engines + core.shape.workers) (queue_of core queue) item new (held.queues queue) inside refl (λ free. none) (λ armed. absurd (armed none)))
