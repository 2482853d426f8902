-- All stays held right by claims, releases, arms and settles, and by the opening of a segment.
use Rattle.std.proofs.Common.{◌≡◌, ◌≢◌, ℕ, ◌+◌, ◌-◌, ◌<◌, ◌≤◌, ◌==◌, ◌&&◌, nat_lt, nat_le, not, true, false, List, length, set, refl, sym, ap, ◌∙◌, arith, inl, inr}
use Rattle.std.specs.Prelude.{None}
use Rattle.std.proofs.lemmas.Bool.{and_parts, and_from, and_cases, and_left, and_right, or_left, or_right, or_parts, or_from, not-true, eqb-true, eqb-false, ltb-true, ltb-false, lt-ltb, le-ltb, le-leb, cases_Bool}
use Rattle.unit_model.proofs.ChangedCore.{each_changed, each_set, length-set_all}
use Rattle.unit_model.proofs.Changes.{changed_length}
use Rattle.unit_model.proofs.HeldChunkSteps.{one_owner, held_owner, owner_cases, armed_owners, settled_owners, run_is_there}
use Rattle.unit_model.proofs.HeldFrames.{keeps_shape, same_items, keeps_owners, keeps_segments, keeps_streams, notes_stream, drawn_or_taken, armed_is_other, settled_is_other}
use Rattle.unit_model.proofs.HeldItems.{stays_in_place}
use Rattle.unit_model.proofs.MetConditions.{each_met, test_of}
use Rattle.unit_model.proofs.MetSteps.{either_is_there, seat_is_low, fill_there, seat_has_it, run_fits, free_code, seat_code, chunk_has_code, chunks_have_code, in_segments}
use Rattle.unit_model.proofs.StepFacts.{tag_is, use_inside}
use Rattle.unit_model.specs.Conditions.{conditions_by, conditions_of, has_stream, is_open, may_open, run_has_owner, may_arm, may_post, may_send, is_last_sent, is_closed, parts_sent, holds_tagged, may_settle}
use Rattle.unit_model.specs.Core.{no_queue, queue_of, item_of, seat_of, owner_of, role_of, side_start, side_end, side_opened, chunk_number, number_in}
use Rattle.unit_model.specs.Effects.{after_step, with_note, with_item, with_owner, with_run_owner, with_opened, noted, armed_note, settled_note, set_all}
use Rattle.unit_model.specs.Holding.{IsHeldRight, HasItsItems, HasItsOwners, HasNoStreamZero, FitsQueue, IsInRun, is_opened}
use Rattle.unit_model.specs.Lists.{change_at}
use Rattle.unit_model.specs.Running.{Enabled}
use Rattle.unit_model.specs.Runs.{chunks_for}
use Rattle.unit_model.specs.Shapes.{IsFrom1To}
use Rattle.unit_model.specs.declared.machine.Core.{Core}
use Rattle.unit_model.specs.declared.machine.Item.{Item}
use Rattle.unit_model.specs.declared.machine.Note.{Note}
use Rattle.unit_model.specs.declared.machine.Owner.{Owner}
use Rattle.unit_model.specs.declared.machine.Owner.TheVariants.{Free, Seat, Message}
use Rattle.unit_model.specs.declared.machine.Queue.{Queue}
use Rattle.unit_model.specs.declared.machine.Sides.{Sides}
use Rattle.unit_model.specs.declared.machine.Step.TheVariants.{Claim, Release, Open, Arm, Settle}

-- ---- the side of a seat

side_is_there : (core : Core) (seat : ℕ) → side_end core seat ≤ core.shape.out_segments + core.shape.back_segments
side_is_there core seat =
    elim (cases_Bool (role_of core seat == 0)) [
      | inl engine ↦ let end : side_end core seat ≡ core.shape.out_segments = rw engine refl in omega (arith, end)
      | inr worker ↦ let end : side_end core seat ≡ core.shape.out_segments + core.shape.back_segments = rw worker refl in omega (arith, end)
    ]

-- an open segment of a seat's side is one of the core's open ones
opened_here : (core : Core) (seat segment : ℕ) → side_start core seat ≤ segment → segment - side_start core seat < side_opened core seat → is_opened core segment ≡ true
opened_here core seat segment from below =
    elim (cases_Bool (role_of core seat == 0)) [
      | inl engine ↦
          let start : side_start core seat ≡ 0 = rw engine refl in
          let opened : side_opened core seat ≡ core.opened.out = rw engine refl in
          or_left (nat_lt segment core.opened.out) (nat_le core.shape.out_segments segment && nat_lt segment (core.shape.out_segments + core.opened.back)) (lt-ltb segment core.opened.out (omega (arith, start, opened, from, below)))
      | inr worker ↦
          let start : side_start core seat ≡ core.shape.out_segments = rw worker refl in
          let opened : side_opened core seat ≡ core.opened.back = rw worker refl in
          or_right (nat_lt segment core.opened.out) (nat_le core.shape.out_segments segment && nat_lt segment (core.shape.out_segments + core.opened.back))
          (and_from _ _ (le-leb core.shape.out_segments segment (omega (arith, start, from))) (lt-ltb segment (core.shape.out_segments + core.opened.back) (omega (arith, start, opened, from, below))))
    ]

-- ---- one chunk

pub held_claim : (core : Core) (seat segment chunk : ℕ) → IsHeldRight core → Enabled core (Claim seat segment chunk) → IsHeldRight (after_step core (Claim seat segment chunk))
unfolding after_step with_owner conditions_by is_open
held_claim core seat segment chunk held met =
    let conditions = conditions_of core (Claim seat segment chunk) in
    let there = either_is_there core seat (each_met conditions met 0) in
    let inside = in_segments (side_start core seat) (side_end core seat) segment chunk (each_met conditions met 1) in
    let number = chunk_number segment chunk in
    let below : segment - side_start core seat < side_opened core seat = ltb-true _ _ (test_of (nat_lt (segment - side_start core seat) (side_opened core seat)) _ _ _ (each_met conditions met 2)) in
    let opened = opened_here core seat segment inside.1.0 below in
    let free = free_code (owner_of core number) (chunk_has_code core 0 number (each_met conditions met 3)) in
    let is_there : number < length core.owners = omega (arith, held.shape.chunks, inside.0, inside.1.1, side_is_there core seat) in
    let owners = one_owner core number (Seat seat) held.owners is_there (λ q i is. absurd (cc (free, is))) (λ q i is. absurd (cc is)) (λ k is. let same : seat ≡ k = cc in omega (arith, same, there)) in
    let segments = keeps_segments core core.next (set core.owners number (Seat seat)) core.queues core.seats held.segments (λ s c low closed was.
    let other : chunk_number s c ≢ number = λ same. let here : s ≡ segment = omega (arith, same, low, inside.0) in let closed_here : is_opened core segment ≡ false = sym (ap (is_opened core) here) ∙ closed in absurd (cc (opened, closed_here)) in
    each_set (λ n owner. n ≢ number → owner_of core n ≡ Free → owner ≡ Free) core.owners number (Seat seat) Free is_there (λ ne is. absurd (ne refl)) (λ n ne also is. is) (chunk_number s c) other was) in
    held_owner core number (Seat seat) held owners segments

pub held_release : (core : Core) (seat segment chunk : ℕ) → IsHeldRight core → Enabled core (Release seat segment chunk) → IsHeldRight (after_step core (Release seat segment chunk))
unfolding after_step with_owner conditions_by
held_release core seat segment chunk held met =
    let conditions = conditions_of core (Release seat segment chunk) in
    let there = either_is_there core seat (each_met conditions met 0) in
    let inside = in_segments 0 (core.shape.out_segments + core.shape.back_segments) segment chunk (each_met conditions met 1) in
    let number = chunk_number segment chunk in
    let mine = seat_code (owner_of core number) seat (chunk_has_code core (1 + seat) number (each_met conditions met 2)) (seat_is_low core seat held.shape there) in
    let is_there : number < length core.owners = omega (arith, held.shape.chunks, inside.0, inside.1.1) in
    let owners = one_owner core number Free held.owners is_there (λ q i is. absurd (cc (mine, is))) (λ q i is. absurd (cc is)) (λ k is. absurd (cc is)) in
    let segments = keeps_segments core core.next (set core.owners number Free) core.queues core.seats held.segments (λ s c low closed was.
    each_set (λ n owner. owner_of core n ≡ Free → owner ≡ Free) core.owners number Free Free is_there (λ is. refl) (λ n other is. is) (chunk_number s c) was) in
    held_owner core number Free held owners segments

-- ---- segments

held_opened : (core : Core) (opened : Sides) → IsHeldRight core → IsFrom1To core.shape.out_segments opened.out → IsFrom1To core.shape.back_segments opened.back → core.opened.out ≤ opened.out → core.opened.back ≤ opened.back → IsHeldRight (record core { opened = opened })
held_opened core opened held out back more_out more_back = record {
  shape = keeps_shape core core.next opened core.owners core.queues core.seats held.shape refl refl (λ q. refl) refl;
  queues = held.queues;
  owners = keeps_owners core core.next opened core.queues core.seats held.owners (λ q i. (refl, λ armed. refl));
  segments = record {
    out = out;
    back = back;
    unopened = λ segment chunk low closed.
        let both = or_parts (nat_lt segment opened.out) (nat_le core.shape.out_segments segment && nat_lt segment (core.shape.out_segments + opened.back)) closed in
        let no_out : nat_lt segment core.opened.out ≡ false = le-ltb segment core.opened.out (omega (arith, more_out, ltb-false segment opened.out both.0)) in
        let no_back : (nat_le core.shape.out_segments segment && nat_lt segment (core.shape.out_segments + core.opened.back)) ≡ false =
        elim (and_cases (nat_le core.shape.out_segments segment) (nat_lt segment (core.shape.out_segments + opened.back)) both.1) [
          | inl low ↦ and_left (nat_le core.shape.out_segments segment) (nat_lt segment (core.shape.out_segments + core.opened.back)) low
          | inr high ↦ and_right (nat_le core.shape.out_segments segment) (nat_lt segment (core.shape.out_segments + core.opened.back)) (le-ltb segment (core.shape.out_segments + core.opened.back) (omega (arith, more_back, ltb-false segment (core.shape.out_segments + opened.back) high)))
        ] in
        held.segments.unopened segment chunk low (or_from _ _ no_out no_back);
  };
  streams = keeps_streams core core.next opened core.owners core.queues held.streams held.streams.next;
}

pub held_open : (core : Core) (seat count : ℕ) → IsHeldRight core → Enabled core (Open seat count) → IsHeldRight (after_step core (Open seat count))
unfolding after_step with_opened conditions_by may_open
held_open core seat count held met =
    let conditions = conditions_of core (Open seat count) in
    let left = nat_lt (side_opened core seat) (side_end core seat - side_start core seat) in
    let tests = and_parts left (count == side_opened core seat) (test_of (left && count == side_opened core seat) _ _ _ (each_met conditions met 1)) in
    let below : side_opened core seat < side_end core seat - side_start core seat = ltb-true _ _ tests.0 in
    let same : count ≡ side_opened core seat = eqb-true _ _ tests.1 in
    elim (cases_Bool (role_of core seat == 0)) [
      | inl engine ↦
          let opened : side_opened core seat ≡ core.opened.out = rw engine refl in
          let side : side_end core seat - side_start core seat ≡ core.shape.out_segments - 0 = rw engine refl in
          let all = held_opened core (record core.opened { out = count + 1 }) held (omega arith, omega (arith, below, same, opened, side)) held.segments.back (omega (arith, same, opened)) (omega arith) in
          rw engine all
      | inr worker ↦
          let opened : side_opened core seat ≡ core.opened.back = rw worker refl in
          let side : side_end core seat - side_start core seat ≡ (core.shape.out_segments + core.shape.back_segments) - core.shape.out_segments = rw worker refl in
          let all = held_opened core (record core.opened { back = count + 1 }) held held.segments.out (omega arith, omega (arith, below, same, opened, side)) (omega arith) (omega (arith, same, opened)) in
          rw worker all
    ]

-- ---- the chunks of a message

-- an item is written anew where it stays, the chunks of its run change their owner, and the seat notes it
held_message : (core : Core) (q i seat : ℕ) (new : Item) (owner : Owner) (note : Note) → IsHeldRight core → HasItsItems (core.shape.engines + core.shape.workers) (record (queue_of core q) { items = set (queue_of core q).items i new }) → FitsQueue core.shape q new.run → ((n : ℕ) → IsInRun new.run n → owner_of core n ≡ Free → ⊥) → drawn_or_taken note ≢ 0 → HasItsOwners (record core { owners = set_all core.owners (chunk_number new.run.segment new.run.chunk) (chunks_for new.run.size) owner; queues = change_at q (λ queue. record queue { items = set queue.items i new }) core.queues; seats = change_at seat (noted note) core.seats }) → IsHeldRight (record core { owners = set_all core.owners (chunk_number new.run.segment new.run.chunk) (chunks_for new.run.size) owner; queues = change_at q (λ queue. record queue { items = set queue.items i new }) core.queues; seats = change_at seat (noted note) core.seats })
held_message core q i seat new owner note held queue fits taken other owners =
    let change : Queue → Queue = λ queue. record queue { items = set queue.items i new } in
    let all = set_all core.owners (chunk_number new.run.segment new.run.chunk) (chunks_for new.run.size) owner in
    let queues = change_at q change core.queues in
    let seats = change_at seat (noted note) core.seats in
    let owner_is = owner_cases core.owners new.run owner (run_is_there core q new.run held.shape fits) in
    record {
      shape = keeps_shape core core.next core.opened all queues seats held.shape (length-set_all core.owners (chunk_number new.run.segment new.run.chunk) (chunks_for new.run.size) owner) (changed_length q change core.queues) (same_items core.queues q i change new refl) (changed_length seat (noted note) core.seats);
      queues = each_changed (λ m queue. HasItsItems (core.shape.engines + core.shape.workers) queue) q change core.queues no_queue queue held.queues;
      owners = owners;
      segments = keeps_segments core core.next all queues seats held.segments (λ segment chunk low closed free. elim (owner_is (chunk_number segment chunk)) [
        | inl here ↦ absurd (taken (chunk_number segment chunk) here.0 free)
        | inr away ↦ away.1 ∙ free
      ]);
      streams = notes_stream core core.next seat note core.opened all queues held.streams held.streams.next other;
    }

not_stream_zero : (streams : List ℕ) (stream : ℕ) → has_stream 0 streams ≡ false → has_stream stream streams ≡ true → stream ≢ 0
not_stream_zero streams stream none is zero = let there : has_stream 0 streams ≡ true = sym (ap (λ (s : ℕ). has_stream s streams) zero) ∙ is in absurd (cc (there, none))

-- what is armed is a stream
arms_a_stream : (core : Core) (seat queue item stream : ℕ) → HasNoStreamZero core → may_arm core seat queue item stream ≡ None → stream ≢ 0
unfolding may_arm may_post may_send
arms_a_stream core seat queue item stream streams met =
    elim (cases_Bool (queue == 0)) [
      | inl line ↦
          let drawn = has_stream stream (seat_of core seat).drawn in
          let rest = not (has_stream stream (seat_of core seat).posted) && (item_of core queue item).part == seat in
          not_stream_zero (seat_of core seat).drawn stream (streams.drawn seat) (and_parts drawn rest (test_of (drawn && rest) _ _ _ (rw line at met))).0
      | inr back ↦
          let taken = has_stream stream (seat_of core seat).taken in
          let posted = has_stream stream (seat_of core (queue - 1)).posted in
          let rest = (not (is_last_sent core stream) && not (is_closed core stream)) && (number_in (item_of core queue item).part == parts_sent core stream && not (holds_tagged core seat queue stream)) in
          not_stream_zero (seat_of core seat).taken stream (streams.taken seat) (and_parts taken posted (and_parts (taken && posted) rest (test_of ((taken && posted) && rest) _ _ _ (rw back at met))).0).0
    ]

pub held_arm : (core : Core) (seat queue item stream : ℕ) → IsHeldRight core → Enabled core (Arm seat queue item stream) → IsHeldRight (after_step core (Arm seat queue item stream))
unfolding after_step with_run_owner with_item with_note conditions_by run_has_owner
held_arm core seat queue item stream held met =
    let conditions = conditions_of core (Arm seat queue item stream) in
    let old = item_of core queue item in
    let new : Item = record old { tag = stream; stream = stream } in
    let there = either_is_there core seat (each_met conditions met 0) in
    let low = seat_is_low core seat held.shape there in
    let fills = fill_there core seat queue item (each_met conditions met 1) in
    let holds = seat_has_it core seat queue item low (each_met conditions met 2) in
    let none = tag_is core queue item 0 (each_met conditions met 3) in
    let fits = run_fits core seat queue old.run fills.1 (each_met conditions met 4) in
    let codes = chunks_have_code core (1 + seat) (chunk_number old.run.segment old.run.chunk) (chunks_for old.run.size) (each_met conditions met 5) in
    let mine : (n : ℕ) → IsInRun old.run n → owner_of core n ≡ Seat seat = λ n within. seat_code (owner_of core n) seat (codes n within.0 within.1) low in
    let armed = arms_a_stream core seat queue item stream held.streams (each_met conditions met 6) in
    let change : Queue → Queue = λ q. record q { items = set q.items item new } in
    let note = armed_note queue stream old in
    let items = stays_in_place (core.shape.engines + core.shape.workers) (queue_of core queue) item new (held.queues queue) fills.0 refl (λ free. absurd (cc (holds, free))) (λ tagged. refl) in
    let owners = armed_owners core queue item new change (change_at seat (noted note) core.seats) held.owners held.shape refl fills.0 none armed fits (λ n within m j is. let his = mine n within in absurd (cc (his, is))) in
    held_message core queue item seat new (Message queue item) note held items fits (λ n within free. let his = mine n within in absurd (cc (his, free))) (armed_is_other queue stream old) owners

-- what is settled is a stream
settles_a_stream : (core : Core) (seat queue item stream : ℕ) → may_settle core seat queue item stream ≡ None → stream ≢ 0
unfolding may_settle
settles_a_stream core seat queue item stream met =
    eqb-false stream 0 (not-true (stream == 0) (and_parts (not (stream == 0)) _ (test_of _ _ _ _ met)).0)

pub held_settle : (core : Core) (seat queue item stream : ℕ) → IsHeldRight core → Enabled core (Settle seat queue item stream) → IsHeldRight (after_step core (Settle seat queue item stream))
unfolding after_step with_run_owner with_item with_note conditions_by
held_settle core seat queue item stream held met =
    let conditions = conditions_of core (Settle seat queue item stream) in
    let old = item_of core queue item in
    let new : Item = record old { tag = 0 } in
    let there = either_is_there core seat (each_met conditions met 0) in
    let inside = use_inside core queue item (each_met conditions met 1) in
    let tagged = tag_is core queue item stream (each_met conditions met 2) in
    let some = settles_a_stream core seat queue item stream (each_met conditions met 3) in
    let armed : old.tag ≢ 0 = λ zero. some (sym tagged ∙ zero) in
    let change : Queue → Queue = λ q. record q { items = set q.items item new } in
    let note = settled_note (role_of core seat == 0) queue stream old in
    let items = stays_in_place (core.shape.engines + core.shape.workers) (queue_of core queue) item new (held.queues queue) inside refl (λ free. refl) (λ tagged. absurd (tagged refl)) in
    let owners = settled_owners core queue item seat new change (change_at seat (noted note) core.seats) held.owners held.shape refl inside armed refl refl there in
    held_message core queue item seat new (Seat seat) note held items (held.owners.fits queue item armed) (λ n within free. let mine = held.owners.runs n queue item armed within in absurd (cc (mine, free))) (settled_is_other (role_of core seat == 0) queue stream old some) owners
