-- An enabled step of a sound core that words show has what the change of its word needs.
use Rattle.std.proofs.Common.{◌≡◌, ℕ, zero, suc, ◌+◌, ◌-◌, ◌*◌, ◌/◌, ◌%◌, ◌^◌, ◌==◌, ◌&&◌, ◌||◌, not, nat_lt, nat_le, ◌≤◌, ◌<◌, inl, inr, Bool, true, false, if◌then◌else◌, List, length, map, refl, sym, ap, subst, ◌∙◌, arith}
use Rattle.std.specs.Prelude.{None}
use Rattle.std.specs.List.{list_any}
use Rattle.std.proofs.Math.Nat.{add-div_right}
use Rattle.std.proofs.lemmas.Bool.{and_parts, eqb-true, leb-true, ltb-true, not-true, cases_Bool, cases_eq}
use Rattle.nncq_ring.proofs.Numbers.{turned_slot}
use Rattle.nncq_ring.specs.Words.{Words, logical_tail, places}
use Rattle.unit_model.proofs.ChangedCore.{queue_there}
use Rattle.unit_model.proofs.MetConditions.{each_met, test_of}
use Rattle.unit_model.proofs.MetSteps.{either_is_there, seat_is_low, fill_there, seat_has_it, first_free, first_in_line, item_is_low, run_fits, free_code, seat_code, chunk_has_code, chunks_have_code, in_segments}
use Rattle.unit_model.proofs.Presence.{side_is_there}
use Rattle.unit_model.proofs.StepFacts.{engine_role, empty_inside, held_of, tag_is, use_inside}
use Rattle.unit_model.proofs.StreamLaw.{settling}
use Rattle.unit_model.specs.Conditions.{conditions_of, conditions_by, has_stream, is_engine, is_worker, is_either, is_next_stream, run_has_owner, is_first_free_place, is_first_line_place, is_next_line_place, is_next_free_place, holds, is_tagged, may_arm, may_post, may_send, is_last_sent, is_closed, is_taken, parts_sent, holds_tagged, may_fill, may_settle, may_win_request, may_win_part, may_abandon, is_open, is_there, may_empty, may_open, fits_side}
use Rattle.unit_model.specs.Core.{chunk_number, first_item, first_place, item_of, number_in, owner_of, queue_of, role_of, seat_of, side_end, side_opened, side_start}
use Rattle.unit_model.specs.Holding.{items_of}
use Rattle.unit_model.specs.Limits.{past_items, place_limit, segment_chunks, stream_limit}
use Rattle.unit_model.specs.Premises.{Fills, Empties, Worker, Engine, IsInHand, OwnsRun, MayArm, Posts, Sends, MaySettle, Cancels, Takes, Receives, Closes, MayAbandon}
use Rattle.unit_model.specs.Running.{Enabled}
use Rattle.unit_model.specs.Runs.{chunks_for}
use Rattle.unit_model.specs.Soundness.{IsSound}
use Rattle.unit_model.specs.declared.machine.Core.{Core}
use Rattle.unit_model.specs.declared.machine.Entry.{Entry}
use Rattle.unit_model.specs.declared.machine.Owner.TheVariants.{Free}
use Rattle.unit_model.specs.declared.machine.Step.{Step}
use Rattle.unit_model.specs.declared.machine.Step.TheVariants.{Draw, Claim, Release, Open, GetItem, SetRun, SetPart, Arm, Push, Pop, Settle, GiveItem, Abandon}
use Rattle.unit_model.specs.declared.runs.Run.{Run}
use Rattle.fabric_words.proofs.Frames.{item_there}
use Rattle.fabric_words.specs.Needs.{IsFirst, IsVacant, Needs}
use Rattle.fabric_words.specs.Places.{HasItem, opened_place, ring_of}
use Rattle.fabric_words.specs.Shown.{Shows, ShowsList, entry_at, is_owned_by_none}
use Rattle.fabric_words.specs.declared.place.Place.{Place}
use Rattle.fabric_words.specs.declared.place.Place.TheVariants.{Tag}
use Rattle.fabric_words.specs.declared.place.Side.TheVariants.{FreeSide, LineSide}
use Rattle.plain_fabric.specs.Stepping.{TailIsOn}

-- ---- rings

-- the first of a list that is shown stands at the head
first_of_places : (n : ℕ) (entry : ℕ → ℕ) (from k : ℕ) (entries : List Entry) (next place item : ℕ) → map entry_at (places n entry from k) ≡ entries → first_item entries ≡ item → item < 2 ^ 32 → first_place entries next ≡ place
    → (1 ≤ k) × (from ≡ place) × (entry (from % n) % n ≡ item)
first_of_places n entry from zero entries next place item list is low at =
    let none : past_items ≡ first_item entries = ap first_item list in
    absurd (omega (arith, none, is, low))
first_of_places n entry from (suc k) entries next place item list is low at =
    (omega arith, ap (λ (es : List Entry). first_place es next) list ∙ at, ap first_item list ∙ is)

first_shown : (n : ℕ) (w : Words) (entries : List Entry) (next place item : ℕ) → ShowsList n w entries next → first_item entries ≡ item → item < 2 ^ 32 → first_place entries next ≡ place → IsFirst n w place item
first_shown n w entries next place item shows is low at =
    let first = first_of_places n w.entry w.head (logical_tail n w - w.head) entries next place item shows.list is low at in
    let full : w.entry (w.head % n) / n ≡ w.head / n = shows.fine.cycles w.head (omega (arith, first.0)) shows.fine.room in
    record {
      head = first.1;
      full = subst (λ (p : ℕ). w.entry (p % n) / n ≡ p / n) first.1 full;
      has = ap (λ (p : ℕ). w.entry (p % n) % n) (sym first.1) ∙ first.2;
    }

-- behind a list that is shown, the entry has the cycle before
vacant_shown : (n : ℕ) (w : Words) (entries : List Entry) (next place : ℕ) → ShowsList n w entries next → place ≡ next → place ≤ w.tail → IsVacant n w place
vacant_shown n w entries next place shows at seen =
    let behind : place ≡ logical_tail n w = at ∙ sym shows.behind in
    let turned : n ≤ place = omega (arith, behind, shows.fine.turned, shows.fine.front) in
    let before : ℕ = place - n in
    let on : before + n ≡ place = omega (arith, turned) in
    let cycle : w.entry (before % n) / n ≡ before / n = shows.fine.cycles before (omega (arith, behind, turned, shows.fine.size)) (omega (arith, behind, turned)) in
    let slot : before % n ≡ place % n = sym (turned_slot n before shows.fine.size) ∙ ap (λ (p : ℕ). p % n) on in
    let more : before / n + 1 ≡ place / n = sym (add-div_right before shows.fine.size) ∙ ap (λ (p : ℕ). p / n) on in
    record {
      seen = seen;
      before = ap (λ (s : ℕ). w.entry s / n + 1) (sym slot) ∙ ap (λ (c : ℕ). c + 1) cycle ∙ more;
    }

-- ---- seats

role_low : (core : Core) (seat : ℕ) → is_either core seat ≡ None → role_of core seat ≤ 1
unfolding is_either
role_low core seat met = leb-true _ _ (test_of (nat_le (role_of core seat) 1) _ _ _ met)

worker_role : (core : Core) (seat : ℕ) → is_worker core seat ≡ None → role_of core seat ≡ 1
unfolding is_worker
worker_role core seat met = eqb-true _ _ (test_of (role_of core seat == 1) _ _ _ met)

-- a queue that a seat empties and that isn't the line is its own
popped_own : (core : Core) (seat queue item : ℕ) → may_empty core seat queue item ≡ None → (queue == 0) ≡ false → queue ≡ 1 + seat
unfolding may_empty
popped_own core seat queue item met back =
    let both = and_parts (is_there core queue item) (queue == 0 || queue == 1 + seat) (test_of (is_there core queue item && (queue == 0 || queue == 1 + seat)) _ _ _ met) in
    eqb-true _ _ (rw back at both.1)

module _ (word : Place → ℕ) (core : Core) (sound : IsSound core) (shows : Shows word core) where
  seat_low : (seat : ℕ) → is_either core seat ≡ None → seat < 8
  seat_low seat met = seat_is_low core seat sound.held.shape (either_is_there core seat met)

  fills : (seat queue item : ℕ) → is_either core seat ≡ None → may_fill core seat queue item ≡ None → Fills core seat queue
  fills seat queue item either fill = record { role = role_low core seat either; side = (fill_there core seat queue item fill).1 }

  there : (queue item : ℕ) → item < length (queue_of core queue).items → HasItem core.shape queue item
  there queue item inside = item_there core queue item sound.held.shape inside

  tag_word : (queue item tag : ℕ) → item < length (queue_of core queue).items → (item_of core queue item).tag ≡ tag → word (Tag queue item) ≡ tag
  tag_word queue item tag inside is = (shows.items queue item (there queue item inside)).tag ∙ is

  low : (queue item : ℕ) → item < length (queue_of core queue).items → item < 2 ^ 32
  low queue item inside = item_is_low core queue item sound.held.shape (queue_there core.queues queue item inside) inside

  opened_is : (seat : ℕ) → word (opened_place core.shape seat) ≡ side_opened core seat
  opened_is seat = elim (cases_Bool (role_of core seat == 0)) [
    | inl engine ↦ rw engine shows.out
    | inr worker ↦ rw worker shows.back
  ]

  owns_run : (seat queue : ℕ) (run : Run) → seat < 8 → (role_of core seat == 0) ≡ (queue == 0) → fits_side core seat run ≡ None → run_has_owner core (1 + seat) run ≡ None → OwnsRun core seat queue run
  unfolding run_has_owner
  owns_run seat queue run small side fits owners = record {
    fits = run_fits core seat queue run side fits;
    owns = λ number within. seat_code (owner_of core number) seat (chunks_have_code core (1 + seat) (chunk_number run.segment run.chunk) (chunks_for run.size) owners number within.0 within.1) small;
  }

  arms : (seat queue item stream : ℕ) → may_arm core seat queue item stream ≡ None → MayArm core seat queue item stream (item_of core queue item).part
  unfolding may_arm may_post may_send
  arms seat queue item stream met =
      elim (cases_Bool (queue == 0)) [
        | inl line ↦
            let post : may_post core seat queue item stream ≡ None = rw line at met in
            let drawn : Bool = has_stream stream (seat_of core seat).drawn in
            let posted : Bool = has_stream stream (seat_of core seat).posted in
            let own : Bool = (item_of core queue item).part == seat in
            let all = and_parts drawn (not posted && own) (test_of (drawn && (not posted && own)) _ _ _ post) in
            let more = and_parts (not posted) own all.1 in
            Posts (record { line = eqb-true _ _ line; drawn = all.0; unposted = not-true posted more.0; own = eqb-true _ _ more.1 })
        | inr back ↦
            let send : may_send core seat queue item stream ≡ None = rw back at met in
            let taken : Bool = has_stream stream (seat_of core seat).taken in
            let posted : Bool = has_stream stream (seat_of core (queue - 1)).posted in
            let last : Bool = is_last_sent core stream in
            let closed : Bool = is_closed core stream in
            let next : Bool = number_in (item_of core queue item).part == parts_sent core stream in
            let waits : Bool = holds_tagged core seat queue stream in
            let all = and_parts (taken && posted) ((not last && not closed) && (next && not waits)) (test_of ((taken && posted) && ((not last && not closed) && (next && not waits))) _ _ _ send) in
            let asked = and_parts taken posted all.0 in
            let more = and_parts (not last && not closed) (next && not waits) all.1 in
            let unfinished = and_parts (not last) (not closed) more.0 in
            let ends = and_parts next (not waits) more.1 in
            Sends (record {
              back = λ zero. absurd (cc (back, ap (λ (q : ℕ). q == 0) zero));
              taken = asked.0;
              posted = asked.1;
              unfinished = not-true last unfinished.0;
              unclosed = not-true closed unfinished.1;
              next = eqb-true _ _ ends.0;
              alone = not-true waits ends.1;
            })
      ]

  settles : (seat queue item stream : ℕ) → is_either core seat ≡ None → may_settle core seat queue item stream ≡ None → MaySettle core seat queue item stream
  settles seat queue item stream either met =
      let may = (settling core seat queue item stream met).1 in
      let small : seat < 8 = seat_low seat either in
      let most : role_of core seat ≤ 1 = role_low core seat either in
      let hand : holds core seat queue item ≡ true → IsInHand core seat queue item = λ is. held_of seat (item_of core queue item).whereabouts (eqb-true _ _ is) (omega (arith, small)) in
      elim (cases_Bool (queue == 0)) [
        | inl line ↦
            let request : may_win_request core seat queue item stream ≡ true = rw line at may in
            elim (cases_Bool (role_of core seat == 0)) [
              | inl engine ↦ Cancels (eqb-true _ _ engine) (eqb-true _ _ line) (rw engine at request)
              | inr worker ↦
                  let role : role_of core seat ≡ 1 = elim (cases_eq (role_of core seat) 0) [
                    | inl none ↦ absurd (cc (worker, ap (λ (r : ℕ). r == 0) none))
                    | inr some ↦ omega (arith, some, most)
                  ] in
                  Takes role (eqb-true _ _ line) (hand (rw worker at request))
            ]
        | inr back ↦
            let part : may_win_part core seat queue item stream ≡ true = rw back at may in
            let both = and_parts (holds core seat queue item) _ part in
            elim (cases_Bool (role_of core seat == 0)) [
              | inl engine ↦ Receives (eqb-true _ _ engine) (eqb-true _ _ (rw engine at both.1)) (hand both.0)
              | inr worker ↦
                  let role : role_of core seat ≡ 1 = elim (cases_eq (role_of core seat) 0) [
                    | inl none ↦ absurd (cc (worker, ap (λ (r : ℕ). r == 0) none))
                    | inr some ↦ omega (arith, some, most)
                  ] in
                  Closes role (λ zero. absurd (cc (back, ap (λ (q : ℕ). q == 0) zero))) (hand both.0) (rw worker at both.1)
            ]
      ]

  abandons : (seat stream : ℕ) → may_abandon core seat stream ≡ None → MayAbandon core seat stream
  unfolding may_abandon
  abandons seat stream met =
      let posted : Bool = has_stream stream (seat_of core seat).posted in
      let taken : Bool = is_taken core stream in
      let cancelled : Bool = has_stream stream (seat_of core seat).cancelled in
      let abandoned : Bool = has_stream stream (seat_of core seat).abandoned in
      let received : Bool = list_any (λ part. part.stream == stream && part.last) (seat_of core seat).received in
      let all = and_parts (posted && taken) (not ((cancelled || abandoned) || received)) (test_of ((posted && taken) && not ((cancelled || abandoned) || received)) _ _ _ met) in
      let first = and_parts posted taken all.0 in
      let ended = neither (cancelled || abandoned) received (not-true _ all.1) in
      let either = neither cancelled abandoned ended.0 in
      record { posted = first.0; taken = first.1; uncancelled = either.0; unabandoned = either.1; unreceived = ended.1 }
    where
      neither : (a b : Bool) → (a || b) ≡ false → (a ≡ false) × (b ≡ false)
      neither false false is = (refl, refl)
      neither true b is = absurd (cc is)
      neither false true is = absurd (cc is)

  empties : (seat queue item : ℕ) → (if queue == 0 then is_worker core seat else is_engine core seat) ≡ None → may_empty core seat queue item ≡ None → Empties core seat queue
  empties seat queue item role may = elim (cases_Bool (queue == 0)) [
    | inl line ↦ Worker (worker_role core seat (rw line at role)) (eqb-true _ _ line)
    | inr back ↦ Engine (engine_role core seat (rw back at role)) (popped_own core seat queue item may back)
  ]

  -- ---- each step

  pub enabled_is_needed : (step : Step) → Enabled core step → TailIsOn word step → Needs word core step
  unfolding conditions_by is_next_stream is_open may_open is_first_free_place is_first_line_place is_next_line_place is_next_free_place is_tagged
  enabled_is_needed (Draw seat stream) met on =
      let met = each_met (conditions_of core (Draw seat stream)) met in
      let next = and_parts (stream == core.next) (nat_lt stream stream_limit) (test_of (stream == core.next && nat_lt stream stream_limit) _ _ _ (met 1)) in
      record { role = engine_role core seat (met 0); next = shows.next ∙ sym (eqb-true _ _ next.0); low = ltb-true _ _ next.1 }
  enabled_is_needed (Claim seat segment chunk) met on =
      let met = each_met (conditions_of core (Claim seat segment chunk)) met in
      let within = in_segments (side_start core seat) (side_end core seat) segment chunk (met 1) in
      let number : ℕ = chunk_number segment chunk in
      let below : number < segment_chunks * (core.shape.out_segments + core.shape.back_segments) = omega (arith, within.0, within.1.1, side_is_there core seat) in
      let opened : segment - side_start core seat < side_opened core seat = ltb-true _ _ (test_of (nat_lt (segment - side_start core seat) (side_opened core seat)) _ _ _ (met 2)) in
      let none : owner_of core number ≡ Free = free_code (owner_of core number) (chunk_has_code core 0 number (met 3)) in
      record {
        role = role_low core seat (met 0);
        in_segment = within.0;
        on_side = within.1.0;
        opened = omega (arith, opened, opened_is seat);
        was_free = shows.chunks number below ∙ ap is_owned_by_none none;
      }
  enabled_is_needed (Release seat segment chunk) met on =
      let met = each_met (conditions_of core (Release seat segment chunk)) met in
      let within = in_segments 0 (core.shape.out_segments + core.shape.back_segments) segment chunk (met 1) in
      record {
        role = role_low core seat (met 0);
        in_segment = within.0;
        own = seat_code (owner_of core (chunk_number segment chunk)) seat (chunk_has_code core (1 + seat) (chunk_number segment chunk) (met 2)) (seat_low seat (met 0));
      }
  enabled_is_needed (Open seat count) met on =
      let met = each_met (conditions_of core (Open seat count)) met in
      let some_left = nat_lt (side_opened core seat) (side_end core seat - side_start core seat) in
      let both = and_parts some_left (count == side_opened core seat) (test_of (some_left && count == side_opened core seat) _ _ _ (met 1)) in
      let is : count ≡ side_opened core seat = eqb-true _ _ both.1 in
      let more : side_opened core seat < side_end core seat - side_start core seat = ltb-true _ _ both.0 in
      record { role = role_low core seat (met 0); opened = opened_is seat ∙ sym is; more = omega (arith, is, more) }
  enabled_is_needed (GetItem seat queue item place) met on =
      let met = each_met (conditions_of core (GetItem seat queue item place)) met in
      let inside = (fill_there core seat queue item (met 1)).0 in
      let has = there queue item inside in
      let at : first_place (queue_of core queue).free (queue_of core queue).next_free ≡ place = sym (eqb-true _ _ (test_of (place == first_place (queue_of core queue).free (queue_of core queue).next_free) _ _ _ (met 2))) in
      record {
        fills = fills seat queue item (met 0) (met 1);
        there = has.in_queues;
        first = first_shown (items_of core.shape queue) (ring_of word queue FreeSide) (queue_of core queue).free (queue_of core queue).next_free place item (shows.free queue has.in_queues) (first_free core queue item (met 3)) (low queue item inside) at;
      }
  enabled_is_needed (SetRun seat queue item run) met on =
      let met = each_met (conditions_of core (SetRun seat queue item run)) met in
      let fill = fill_there core seat queue item (met 1) in
      record {
        fills = fills seat queue item (met 0) (met 1);
        hand = seat_has_it core seat queue item (seat_low seat (met 0)) (met 2);
        untagged = tag_word queue item 0 fill.0 (tag_is core queue item 0 (met 3));
        owns = owns_run seat queue run (seat_low seat (met 0)) fill.1 (met 4) (met 5);
      }
  enabled_is_needed (SetPart seat queue item part) met on =
      let met = each_met (conditions_of core (SetPart seat queue item part)) met in
      let fill = fill_there core seat queue item (met 1) in
      record {
        fills = fills seat queue item (met 0) (met 1);
        hand = seat_has_it core seat queue item (seat_low seat (met 0)) (met 2);
        untagged = tag_word queue item 0 fill.0 (tag_is core queue item 0 (met 3));
      }
  enabled_is_needed (Arm seat queue item stream) met on =
      let met = each_met (conditions_of core (Arm seat queue item stream)) met in
      let fill = fill_there core seat queue item (met 1) in
      let shown = shows.items queue item (there queue item fill.0) in
      record {
        fills = fills seat queue item (met 0) (met 1);
        hand = seat_has_it core seat queue item (seat_low seat (met 0)) (met 2);
        untagged = tag_word queue item 0 fill.0 (tag_is core queue item 0 (met 3));
        owns = subst (OwnsRun core seat queue) (sym shown.run) (owns_run seat queue (item_of core queue item).run (seat_low seat (met 0)) fill.1 (met 4) (met 5));
        may = subst (MayArm core seat queue item stream) (sym shown.part) (arms seat queue item stream (met 6));
      }
  enabled_is_needed (Push seat queue item place) met on =
      let met = each_met (conditions_of core (Push seat queue item place)) met in
      let fill = fill_there core seat queue item (met 1) in
      let has = there queue item fill.0 in
      let tag : ℕ = (item_of core queue item).tag in
      let armed : (tag == 0) ≡ false = not-true (tag == 0) (test_of (not (tag == 0)) _ _ _ (met 3)) in
      let next = and_parts (place == (queue_of core queue).next_line) (nat_lt place place_limit) (test_of (place == (queue_of core queue).next_line && nat_lt place place_limit) _ _ _ (met 4)) in
      record {
        fills = fills seat queue item (met 0) (met 1);
        hand = seat_has_it core seat queue item (seat_low seat (met 0)) (met 2);
        armed = λ none. absurd (cc (armed, ap (λ (t : ℕ). t == 0) (sym (tag_word queue item tag fill.0 refl) ∙ none)));
        low = ltb-true _ _ next.1;
        vacant = vacant_shown (items_of core.shape queue) (ring_of word queue LineSide) (queue_of core queue).line (queue_of core queue).next_line place (shows.line queue has.in_queues) (eqb-true _ _ next.0) on;
      }
  enabled_is_needed (Pop seat queue item place) met on =
      let met = each_met (conditions_of core (Pop seat queue item place)) met in
      let inside = empty_inside core seat queue item (met 1) in
      let has = there queue item inside in
      let at : first_place (queue_of core queue).line (queue_of core queue).next_line ≡ place = sym (eqb-true _ _ (test_of (place == first_place (queue_of core queue).line (queue_of core queue).next_line) _ _ _ (met 2))) in
      record {
        empties = empties seat queue item (met 0) (met 1);
        first = first_shown (items_of core.shape queue) (ring_of word queue LineSide) (queue_of core queue).line (queue_of core queue).next_line place item (shows.line queue has.in_queues) (first_in_line core queue item (met 3)) (low queue item inside) at;
      }
  enabled_is_needed (Settle seat queue item stream) met on =
      let met = each_met (conditions_of core (Settle seat queue item stream)) met in
      let inside = use_inside core queue item (met 1) in
      record {
        there = there queue item inside;
        tag = tag_word queue item stream inside (tag_is core queue item stream (met 2));
        armed = (settling core seat queue item stream (met 3)).0;
        may = settles seat queue item stream (met 0) (met 3);
      }
  enabled_is_needed (GiveItem seat queue item place) met on =
      let met = each_met (conditions_of core (GiveItem seat queue item place)) met in
      let inside = use_inside core queue item (met 1) in
      let has = there queue item inside in
      let next = and_parts (place == (queue_of core queue).next_free) (nat_lt place place_limit) (test_of (place == (queue_of core queue).next_free && nat_lt place place_limit) _ _ _ (met 4)) in
      record {
        role = role_low core seat (met 0);
        hand = seat_has_it core seat queue item (seat_low seat (met 0)) (met 2);
        untagged = tag_word queue item 0 inside (tag_is core queue item 0 (met 3));
        low = ltb-true _ _ next.1;
        vacant = vacant_shown (items_of core.shape queue) (ring_of word queue FreeSide) (queue_of core queue).free (queue_of core queue).next_free place (shows.free queue has.in_queues) (eqb-true _ _ next.0) on;
      }
  enabled_is_needed (Abandon seat stream) met on =
      let met = each_met (conditions_of core (Abandon seat stream)) met in
      record { role = engine_role core seat (met 0); may = abandons seat stream (met 1) }
