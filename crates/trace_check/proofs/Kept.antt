-- Each step leads from what it may lead from to a core that steps have led to, and the records still agree.
use Rattle.std.proofs.Common.{◌≡◌, ◌≢◌, ◌∙◌, ⊎_elim, ℕ, suc, ◌+◌, ◌-◌, ◌^◌, ◌<◌, ◌≤◌, ◌==◌, ◌&&◌, ◌||◌, not, nat_lt, Bool, true, false, if◌then◌else◌, List, [], ◌∷◌, ◌++◌, drop, length, get_or, set, refl, sym, ap, subst, arith}
use Rattle.std.specs.Prelude.{Option, Some, None, is_some, option_map, count_by}
use Rattle.std.specs.List.{list_any}
use Rattle.std.proofs.lemmas.Bool.Decides.{nat_tests}
use Rattle.std.proofs.lemmas.Bool.{and_parts, cases_eq, eq-eqb, ne_eqb, eqb-true, ltb-true, leb-true}
use Rattle.trace_check.specs.Shows.{Agrees, IsReached, lists_at, times_in}
use Rattle.trace_check.specs.Streams.{abandoned_stream, drawn_stream, known, drawn_by, frame_after, posted_by, sent_of, stream_after}
use Rattle.trace_check.specs.declared.streams.Stream.{Stream}
use Rattle.unit_model.proofs.MetConditions.{each_met, test_of}
use Rattle.trace_check.proofs.Reached.{Meets, SameDrawn, SameKnown, StillSent, below_same, queue_there, reached_elsewhere, reached_item}
use Rattle.trace_check.proofs.NotedSeats.{agrees_abandoned, agrees_cancelled, agrees_closed, agrees_drawn, agrees_posted, agrees_received, agrees_sent, agrees_taken, changed, proj_same, touched}
use Rattle.trace_check.proofs.SameConditions.{frame_of, posted_drawn}
use Rattle.trace_check.proofs.SeatNotes.{any_snoc, count_snoc, weigh_changed}
use Rattle.unit_model.proofs.Changes.{changed_at, changed_length, unchanged_at, weigh_unchanged}
use Rattle.unit_model.specs.Conditions.{conditions_by, conditions_of, first_unmet, has_stream, has_tag, is_either, is_engine, is_first_free_item, is_first_line_item, is_same_part, is_next_stream, is_there, is_worker, may_abandon, may_arm, may_empty, may_fill, may_post, may_send, may_settle, may_use, may_win_part, may_win_request, part_of, seat_holds, unless}
use Rattle.unit_model.specs.Core.{first_item, item_of, is_last_in, no_queue, no_seat, number_in, queue_of, role_of, whereabouts_code}
use Rattle.unit_model.specs.Effects.{after_step, noted, with_free, with_in_line, with_item, with_note, with_opened, with_owner, with_run_owner, without_first_free, without_first_in_line}
use Rattle.unit_model.specs.Lists.{change_at}
use Rattle.unit_model.specs.Weights.{weigh, below, one_if}
use Rattle.unit_model.specs.declared.machine.Core.{Core}
use Rattle.unit_model.specs.declared.machine.Entry.{Entry}
use Rattle.unit_model.specs.declared.machine.Item.{Item}
use Rattle.unit_model.specs.declared.machine.Owner.{Owner}
use Rattle.unit_model.specs.declared.machine.Note.TheVariants.{Drawn, Posted, Cancelled, Abandoned, Received, Taken, Sent, Closed}
use Rattle.unit_model.specs.declared.machine.Part.{Part}
use Rattle.unit_model.specs.declared.machine.Queue.{Queue}
use Rattle.unit_model.specs.declared.machine.Seat.{Seat as SeatLists}
use Rattle.unit_model.specs.declared.machine.Step.{Step}
use Rattle.unit_model.specs.declared.machine.Step.TheVariants.{Draw, Claim, Release, Open, GetItem, SetRun, SetPart, Arm, Push, Pop, Settle, GiveItem, Abandon}
use Rattle.unit_model.specs.declared.machine.Whereabouts.TheVariants.{InFreeList, InLine, WithSeat}
use Rattle.unit_model.specs.declared.runs.Run.{Run}

-- ---- what the conditions say

there_of : (test other : Bool) → unless (test && other) 5 1 0 ≡ None → test ≡ true
there_of test other met = (and_parts test other (test_of (test && other) 5 1 0 met)).0

role_seat : (seat e w : ℕ) → (if nat_lt seat e then 0 else if nat_lt seat (e + w) then 1 else 3) ≤ 1 → seat < e + w
role_seat seat e w le = grind (arith, nat_tests)

seat_there : (core : Core) (at : ℕ → Option Stream) (seat : ℕ) → IsReached core at → role_of core seat ≤ 1 → seat < length core.seats
seat_there core at seat r le = omega (arith, role_seat seat core.shape.engines core.shape.workers le, r.seats)

seat_small : (core : Core) (at : ℕ → Option Stream) (seat : ℕ) → IsReached core at → role_of core seat ≤ 1 → seat < 8
seat_small core at seat r le = omega (arith, role_seat seat core.shape.engines core.shape.workers le, r.few)

fill_there : (core : Core) (seat queue item : ℕ) → may_fill core seat queue item ≡ None → is_there core queue item ≡ true
unfolding may_fill
fill_there core seat queue item met = there_of (is_there core queue item) _ met

empty_there : (core : Core) (seat queue item : ℕ) → may_empty core seat queue item ≡ None → is_there core queue item ≡ true
unfolding may_empty
empty_there core seat queue item met = there_of (is_there core queue item) _ met

use_there : (core : Core) (queue item : ℕ) → may_use core queue item ≡ None → is_there core queue item ≡ true
unfolding may_use
use_there core queue item met = test_of (is_there core queue item) 5 1 0 met

held_code : (core : Core) (seat queue item : ℕ) → seat_holds core seat queue item ≡ None → whereabouts_code (item_of core queue item).whereabouts ≡ 1 + seat
unfolding seat_holds
held_code core seat queue item met = eqb-true _ _ (test_of _ _ _ _ met)

tag_is : (core : Core) (queue item tag : ℕ) → has_tag core queue item tag ≡ None → (item_of core queue item).tag ≡ tag
unfolding has_tag
tag_is core queue item tag met = eqb-true _ _ (test_of _ _ _ _ met)

either_small : (core : Core) (seat : ℕ) → is_either core seat ≡ None → role_of core seat ≤ 1
unfolding is_either
either_small core seat met = leb-true (role_of core seat) 1 (test_of _ _ _ _ met)

engine_role : (core : Core) (seat : ℕ) → is_engine core seat ≡ None → role_of core seat ≡ 0
unfolding is_engine
engine_role core seat met = eqb-true _ _ (test_of _ _ _ _ met)

worker_role : (core : Core) (seat : ℕ) → is_worker core seat ≡ None → role_of core seat ≡ 1
unfolding is_worker
worker_role core seat met = eqb-true _ _ (test_of _ _ _ _ met)

first_free : (core : Core) (queue item : ℕ) → is_first_free_item core queue item ≡ None → item ≡ first_item (queue_of core queue).free
unfolding is_first_free_item
first_free core queue item met = eqb-true _ _ (test_of _ _ _ _ met)

first_in_line : (core : Core) (queue item : ℕ) → is_first_line_item core queue item ≡ None → item ≡ first_item (queue_of core queue).line
unfolding is_first_line_item
first_in_line core queue item met = eqb-true _ _ (test_of _ _ _ _ met)

there_less : (core : Core) (queue item : ℕ) → is_there core queue item ≡ true → item < length (queue_of core queue).items
there_less core queue item there = ltb-true item (length (queue_of core queue).items) there

-- ---- lists of entries

-- the first entry is the item's: it stands once more in the list than behind its head
taken_first : (entries : List Entry) (item : ℕ) → item ≡ first_item entries → item ≤ 16384 → times_in item entries ≡ 1 + times_in item (drop 1 entries)
taken_first [] item e small = absurd (omega arith)
taken_first (entry ∷ entries) item e small = rw (eq-eqb entry.item item (sym e)) refl

fewer_behind : (entries : List Entry) (item : ℕ) → times_in item (drop 1 entries) ≤ times_in item entries
fewer_behind [] item = omega arith
fewer_behind (entry ∷ entries) item = omega arith

times_snoc : (entries : List Entry) (entry : Entry) (item : ℕ) → times_in item (entries ++ entry ∷ []) ≡ times_in item entries + one_if (entry.item == item)
times_snoc [] entry item = omega arith
times_snoc (e ∷ es) entry item = omega (arith, times_snoc es entry item)

one_here : (item : ℕ) → one_if (item == item) ≡ 1
one_here item = rw (eq-eqb item item refl) refl

none_there : (a b : ℕ) → a ≢ b → one_if (a == b) ≡ 0
none_there a b ne = rw (ne_eqb a b ne) refl

at_most_one : (b : Bool) → one_if b ≤ 1
at_most_one true = omega arith
at_most_one false = omega arith

code_of_times : (code want n : ℕ) → 1 ≤ n → n ≤ one_if (code == want) → code ≡ want
code_of_times code want n some le =
    ⊎_elim (λ (e : code ≡ want). e) (λ (ne : code ≢ want). absurd (omega (arith, none_there code want ne))) (cases_eq code want)

-- ---- queues changed once or twice

two_here : (queues : List Queue) (queue : ℕ) (f g : Queue → Queue) → queue < length queues
    → get_or (change_at queue f (change_at queue g queues)) queue no_queue ≡ f (g (get_or queues queue no_queue))
two_here queues queue f g lt =
    changed_at queue f (change_at queue g queues) no_queue (omega (arith, changed_length queue g queues)) ∙ ap f (changed_at queue g queues no_queue lt)

two_apart : (queues : List Queue) (queue : ℕ) (f g : Queue → Queue) (q : ℕ) → q ≢ queue
    → get_or (change_at queue f (change_at queue g queues)) q no_queue ≡ get_or queues q no_queue
two_apart queues queue f g q ne = unchanged_at queue f (change_at queue g queues) q no_queue ne ∙ unchanged_at queue g queues q no_queue ne

abbrev pub Kept : Core → (ℕ → Option Stream) → Step → Type 0
Kept core at step = Agrees (after_step core step).seats (stream_after (frame_of core) at step) × IsReached (after_step core step) (stream_after (frame_of core) at step)

-- ---- steps of items

kept_get_item : (core : Core) (at : ℕ → Option Stream) (seat queue item place : ℕ) → Agrees core.seats at → IsReached core at
    → first_unmet core (GetItem seat queue item place) ≡ None → Kept core at (GetItem seat queue item place)
unfolding conditions_by after_step with_item without_first_free stream_after
kept_get_item core at seat queue item place a r unmet =
    let met = each_met (conditions_of core (GetItem seat queue item place)) unmet in
    let there = fill_there core seat queue item (met 1) in
    let lt = queue_there core queue item there in
    let less = there_less core queue item there in
    let small : item ≤ 16384 = omega (arith, less, r.small queue) in
    let Q = queue_of core queue in
    let old = item_of core queue item in
    let new : Item = record old { whereabouts = WithSeat seat } in
    let first = taken_first Q.free item (first_free core queue item (met 3)) small in
    let code0 : whereabouts_code old.whereabouts ≡ 0 = code_of_times (whereabouts_code old.whereabouts) 0 (times_in item Q.free) (omega (arith, first)) (r.free queue item) in
    let tag0 : old.tag ≡ 0 = r.untagged queue item code0 in
    let changed : Queue = record Q { free = drop 1 Q.free; items = set Q.items item new } in
    let meets : Meets core at core.seats queue item new Q changed = record {
      tagged = λ ne. absurd (ne tag0);
      free = omega (arith, first, r.free queue item, at_most_one (whereabouts_code old.whereabouts == 0));
      others_free = λ i ne. fewer_behind Q.free i;
      in_line = omega (arith, r.in_line queue item, none_there (whereabouts_code old.whereabouts) (2 ^ 32) (omega (arith, code0)));
      others_in_line = λ i ne. omega arith;
      untagged = λ (e : 1 + seat ≡ 0). absurd (omega (arith, e));
      held = λ k back at_k worker ne. absurd (ne tag0);
    } in (
      a,
      reached_item core at at core.owners core.seats _ queue item new changed r refl (λ k p e. e) (λ p. refl) (λ s. refl) less
          (two_here core.queues queue (λ q. record q { items = set q.items item new }) (λ q. record q { free = drop 1 q.free }) lt) refl
          (λ q ne. two_apart core.queues queue (λ q. record q { items = set q.items item new }) (λ q. record q { free = drop 1 q.free }) q ne) meets,
    )

pop_role : (core : Core) (seat queue : ℕ) → queue ≢ 0 → (if queue == 0 then is_worker core seat else is_engine core seat) ≡ None → role_of core seat ≡ 0
pop_role core seat queue ne met = engine_role core seat (rw (ne_eqb queue 0 ne) at met)

kept_pop : (core : Core) (at : ℕ → Option Stream) (seat queue item place : ℕ) → Agrees core.seats at → IsReached core at
    → first_unmet core (Pop seat queue item place) ≡ None → Kept core at (Pop seat queue item place)
unfolding conditions_by after_step with_item without_first_in_line stream_after
kept_pop core at seat queue item place a r unmet =
    let met = each_met (conditions_of core (Pop seat queue item place)) unmet in
    let there = empty_there core seat queue item (met 1) in
    let lt = queue_there core queue item there in
    let less = there_less core queue item there in
    let small : item ≤ 16384 = omega (arith, less, r.small queue) in
    let Q = queue_of core queue in
    let old = item_of core queue item in
    let new : Item = record old { whereabouts = WithSeat seat } in
    let first = taken_first Q.line item (first_in_line core queue item (met 3)) small in
    let code1 : whereabouts_code old.whereabouts ≡ 2 ^ 32 = code_of_times (whereabouts_code old.whereabouts) (2 ^ 32) (times_in item Q.line) (omega (arith, first)) (r.in_line queue item) in
    let changed : Queue = record Q { line = drop 1 Q.line; items = set Q.items item new } in
    let meets : Meets core at core.seats queue item new Q changed = record {
      tagged = r.tagged queue item;
      free = omega (arith, r.free queue item, none_there (whereabouts_code old.whereabouts) 0 (omega (arith, code1)));
      others_free = λ i ne. omega arith;
      in_line = omega (arith, first, r.in_line queue item, at_most_one (whereabouts_code old.whereabouts == 2 ^ 32));
      others_in_line = λ i ne. fewer_behind Q.line i;
      untagged = λ (e : 1 + seat ≡ 0). absurd (omega (arith, e));
      held = λ k back (at_k : 1 + seat ≡ 1 + k) worker ne.
          let role : role_of core seat ≡ 0 = pop_role core seat queue back (met 0) in
          let same : seat ≡ k = omega (arith, at_k) in
          absurd (omega (arith, sym role ∙ ap (role_of core) same ∙ worker));
    } in (
      a,
      reached_item core at at core.owners core.seats _ queue item new changed r refl (λ k p e. e) (λ p. refl) (λ s. refl) less
          (two_here core.queues queue (λ q. record q { items = set q.items item new }) (λ q. record q { line = drop 1 q.line }) lt) refl
          (λ q ne. two_apart core.queues queue (λ q. record q { items = set q.items item new }) (λ q. record q { line = drop 1 q.line }) q ne) meets,
    )

kept_set_run : (core : Core) (at : ℕ → Option Stream) (seat queue item : ℕ) (run : Run) → Agrees core.seats at → IsReached core at
    → first_unmet core (SetRun seat queue item run) ≡ None → Kept core at (SetRun seat queue item run)
unfolding conditions_by after_step with_item stream_after
kept_set_run core at seat queue item run a r unmet =
    let met = each_met (conditions_of core (SetRun seat queue item run)) unmet in
    let there = fill_there core seat queue item (met 1) in
    let lt = queue_there core queue item there in
    let Q = queue_of core queue in
    let old = item_of core queue item in
    let new : Item = record old { run = run } in
    let changed : Queue = record Q { items = set Q.items item new } in
    let meets : Meets core at core.seats queue item new Q changed = record {
      tagged = r.tagged queue item;
      free = r.free queue item;
      others_free = λ i ne. omega arith;
      in_line = r.in_line queue item;
      others_in_line = λ i ne. omega arith;
      untagged = r.untagged queue item;
      held = λ k back at_k worker ne. r.held queue item k back at_k worker ne;
    } in (
      a,
      reached_item core at at core.owners core.seats _ queue item new changed r refl (λ k p e. e) (λ p. refl) (λ s. refl) (there_less core queue item there)
          (changed_at queue (λ q. record q { items = set q.items item new }) core.queues no_queue lt) refl
          (λ q ne. unchanged_at queue (λ k. record k { items = set k.items item new }) core.queues q no_queue ne) meets,
    )

kept_set_part : (core : Core) (at : ℕ → Option Stream) (seat queue item part : ℕ) → Agrees core.seats at → IsReached core at
    → first_unmet core (SetPart seat queue item part) ≡ None → Kept core at (SetPart seat queue item part)
unfolding conditions_by after_step with_item stream_after
kept_set_part core at seat queue item part a r unmet =
    let met = each_met (conditions_of core (SetPart seat queue item part)) unmet in
    let there = fill_there core seat queue item (met 1) in
    let lt = queue_there core queue item there in
    let Q = queue_of core queue in
    let old = item_of core queue item in
    let new : Item = record old { part = part } in
    let tag0 : old.tag ≡ 0 = tag_is core queue item 0 (met 3) in
    let changed : Queue = record Q { items = set Q.items item new } in
    let meets : Meets core at core.seats queue item new Q changed = record {
      tagged = r.tagged queue item;
      free = r.free queue item;
      others_free = λ i ne. omega arith;
      in_line = r.in_line queue item;
      others_in_line = λ i ne. omega arith;
      untagged = r.untagged queue item;
      held = λ k back at_k worker ne. absurd (ne tag0);
    } in (
      a,
      reached_item core at at core.owners core.seats _ queue item new changed r refl (λ k p e. e) (λ p. refl) (λ s. refl) (there_less core queue item there)
          (changed_at queue (λ q. record q { items = set q.items item new }) core.queues no_queue lt) refl
          (λ q ne. unchanged_at queue (λ k. record k { items = set k.items item new }) core.queues q no_queue ne) meets,
    )

kept_push : (core : Core) (at : ℕ → Option Stream) (seat queue item place : ℕ) → Agrees core.seats at → IsReached core at
    → first_unmet core (Push seat queue item place) ≡ None → Kept core at (Push seat queue item place)
unfolding conditions_by after_step with_item with_in_line stream_after
kept_push core at seat queue item place a r unmet =
    let met = each_met (conditions_of core (Push seat queue item place)) unmet in
    let there = fill_there core seat queue item (met 1) in
    let lt = queue_there core queue item there in
    let Q = queue_of core queue in
    let old = item_of core queue item in
    let new : Item = record old { whereabouts = InLine } in
    let entry : Entry = record { place = place; item = item } in
    let code : whereabouts_code old.whereabouts ≡ 1 + seat = held_code core seat queue item (met 2) in
    let few : seat < 8 = seat_small core at seat r (either_small core seat (met 0)) in
    let f : Queue → Queue = λ q. record q { items = set q.items item new } in
    let g : Queue → Queue = λ q. record q { line = q.line ++ entry ∷ []; next_line = place + 1 } in
    let meets : Meets core at core.seats queue item new Q (f (g Q)) = record {
      tagged = r.tagged queue item;
      free = omega (arith, r.free queue item, none_there (whereabouts_code old.whereabouts) 0 (omega (arith, code)));
      others_free = λ i ne. omega arith;
      in_line = omega (arith, times_snoc Q.line entry item, one_here item, r.in_line queue item, none_there (whereabouts_code old.whereabouts) (2 ^ 32) (omega (arith, code, few)), one_here (2 ^ 32));
      others_in_line = λ i ne. omega (arith, times_snoc Q.line entry i, none_there item i (λ (e : item ≡ i). ne (sym e)));
      untagged = λ (e : 2 ^ 32 ≡ 0). absurd (omega (arith, e));
      held = λ k back (at_k : 2 ^ 32 ≡ 1 + k) worker ne.
          let k_small : k < 8 = seat_small core at k r (omega (arith, worker)) in
          absurd (omega (arith, at_k, k_small));
    } in (
      a,
      reached_item core at at core.owners core.seats _ queue item new (f (g Q)) r refl (λ k p e. e) (λ p. refl) (λ s. refl) (there_less core queue item there)
          (two_here core.queues queue f g lt) refl (λ q ne. two_apart core.queues queue f g q ne) meets,
    )

kept_give_item : (core : Core) (at : ℕ → Option Stream) (seat queue item place : ℕ) → Agrees core.seats at → IsReached core at
    → first_unmet core (GiveItem seat queue item place) ≡ None → Kept core at (GiveItem seat queue item place)
unfolding conditions_by after_step with_item with_free stream_after
kept_give_item core at seat queue item place a r unmet =
    let met = each_met (conditions_of core (GiveItem seat queue item place)) unmet in
    let there = use_there core queue item (met 1) in
    let lt = queue_there core queue item there in
    let Q = queue_of core queue in
    let old = item_of core queue item in
    let new : Item = record old { whereabouts = InFreeList } in
    let entry : Entry = record { place = place; item = item } in
    let code : whereabouts_code old.whereabouts ≡ 1 + seat = held_code core seat queue item (met 2) in
    let tag0 : old.tag ≡ 0 = tag_is core queue item 0 (met 3) in
    let few : seat < 8 = seat_small core at seat r (either_small core seat (met 0)) in
    let f : Queue → Queue = λ q. record q { items = set q.items item new } in
    let g : Queue → Queue = λ q. record q { free = q.free ++ entry ∷ []; next_free = place + 1 } in
    let meets : Meets core at core.seats queue item new Q (f (g Q)) = record {
      tagged = λ ne. absurd (ne tag0);
      free = omega (arith, times_snoc Q.free entry item, one_here item, r.free queue item, none_there (whereabouts_code old.whereabouts) 0 (omega (arith, code)));
      others_free = λ i ne. omega (arith, times_snoc Q.free entry i, none_there item i (λ (e : item ≡ i). ne (sym e)));
      in_line = omega (arith, r.in_line queue item, none_there (whereabouts_code old.whereabouts) (2 ^ 32) (omega (arith, code, few)));
      others_in_line = λ i ne. omega arith;
      untagged = λ e. tag0;
      held = λ k back at_k worker ne. absurd (ne tag0);
    } in (
      a,
      reached_item core at at core.owners core.seats _ queue item new (f (g Q)) r refl (λ k p e. e) (λ p. refl) (λ s. refl) (there_less core queue item there)
          (two_here core.queues queue f g lt) refl (λ q ne. two_apart core.queues queue f g q ne) meets,
    )

-- ---- steps of chunks and segments

kept_claim : (core : Core) (at : ℕ → Option Stream) (seat segment chunk : ℕ) → Agrees core.seats at → IsReached core at → Kept core at (Claim seat segment chunk)
unfolding after_step with_owner stream_after
kept_claim core at seat segment chunk a r = (a, reached_elsewhere core at at core.opened _ core.seats r refl (λ k p e. e) (λ p. refl) (λ s. refl))

kept_release : (core : Core) (at : ℕ → Option Stream) (seat segment chunk : ℕ) → Agrees core.seats at → IsReached core at → Kept core at (Release seat segment chunk)
unfolding after_step with_owner stream_after
kept_release core at seat segment chunk a r = (a, reached_elsewhere core at at core.opened _ core.seats r refl (λ k p e. e) (λ p. refl) (λ s. refl))

kept_open : (core : Core) (at : ℕ → Option Stream) (seat count : ℕ) → Agrees core.seats at → IsReached core at → Kept core at (Open seat count)
unfolding after_step with_opened stream_after
kept_open core at seat count a r = (a, reached_elsewhere core at at _ core.owners core.seats r refl (λ k p e. e) (λ p. refl) (λ s. refl))

-- ---- steps of streams

some_of : (o : Option Stream) → is_some o ≡ true → (r : Stream) × (o ≡ Some r)
some_of None e = absurd (cc e)
some_of (Some r) e = (r, refl)

known_some : (test : Stream → Bool) (o : Option Stream) → known test o ≡ true → is_some o ≡ true
known_some test None e = absurd (cc e)
known_some test (Some r) e = refl

same_known : (at : ℕ → Option Stream) (s0 : ℕ) (r t : Stream) → at s0 ≡ Some r → SameKnown at (changed at s0 (Some t))
same_known at s0 r t is s =
    ⊎_elim
    (λ (e : s ≡ s0). rw (eq-eqb s s0 e) (ap is_some (sym is ∙ sym (ap at e))))
    (λ (ne : s ≢ s0). rw (ne_eqb s s0 ne) refl)
    (cases_eq s s0)

or_some : (b c : Bool) → b ≡ true → (b || c) ≡ true
or_some b c e = rw e refl

still_sent : (seats : List SeatLists) (k0 : ℕ) (f : SeatLists → SeatLists) → ((x : SeatLists) → (f x).sent ≡ x.sent) → StillSent seats (change_at k0 f seats)
still_sent seats k0 f same k p e = ap (list_any p) (proj_same (λ x. x.sent) k0 f seats k no_seat same) ∙ e

same_drawn : (seats : List SeatLists) (k0 : ℕ) (f : SeatLists → SeatLists) → ((x : SeatLists) → (f x).drawn ≡ x.drawn) → SameDrawn seats (change_at k0 f seats)
same_drawn seats k0 f same p = weigh_unchanged (λ lists. count_by p lists.drawn) k0 f seats (λ x. ap (count_by p) (same x))

more_sent : (seats : List SeatLists) (k0 : ℕ) (part : Part) → k0 < length seats → StillSent seats (change_at k0 (noted (Sent part)) seats)
more_sent seats k0 part lt k p e =
    touched (λ x. list_any p x.sent) (p part) k0 (noted (Sent part)) seats k lt (λ x. any_snoc p x.sent part) ∙ or_some (list_any p (lists_at seats k).sent) _ e

same_mark : (b : Bool) → (if b then b else not b) ≡ true
same_mark true = refl
same_mark false = refl

same_part : (part : Part) → is_same_part part part ≡ true
same_part part = rw (eq-eqb part.stream part.stream refl, eq-eqb part.number part.number refl) (same_mark part.last)

or_last : (b c : Bool) → c ≡ true → (b || c) ≡ true
or_last true c e = refl
or_last false c e = e

own_of : (at : ℕ → Option Stream) (seat s0 : ℕ) (r : Stream) → at s0 ≡ Some r → drawn_by seat (at s0) ≡ true → r.engine ≡ seat
own_of at seat s0 r is drawn = eqb-true r.engine seat (sym (ap (drawn_by seat) is) ∙ drawn)

kept_abandon : (core : Core) (at : ℕ → Option Stream) (seat stream : ℕ) → Agrees core.seats at → IsReached core at
    → first_unmet core (Abandon seat stream) ≡ None → Kept core at (Abandon seat stream)
unfolding conditions_by may_abandon after_step with_note stream_after
kept_abandon core at seat stream a r unmet =
    let met = each_met (conditions_of core (Abandon seat stream)) unmet in
    let role = engine_role core seat (met 0) in
    let lt = seat_there core at seat r (omega (arith, role)) in
    let test = test_of _ 11 1 0 (met 1) in
    let posted = sym (a.posted seat stream) ∙ (and_parts _ _ (and_parts _ _ test).0).0 in
    let record_is = some_of (at stream) (known_some _ (at stream) posted) in
    let own = own_of at seat stream record_is.0 record_is.1 (posted_drawn seat (at stream) posted) in
    let x = record_is.0 in
    let P : Option Stream → Type 0 = λ o. Agrees (change_at seat (noted (Abandoned stream)) core.seats) (changed at stream o) × IsReached (record core { seats = change_at seat (noted (Abandoned stream)) core.seats }) (changed at stream o) in
    subst P (sym (ap (option_map abandoned_stream) record_is.1)) (
      agrees_abandoned core.seats at seat stream x a lt record_is.1 own,
      reached_elsewhere core at _ core.opened core.owners _ r (changed_length seat (noted (Abandoned stream)) core.seats)
          (still_sent core.seats seat _ (λ x. refl)) (same_drawn core.seats seat _ (λ x. refl)) (same_known at stream x _ record_is.1),
    )

still_known : (at : ℕ → Option Stream) (s0 : ℕ) (t : Stream) (s : ℕ) → is_some (at s) ≡ true → is_some (changed at s0 (Some t) s) ≡ true
still_known at s0 t s e =
    ⊎_elim (λ (same : s ≡ s0). rw (eq-eqb s s0 same) refl) (λ (ne : s ≢ s0). rw (ne_eqb s s0 ne) e) (cases_eq s s0)

-- the stream that is drawn is one more in the drawn lists, and one more with a record
one_more_drawn : (core : Core) (at : ℕ → Option Stream) (seat stream : ℕ) → IsReached core at → seat < length core.seats → stream ≡ core.next → (p : ℕ → Bool)
    → weigh (λ lists. count_by p lists.drawn) (change_at seat (noted (Drawn stream)) core.seats)
    ≡ below (λ s. one_if (is_some (changed at stream (Some (drawn_stream seat)) s) && p s)) (stream + 1)
one_more_drawn core at seat stream r lt next p =
    let more = weigh_changed (λ lists. count_by p lists.drawn) seat (noted (Drawn stream)) (one_if (p stream)) core.seats lt (λ x. count_snoc p x.drawn stream) in
    let f : ℕ → ℕ = λ s. one_if (is_some (changed at stream (Some (drawn_stream seat)) s) && p s) in
    let same : below f stream ≡ below (λ s. one_if (is_some (at s) && p s)) stream =
    below_same f (λ s. one_if (is_some (at s) && p s)) stream (λ s less. let ne : s ≢ stream = omega arith in rw (ne_eqb s stream ne) refl) in
    let here : f stream ≡ one_if (p stream) = rw (eq-eqb stream stream refl) refl in
    let before : weigh (λ lists. count_by p lists.drawn) core.seats ≡ below (λ s. one_if (is_some (at s) && p s)) stream = r.numbered p ∙ ap (below (λ s. one_if (is_some (at s) && p s))) (sym next) in
    let suc_is : suc stream ≡ stream + 1 = omega arith in
    let whole : below f (suc stream) ≡ below f (stream + 1) = ap (below f) suc_is in
    omega (arith, more, same, here, before, whole)

kept_draw : (core : Core) (at : ℕ → Option Stream) (seat stream : ℕ) → Agrees core.seats at → IsReached core at
    → first_unmet core (Draw seat stream) ≡ None → Kept core at (Draw seat stream)
unfolding conditions_by is_next_stream after_step with_note stream_after
kept_draw core at seat stream a r unmet =
    let met = each_met (conditions_of core (Draw seat stream)) unmet in
    let role = engine_role core seat (met 0) in
    let lt = seat_there core at seat r (omega (arith, role)) in
    let next : stream ≡ core.next = eqb-true stream core.next (and_parts (stream == core.next) (nat_lt stream (2 ^ 62)) (test_of (stream == core.next && nat_lt stream (2 ^ 62)) _ _ _ (met 1))).0 in
    let absent : at stream ≡ None = r.recent stream (omega (arith, next)) in
    let seats = change_at seat (noted (Drawn stream)) core.seats in
    let after = changed at stream (Some (drawn_stream seat)) in
    let still = still_sent core.seats seat (noted (Drawn stream)) (λ x. refl) in (
      agrees_drawn core.seats at seat stream a lt absent,
      record {
        seats = changed_length seat (noted (Drawn stream)) core.seats ∙ r.seats;
        few = r.few;
        small = r.small;
        tagged = λ q i ne. still_known at stream (drawn_stream seat) (item_of core q i).tag (r.tagged q i ne);
        free = r.free;
        in_line = r.in_line;
        untagged = r.untagged;
        held = λ q i k back at_k worker ne. still k _ (r.held q i k back at_k worker ne);
        recent = λ s le. let ne : s ≢ stream = omega arith in rw (ne_eqb s stream ne) (r.recent s (omega (arith, next)));
        numbered = λ p. one_more_drawn core at seat stream r lt next p;
      },
    )

-- an item of which the tag changes, with what the seat's note and the stream's record become
kept_tag : (core : Core) (at : ℕ → Option Stream) (seat queue item stream : ℕ) (owners : List Owner) (f : SeatLists → SeatLists) (x t : Stream) (new : Item)
    → IsReached core at → is_there core queue item ≡ true → at stream ≡ Some x
    → StillSent core.seats (change_at seat f core.seats) → ((l : SeatLists) → (f l).drawn ≡ l.drawn)
    → whereabouts_code new.whereabouts ≡ whereabouts_code (item_of core queue item).whereabouts
    → (new.tag ≢ 0 → new.tag ≡ stream) → (whereabouts_code new.whereabouts ≡ 0 → new.tag ≡ 0)
    → ((k : ℕ) → queue ≢ 0 → whereabouts_code new.whereabouts ≡ 1 + k → role_of core k ≡ 1 → new.tag ≢ 0
    → list_any (is_same_part (part_of new.tag new)) (lists_at (change_at seat f core.seats) k).sent ≡ true)
    → IsReached (record core { owners = owners; queues = change_at queue (λ q. record q { items = set q.items item new }) core.queues; seats = change_at seat f core.seats }) (changed at stream (Some t))
kept_tag core at seat queue item stream owners f x t new r there is still drawn code tag untagged held =
    let lt = queue_there core queue item there in
    let Q = queue_of core queue in
    let after = changed at stream (Some t) in
    let q_after : Queue = record Q { items = set Q.items item new } in
    let meets : Meets core after (change_at seat f core.seats) queue item new Q q_after = record {
      tagged = λ ne. rw (tag ne) (still_known at stream t stream (ap is_some is));
      free = rw code (r.free queue item);
      others_free = λ i ne. omega arith;
      in_line = rw code (r.in_line queue item);
      others_in_line = λ i ne. omega arith;
      untagged = untagged;
      held = held;
    } in
    reached_item core at after owners (change_at seat f core.seats) _ queue item new q_after r (changed_length seat f core.seats) still
    (same_drawn core.seats seat f drawn) (same_known at stream x t is) (there_less core queue item there)
    (changed_at queue (λ q. record q { items = set q.items item new }) core.queues no_queue lt) refl
    (λ q ne. unchanged_at queue (λ k. record k { items = set k.items item new }) core.queues q no_queue ne) meets

-- arming, by whether the queue is the line to the workers
abbrev pub Armed : Core → (ℕ → Option Stream) → ℕ → ℕ → ℕ → ℕ → List Owner → Bool → Option Stream → Type 0
Armed core at seat queue item stream owners b o =
    let old = item_of core queue item in
    let new : Item = record old { tag = stream; stream = stream } in
    let seats = change_at seat (noted (if b then Posted stream else Sent (part_of stream old))) core.seats in
    let arm : Stream → Stream = λ s. if b then record s { posted = true } else record s { sent = number_in old.part + 1; last_sent = s.last_sent || is_last_in old.part } in
    let after = changed at stream (option_map arm o) in
    Agrees seats after × IsReached (record core { owners = owners; queues = change_at queue (λ q. record q { items = set q.items item new }) core.queues; seats = seats }) after

kept_post : (core : Core) (at : ℕ → Option Stream) (seat queue item stream : ℕ) (owners : List Owner) → Agrees core.seats at → IsReached core at
    → role_of core seat ≤ 1 → is_there core queue item ≡ true → whereabouts_code (item_of core queue item).whereabouts ≡ 1 + seat
    → queue ≡ 0 → may_post core seat queue item stream ≡ None → (x : Stream) → at stream ≡ Some x
    → Armed core at seat queue item stream owners true (Some x)
unfolding may_post
kept_post core at seat queue item stream owners a r role there code zero_queue arm x is =
    let lt = seat_there core at seat r role in
    let drawn = sym (a.drawn seat stream) ∙ (and_parts _ _ (test_of _ 11 1 0 arm)).0 in
    let own = own_of at seat stream x is drawn in
    let old = item_of core queue item in
    let new : Item = record old { tag = stream; stream = stream } in (
      agrees_posted core.seats at seat stream x a lt is own,
      kept_tag core at seat queue item stream owners (noted (Posted stream)) x (record x { posted = true }) new r there is
          (still_sent core.seats seat (noted (Posted stream)) (λ l. refl)) (λ l. refl) refl (λ ne. refl)
          (λ (z : whereabouts_code old.whereabouts ≡ 0). absurd (omega (arith, z, code)))
          (λ k back at_k worker ne. absurd (back zero_queue)),
    )

kept_send : (core : Core) (at : ℕ → Option Stream) (seat queue item stream : ℕ) (owners : List Owner) → Agrees core.seats at → IsReached core at
    → role_of core seat ≤ 1 → is_there core queue item ≡ true → whereabouts_code (item_of core queue item).whereabouts ≡ 1 + seat
    → may_send core seat queue item stream ≡ None → (x : Stream) → at stream ≡ Some x
    → Armed core at seat queue item stream owners false (Some x)
unfolding may_send
kept_send core at seat queue item stream owners a r role there code arm x is =
    let lt = seat_there core at seat r role in
    let old = item_of core queue item in
    let new : Item = record old { tag = stream; stream = stream } in
    let part : Part = part_of stream old in
    let tests = and_parts _ _ (and_parts _ _ (test_of _ 11 1 0 arm)).1 in
    let next : number_in old.part ≡ x.sent = eqb-true _ _ (and_parts _ _ tests.1).0 ∙ a.sent stream ∙ ap sent_of is in
    let sent_here : list_any (is_same_part part) (lists_at (change_at seat (noted (Sent part)) core.seats) seat).sent ≡ true =
    ap (λ l. list_any (is_same_part part) l.sent) (changed_at seat (noted (Sent part)) core.seats no_seat lt)
    ∙ any_snoc (is_same_part part) (lists_at core.seats seat).sent part ∙ or_last (list_any (is_same_part part) (lists_at core.seats seat).sent) _ (same_part part) in (
      agrees_sent core.seats at seat stream x part (number_in old.part) a lt refl is next,
      kept_tag core at seat queue item stream owners (noted (Sent part)) x (record x { sent = number_in old.part + 1; last_sent = x.last_sent || is_last_in old.part }) new r there is
          (more_sent core.seats seat part lt) (λ l. refl) refl (λ ne. refl)
          (λ (z : whereabouts_code old.whereabouts ≡ 0). absurd (omega (arith, z, code)))
          (λ k back (at_k : whereabouts_code old.whereabouts ≡ 1 + k) worker ne.
          let same : seat ≡ k = omega (arith, at_k, code) in
          subst (λ j. list_any (is_same_part part) (lists_at (change_at seat (noted (Sent part)) core.seats) j).sent ≡ true) same sent_here),
    )

post_known : (core : Core) (at : ℕ → Option Stream) (seat queue item stream : ℕ) → Agrees core.seats at → may_post core seat queue item stream ≡ None → is_some (at stream) ≡ true
unfolding may_post
post_known core at seat queue item stream a arm = known_some _ (at stream) (sym (a.drawn seat stream) ∙ (and_parts _ _ (test_of _ 11 1 0 arm)).0)

send_known : (core : Core) (at : ℕ → Option Stream) (seat queue item stream : ℕ) → Agrees core.seats at → may_send core seat queue item stream ≡ None → is_some (at stream) ≡ true
unfolding may_send
send_known core at seat queue item stream a arm =
    known_some _ (at stream) (sym (a.posted (queue - 1) stream) ∙ (and_parts _ _ (and_parts _ _ (test_of _ 11 1 0 arm)).0).1)

armed : (core : Core) (at : ℕ → Option Stream) (seat queue item stream : ℕ) (owners : List Owner) → Agrees core.seats at → IsReached core at
    → role_of core seat ≤ 1 → is_there core queue item ≡ true → whereabouts_code (item_of core queue item).whereabouts ≡ 1 + seat
    → (b : Bool) → (queue == 0) ≡ b → (if b then may_post core seat queue item stream else may_send core seat queue item stream) ≡ None
    → Armed core at seat queue item stream owners b (at stream)
armed core at seat queue item stream owners a r role there code true e arm =
    let x = some_of (at stream) (post_known core at seat queue item stream a arm) in
    subst (Armed core at seat queue item stream owners true) (sym x.1) (kept_post core at seat queue item stream owners a r role there code (eqb-true queue 0 e) arm x.0 x.1)
armed core at seat queue item stream owners a r role there code false e arm =
    let x = some_of (at stream) (send_known core at seat queue item stream a arm) in
    subst (Armed core at seat queue item stream owners false) (sym x.1) (kept_send core at seat queue item stream owners a r role there code arm x.0 x.1)

kept_arm : (core : Core) (at : ℕ → Option Stream) (seat queue item stream : ℕ) → Agrees core.seats at → IsReached core at
    → first_unmet core (Arm seat queue item stream) ≡ None → Kept core at (Arm seat queue item stream)
unfolding conditions_by may_arm after_step with_note with_item with_run_owner stream_after
kept_arm core at seat queue item stream a r unmet =
    let met = each_met (conditions_of core (Arm seat queue item stream)) unmet in
    armed core at seat queue item stream _ a r (either_small core seat (met 0)) (fill_there core seat queue item (met 1)) (held_code core seat queue item (met 2)) (queue == 0) refl (met 6)

-- settling, by role and queue
abbrev pub Settled : Core → (ℕ → Option Stream) → ℕ → ℕ → ℕ → ℕ → List Owner → Bool → Bool → Option Stream → Type 0
Settled core at seat queue item stream owners e b o =
    let old = item_of core queue item in
    let new : Item = record old { tag = 0 } in
    let part : Part = part_of stream old in
    let seats = change_at seat (noted (if e then (if b then Cancelled stream else Received part) else (if b then Taken stream else Closed stream))) core.seats in
    let settle : Stream → Stream = λ s. if e
    then (if b then record s { cancelled = true } else record s { received_last = s.received_last || (s.engine == seat && is_last_in old.part) })
    else (if b then record s { taken = true; takers = set s.takers seat true } else record s { closed = true }) in
    let after = changed at stream (option_map settle o) in
    Agrees seats after × IsReached (record core { owners = owners; queues = change_at queue (λ q. record q { items = set q.items item new }) core.queues; seats = seats }) after

settled_tag : (core : Core) (at : ℕ → Option Stream) (seat queue item stream : ℕ) (owners : List Owner) (f : SeatLists → SeatLists) (x t : Stream)
    → IsReached core at → is_there core queue item ≡ true → at stream ≡ Some x → ((l : SeatLists) → (f l).sent ≡ l.sent) → ((l : SeatLists) → (f l).drawn ≡ l.drawn)
    → IsReached (record core { owners = owners; queues = change_at queue (λ q. record q { items = set q.items item (record (item_of core queue item) { tag = 0 }) }) core.queues; seats = change_at seat f core.seats }) (changed at stream (Some t))
settled_tag core at seat queue item stream owners f x t r there is sent drawn =
    kept_tag core at seat queue item stream owners f x t (record (item_of core queue item) { tag = 0 }) r there is
    (still_sent core.seats seat f sent) drawn refl (λ ne. absurd (ne refl)) (λ z. refl) (λ k back at_k worker ne. absurd (ne refl))

settled : (core : Core) (at : ℕ → Option Stream) (seat queue item stream : ℕ) (owners : List Owner) → Agrees core.seats at → IsReached core at
    → seat < length core.seats → seat < 8 → is_there core queue item ≡ true → (x : Stream) → at stream ≡ Some x
    → (e b : Bool) → (e ≡ true → b ≡ true → posted_by seat (at stream) ≡ true)
    → Settled core at seat queue item stream owners e b (Some x)
settled core at seat queue item stream owners a r lt small there x is true true posted =
    let own = own_of at seat stream x is (posted_drawn seat (at stream) (posted refl refl)) in (
      agrees_cancelled core.seats at seat stream x a lt is own,
      settled_tag core at seat queue item stream owners (noted (Cancelled stream)) x _ r there is (λ l. refl) (λ l. refl),
    )
settled core at seat queue item stream owners a r lt small there x is true false posted =
    let part : Part = part_of stream (item_of core queue item) in (
      agrees_received core.seats at seat stream x part a lt refl is,
      settled_tag core at seat queue item stream owners (noted (Received part)) x _ r there is (λ l. refl) (λ l. refl),
    )
settled core at seat queue item stream owners a r lt small there x is false true posted = (
  agrees_taken core.seats at seat stream x a lt is small,
  settled_tag core at seat queue item stream owners (noted (Taken stream)) x _ r there is (λ l. refl) (λ l. refl),
)
settled core at seat queue item stream owners a r lt small there x is false false posted = (
  agrees_closed core.seats at seat stream x a lt is,
  settled_tag core at seat queue item stream owners (noted (Closed stream)) x _ r there is (λ l. refl) (λ l. refl),
)

-- an engine that settles an item of the line posted its stream
settle_posted : (core : Core) (at : ℕ → Option Stream) (seat queue item stream : ℕ) → Agrees core.seats at → may_settle core seat queue item stream ≡ None
    → (role_of core seat == 0) ≡ true → (queue == 0) ≡ true → posted_by seat (at stream) ≡ true
unfolding may_settle
settle_posted core at seat queue item stream a met role line =
    let some = not (stream == 0) in
    let wins = if queue == 0 then may_win_request core seat queue item stream else may_win_part core seat queue item stream in
    let both = and_parts some wins (test_of (some && wins) 11 1 0 met) in
    let won : may_win_request core seat queue item stream ≡ true = rw line at both.1 in
    let has : has_stream stream (lists_at core.seats seat).posted ≡ true = rw role at won in
    sym (a.posted seat stream) ∙ has

settle_some : (core : Core) (seat queue item stream : ℕ) → may_settle core seat queue item stream ≡ None → stream ≢ 0
unfolding may_settle
settle_some core seat queue item stream met e =
    let zero_test : (stream == 0) ≡ true = eq-eqb stream 0 e in
    let test = (and_parts (not (stream == 0)) _ (test_of _ 11 1 0 met)).0 in
    let bad : not true ≡ true = rw zero_test at test in
    absurd (cc bad)

kept_settle : (core : Core) (at : ℕ → Option Stream) (seat queue item stream : ℕ) → Agrees core.seats at → IsReached core at
    → first_unmet core (Settle seat queue item stream) ≡ None → Kept core at (Settle seat queue item stream)
unfolding conditions_by after_step with_note with_item with_run_owner stream_after
kept_settle core at seat queue item stream a r unmet =
    let met = each_met (conditions_of core (Settle seat queue item stream)) unmet in
    let role = either_small core seat (met 0) in
    let there = use_there core queue item (met 1) in
    let tag : (item_of core queue item).tag ≡ stream = tag_is core queue item stream (met 2) in
    let some = settle_some core seat queue item stream (met 3) in
    let is_known : is_some (at stream) ≡ true = subst (λ n. is_some (at n) ≡ true) tag (r.tagged queue item (λ z. some (sym tag ∙ z))) in
    let x = some_of (at stream) is_known in
    subst (Settled core at seat queue item stream _ (role_of core seat == 0) (queue == 0)) (sym x.1)
    (settled core at seat queue item stream _ a r (seat_there core at seat r role) (seat_small core at seat r role) there x.0 x.1 (role_of core seat == 0) (queue == 0)
    (settle_posted core at seat queue item stream a (met 3)))

pub kept : (core : Core) (at : ℕ → Option Stream) (step : Step) → Agrees core.seats at → IsReached core at → first_unmet core step ≡ None → Kept core at step
kept core at (Draw seat stream) a r unmet = kept_draw core at seat stream a r unmet
kept core at (Claim seat segment chunk) a r unmet = kept_claim core at seat segment chunk a r
kept core at (Release seat segment chunk) a r unmet = kept_release core at seat segment chunk a r
kept core at (Open seat count) a r unmet = kept_open core at seat count a r
kept core at (GetItem seat queue item place) a r unmet = kept_get_item core at seat queue item place a r unmet
kept core at (SetRun seat queue item run) a r unmet = kept_set_run core at seat queue item run a r unmet
kept core at (SetPart seat queue item part) a r unmet = kept_set_part core at seat queue item part a r unmet
kept core at (Arm seat queue item stream) a r unmet = kept_arm core at seat queue item stream a r unmet
kept core at (Push seat queue item place) a r unmet = kept_push core at seat queue item place a r unmet
kept core at (Pop seat queue item place) a r unmet = kept_pop core at seat queue item place a r unmet
kept core at (Settle seat queue item stream) a r unmet = kept_settle core at seat queue item stream a r unmet
kept core at (GiveItem seat queue item place) a r unmet = kept_give_item core at seat queue item place a r unmet
kept core at (Abandon seat stream) a r unmet = kept_abandon core at seat stream a r unmet

-- the core without its seats' lists after a step
pub frame_kept : (core : Core) (step : Step) → frame_after (frame_of core) step ≡ frame_of (after_step core step)
unfolding after_step with_note with_item with_owner with_run_owner with_opened with_free with_in_line without_first_free without_first_in_line
frame_kept core (Draw seat stream) = refl
frame_kept core (Claim seat segment chunk) = refl
frame_kept core (Release seat segment chunk) = refl
frame_kept core (Open seat count) = refl
frame_kept core (GetItem seat queue item place) = refl
frame_kept core (SetRun seat queue item run) = refl
frame_kept core (SetPart seat queue item part) = refl
frame_kept core (Arm seat queue item stream) = refl
frame_kept core (Push seat queue item place) = refl
frame_kept core (Pop seat queue item place) = refl
frame_kept core (Settle seat queue item stream) = refl
frame_kept core (GiveItem seat queue item place) = refl
frame_kept core (Abandon seat stream) = refl
