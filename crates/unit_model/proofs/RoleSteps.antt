-- Items and roles at each step.
use Rattle.std.proofs.Common.{ℕ, ◌+◌, ◌≡◌, ◌≢◌, ◌<◌, ◌==◌, ◌&&◌, ◌||◌, not, true, if◌then◌else◌, refl, sym, ap, ◌∙◌, subst, arith}
use Rattle.std.specs.Prelude.{None}
use Rattle.std.proofs.lemmas.Bool.{and_parts, eqb-true, eqb-false, eq-eqb, ne_eqb}
use Rattle.unit_model.proofs.HeldItems.{taken_counts, free_word}
use Rattle.unit_model.proofs.ItemChanges.{SetsItem, each_item, queue_there}
use Rattle.unit_model.proofs.MetConditions.{each_met, test_of}
use Rattle.unit_model.proofs.MetSteps.{either_is_there, seat_is_low, fill_there, seat_has_it, first_free, item_is_low}
use Rattle.unit_model.proofs.StepFacts.{empty_inside, use_inside, tag_is, held_of, sets_after_get, sets_after_pop, sets_after_push, sets_after_give, sets_after_run, sets_after_part, sets_after_arm, sets_after_settle}
use Rattle.unit_model.proofs.StreamLaw.{not_true}
use Rattle.unit_model.specs.Conditions.{conditions_by, conditions_of, is_engine, is_worker, is_tagged, is_there, has_stream, holds, may_post, may_arm, may_empty, may_settle, may_win_request, may_win_part}
use Rattle.unit_model.specs.Core.{queue_of, item_of, role_of, seat_of}
use Rattle.unit_model.specs.Effects.{after_step, with_note, with_item, with_run_owner, with_in_line, with_free, without_first_free, without_first_in_line, with_owner, with_opened}
use Rattle.unit_model.specs.Holding.{is_in_free_list}
use Rattle.unit_model.specs.declared.machine.Core.{Core}
use Rattle.unit_model.specs.declared.machine.Item.{Item}
use Rattle.unit_model.specs.declared.machine.Step.TheVariants.{Draw, Claim, Release, Open, GetItem, SetRun, SetPart, Arm, Push, Pop, Settle, GiveItem, Abandon}
use Rattle.unit_model.specs.declared.machine.Whereabouts.TheVariants.{InFreeList, InLine, WithSeat}
use Rattle.unit_model.specs.ByRole.{ItemByRole, ItemsByRole, ItemsByRoleStay}

-- ---- one item changes

by_one : (core new : Core) (queue item : ℕ) (now : Item) → SetsItem core new queue item now → ItemsByRole core → ItemByRole (role_of core) queue now → (q i : ℕ) → ItemByRole (role_of core) q (item_of new q i)
by_one core new queue item now changed old here q i =
    each_item (ItemByRole (role_of core) q) core new queue item now changed q i (λ is_q _. subst (λ (n : ℕ). ItemByRole (role_of core) n now) (sym is_q) here) (λ _. old q i)

-- ---- what conditions say

arm_part : (core : Core) (seat queue item stream : ℕ) → may_arm core seat queue item stream ≡ None → queue ≡ 0 → (item_of core queue item).part ≡ seat
unfolding may_arm may_post
arm_part core seat queue item stream met line =
    let drawn = has_stream stream (seat_of core seat).drawn in
    let unposted = not (has_stream stream (seat_of core seat).posted) in
    let all = test_of (drawn && (unposted && (item_of core queue item).part == seat)) _ _ _ (rw (eq-eqb queue 0 line) at met) in
    eqb-true _ _ (and_parts unposted ((item_of core queue item).part == seat) (and_parts drawn _ all).1).1

tagged : (core : Core) (queue item : ℕ) → is_tagged core queue item ≡ None → (item_of core queue item).tag ≢ 0
unfolding is_tagged
tagged core queue item met = eqb-false (item_of core queue item).tag 0 (not_true _ (test_of (not ((item_of core queue item).tag == 0)) _ _ _ met))

popped_role : (core : Core) (seat queue : ℕ) → (if queue == 0 then is_worker core seat else is_engine core seat) ≡ None → queue ≡ 0 → role_of core seat ≡ 1
unfolding is_worker
popped_role core seat queue met line = eqb-true _ _ (test_of (role_of core seat == 1) _ _ _ (rw (eq-eqb queue 0 line) at met))

popped_own : (core : Core) (seat queue item : ℕ) → may_empty core seat queue item ≡ None → queue ≢ 0 → queue ≡ 1 + seat
unfolding may_empty
popped_own core seat queue item met back =
    let both = and_parts (is_there core queue item) (queue == 0 || queue == 1 + seat) (test_of _ _ _ _ met) in
    eqb-true _ _ (rw (ne_eqb queue 0 back) at both.1)

settled_hand : (core : Core) (seat queue item stream : ℕ) → seat < 8 → may_settle core seat queue item stream ≡ None → queue ≢ 0 → (item_of core queue item).whereabouts ≡ WithSeat seat
unfolding may_settle
settled_hand core seat queue item stream low met back =
    let wins = and_parts (not (stream == 0)) _ (test_of (not (stream == 0) && (if queue == 0 then may_win_request core seat queue item stream else may_win_part core seat queue item stream)) _ _ _ met) in
    let part : may_win_part core seat queue item stream ≡ true = rw (ne_eqb queue 0 back) at wins.1 in
    held_of seat (item_of core queue item).whereabouts (eqb-true _ _ (and_parts (holds core seat queue item) _ part).0) (omega (arith, low))

seat_of_hand : (seat s : ℕ) → WithSeat seat ≡ WithSeat s → seat ≡ s
seat_of_hand seat s is = cc is

engines_fill : (core : Core) (seat s queue : ℕ) → (role_of core seat == 0) ≡ (queue == 0) → WithSeat seat ≡ WithSeat s → role_of core s ≡ 0 → queue ≢ 0 → ⊥
engines_fill core seat s queue side is role back =
    let same : seat ≡ s = seat_of_hand seat s is in
    let engine : (role_of core seat == 0) ≡ true = eq-eqb _ _ (ap (role_of core) same ∙ role) in
    absurd (cc (engine, side, ne_eqb queue 0 back))

-- ---- the steps

pub by_role_stays : ItemsByRoleStay
unfolding after_step with_note with_item with_run_owner with_in_line with_free without_first_free without_first_in_line with_owner with_opened conditions_by
by_role_stays core (Draw seat stream) sound old met = old
by_role_stays core (Claim seat segment chunk) sound old met = old
by_role_stays core (Release seat segment chunk) sound old met = old
by_role_stays core (Open seat count) sound old met = old
by_role_stays core (Abandon seat stream) sound old met = old
by_role_stays core (GetItem seat queue item place) sound old met =
    let conditions = conditions_of core (GetItem seat queue item place) in
    let fills = fill_there core seat queue item (each_met conditions met 1) in
    let it : Item = item_of core queue item in
    let now : Item = record it { whereabouts = WithSeat seat } in
    let low = item_is_low core queue item sound.held.shape (queue_there core queue item fills.0) fills.0 in
    let was = taken_counts is_in_free_list (queue_of core queue).items item now (queue_of core queue).free (first_free core queue item (each_met conditions met 3)) low fills.0 (sound.held.queues queue).free refl in
    let none : it.tag ≡ 0 = (sound.held.queues queue).untagged item (free_word it.whereabouts was.0) in
    by_one core (after_step core (GetItem seat queue item place)) queue item now (sets_after_get core seat queue item place fills.0) old (record {
      in_line = λ back is. absurd (cc is);
      poster = λ s role line is armed. absurd (armed none);
      own = λ s role back is. absurd (engines_fill core seat s queue fills.1 is role back);
    })
by_role_stays core (SetRun seat queue item run) sound old met =
    let conditions = conditions_of core (SetRun seat queue item run) in
    let fills = fill_there core seat queue item (each_met conditions met 1) in
    let here = old queue item in
    by_one core (after_step core (SetRun seat queue item run)) queue item (record (item_of core queue item) { run = run }) (sets_after_run core seat queue item run fills.0) old (record { in_line = here.in_line; poster = here.poster; own = here.own })
by_role_stays core (SetPart seat queue item part) sound old met =
    let conditions = conditions_of core (SetPart seat queue item part) in
    let fills = fill_there core seat queue item (each_met conditions met 1) in
    let none = tag_is core queue item 0 (each_met conditions met 3) in
    let here = old queue item in
    by_one core (after_step core (SetPart seat queue item part)) queue item (record (item_of core queue item) { part = part }) (sets_after_part core seat queue item part fills.0) old (record { in_line = here.in_line; poster = λ s role line is armed. absurd (armed none); own = here.own })
by_role_stays core (Arm seat queue item stream) sound old met =
    let conditions = conditions_of core (Arm seat queue item stream) in
    let there = either_is_there core seat (each_met conditions met 0) in
    let fills = fill_there core seat queue item (each_met conditions met 1) in
    let hand = seat_has_it core seat queue item (seat_is_low core seat sound.held.shape there) (each_met conditions met 2) in
    let here = old queue item in
    by_one core (after_step core (Arm seat queue item stream)) queue item (record (item_of core queue item) { tag = stream; stream = stream }) (sets_after_arm core seat queue item stream fills.0) old (record {
      in_line = λ back is. absurd (cc (hand, is));
      poster = λ s role line is armed. arm_part core seat queue item stream (each_met conditions met 6) line ∙ seat_of_hand seat s (sym hand ∙ is);
      own = here.own;
    })
by_role_stays core (Push seat queue item place) sound old met =
    let conditions = conditions_of core (Push seat queue item place) in
    let fills = fill_there core seat queue item (each_met conditions met 1) in
    let armed = tagged core queue item (each_met conditions met 3) in
    by_one core (after_step core (Push seat queue item place)) queue item (record (item_of core queue item) { whereabouts = InLine }) (sets_after_push core seat queue item place fills.0) old (record {
      in_line = λ back is. armed;
      poster = λ s role line is _. absurd (cc is);
      own = λ s role back is. absurd (cc is);
    })
by_role_stays core (Pop seat queue item place) sound old met =
    let conditions = conditions_of core (Pop seat queue item place) in
    let inside = empty_inside core seat queue item (each_met conditions met 1) in
    by_one core (after_step core (Pop seat queue item place)) queue item (record (item_of core queue item) { whereabouts = WithSeat seat }) (sets_after_pop core seat queue item place inside) old (record {
      in_line = λ back is. absurd (cc is);
      poster = λ s role line is _. absurd (omega (arith, popped_role core seat queue (each_met conditions met 0) line, ap (role_of core) (seat_of_hand seat s is), role));
      own = λ s role back is. popped_own core seat queue item (each_met conditions met 1) back ∙ ap (λ (n : ℕ). 1 + n) (seat_of_hand seat s is);
    })
by_role_stays core (Settle seat queue item stream) sound old met =
    let conditions = conditions_of core (Settle seat queue item stream) in
    let there = either_is_there core seat (each_met conditions met 0) in
    let inside = use_inside core queue item (each_met conditions met 1) in
    let here = old queue item in
    by_one core (after_step core (Settle seat queue item stream)) queue item (record (item_of core queue item) { tag = 0 }) (sets_after_settle core seat queue item stream inside) old (record {
      in_line = λ back is. absurd (cc (is, settled_hand core seat queue item stream (seat_is_low core seat sound.held.shape there) (each_met conditions met 3) back));
      poster = λ s role line is armed. absurd (armed refl);
      own = here.own;
    })
by_role_stays core (GiveItem seat queue item place) sound old met =
    let conditions = conditions_of core (GiveItem seat queue item place) in
    let inside = use_inside core queue item (each_met conditions met 1) in
    by_one core (after_step core (GiveItem seat queue item place)) queue item (record (item_of core queue item) { whereabouts = InFreeList }) (sets_after_give core seat queue item place inside) old (record {
      in_line = λ back is. absurd (cc is);
      poster = λ s role line is _. absurd (cc is);
      own = λ s role back is. absurd (cc is);
    })
