-- The order of parts at all other steps, and at first.
use Rattle.std.proofs.Common.{ℕ, ◌+◌, ◌^◌, ◌≡◌, ◌≢◌, ◌≤◌, ◌<◌, ◌==◌, ◌&&◌, ◌⊎◌, inl, inr, not, Bool, true, false, List, [], ◌∷◌, ◌++◌, map, filter, drop, set, length, get_or, replicate, refl, sym, ap, ◌∙◌, subst, arith}
use Rattle.std.specs.Prelude.{None}
use Rattle.std.proofs.lemmas.Bool.{cases_Bool, cases_eq, cases_lt, eq-eqb, ne_eqb, and_parts}
use Rattle.std.proofs.lemmas.List.{append-nil, append_assoc, get_or-replicate, get_or_past, length-append, length-replicate}
use Rattle.std.proofs.lemmas.List.Elements.{filter-append}
use Rattle.unit_model.specs.Conditions.{conditions_by, conditions_of, part_of, may_arm, may_post}
use Rattle.unit_model.specs.Core.{no_queue, no_seat, queue_of, item_of, role_of, seat_of, first_item}
use Rattle.unit_model.specs.Effects.{after_step, with_note, with_item, with_run_owner, with_in_line, with_free, without_first_free, without_first_in_line, with_owner, with_opened, noted, settled_note, armed_note}
use Rattle.unit_model.specs.Holding.{entries_of, has_item, is_in_line, is_in_free_list}
use Rattle.unit_model.specs.Lists.{change_at}
use Rattle.unit_model.specs.PartCounts.{is_of_stream, same_part, sent, sent_parts, received, no_part, parts_by_seat, times_sent}
use Rattle.unit_model.specs.SoundStreams.{part_in}
use Rattle.unit_model.specs.Soundness.{IsSound}
use Rattle.unit_model.specs.StreamCounts.{by_seat, by_all, drawn, posted, taken, closed}
use Rattle.unit_model.specs.Weights.{weigh, one_if, is_number}
use Rattle.unit_model.specs.declared.machine.Core.{Core}
use Rattle.unit_model.specs.declared.machine.Entry.{Entry}
use Rattle.unit_model.specs.declared.machine.Item.{Item}
use Rattle.unit_model.specs.declared.machine.Note.{Note}
use Rattle.unit_model.specs.declared.machine.Note.TheVariants.{Drawn, Posted, Cancelled, Abandoned, Taken, Closed}
use Rattle.unit_model.specs.declared.machine.Part.{Part}
use Rattle.unit_model.specs.declared.machine.Queue.{Queue}
use Rattle.unit_model.specs.declared.machine.Seat.{Seat as SeatLists}
use Rattle.unit_model.specs.declared.machine.Step.TheVariants.{Draw, Claim, Release, Open, GetItem, SetRun, SetPart, Arm, Push, Pop, Settle, GiveItem, Abandon}
use Rattle.unit_model.specs.declared.machine.Whereabouts.{Whereabouts}
use Rattle.unit_model.specs.declared.machine.Whereabouts.TheVariants.{InFreeList, InLine, WithSeat}
use Rattle.unit_model.proofs.Changes.{part_stays}
use Rattle.unit_model.proofs.HeldItems.{word_of_free, free_word}
use Rattle.unit_model.proofs.ItemChanges.{SetsItem, queue_there}
use Rattle.unit_model.proofs.Members.{part_at_place, part_of_stream, weighs_in_all, weight_of_seat}
use Rattle.unit_model.proofs.MetConditions.{each_met, test_of}
use Rattle.unit_model.proofs.MetSteps.{either_is_there, role_is_there, seat_is_low, seat_has_it, first_free, item_is_low}
use Rattle.unit_model.proofs.PartNotes.{PartsStay, parts_stay, sent_length, one_itself}
use Rattle.unit_model.proofs.PartSteps.{counted_is, held_unclosed}
use Rattle.unit_model.proofs.PartLists.{taken_at_most_once}
use Rattle.unit_model.proofs.SoundRuns.{keeps_sound}
use Rattle.unit_model.proofs.SeatNotes.{Adds, Stays, Grows, stays, grows, has_counts, has_not_counts, one_seat, seat_in_all, all_less_at}
use Rattle.unit_model.proofs.StepFacts.{seat_there, engine_there, fill_inside, use_inside, empty_inside, tag_is, sets_after_get, sets_after_run, sets_after_part, sets_after_arm, sets_after_push, sets_after_pop, sets_after_settle, sets_after_give, adds_after_arm, adds_after_settle, adds_after_draw, adds_after_abandon, closed_back}
use Rattle.unit_model.proofs.StreamPoints.{posted_some}
use Rattle.unit_model.proofs.StreamSteps.{drawn_at_most_once, drawn_some}
use Rattle.unit_model.proofs.Weights.{is_number_same, is_number_other}
use Rattle.unit_model.proofs.Presence.{twice_elsewhere, hand_is_there}
use Rattle.unit_model.specs.Premises.{IsInHand}
use Rattle.unit_model.specs.PartOrder.{Each, line_parts, course, IsOrdered, IsPopped, IsUnpushed, PartsInOrder, CloseInOrder, OthersInOrder, InOrderAtFirst}
use Rattle.unit_model.proofs.PartOrderBack.{each_gives, map_kept, map_all, line_kept, first_counts, four_same, not_in_line, hands_differ, carried, item_kept, part_kept, popped_stays, unpushed_stays}

-- ---- a stream that no one took has no parts

sent_is_taken : (core : Core) (p : Part) → IsSound core → 1 ≤ times_sent core p → 1 ≤ by_all taken core p.stream
sent_is_taken core p sound has =
    let found = weight_of_seat (same_part p) sent core no_part has in
    let q : Part = found.1 in
    let is_p : p ≡ q = counted_is p q found.3 in
    let counts : 1 ≤ parts_by_seat sent core found.0 q.stream = part_of_stream q (seat_of core found.0).sent found.2 in
    let takes : 1 ≤ by_seat taken core found.0 q.stream = sound.parts.sent_by_taker found.0 q.stream counts in
    subst (λ (s : ℕ). 1 ≤ by_all taken core s) (ap (λ (x : Part). x.stream) (sym is_p)) (omega (arith, takes, seat_in_all taken core found.0 q.stream refl))

no_such_item : (core : Core) (stream e x : ℕ) → IsSound core → by_all taken core stream ≡ 0 → stream ≢ 0 → is_of_stream stream (part_in core (1 + e) x) ≡ false
no_such_item core stream e x sound off nonzero =
    let tag : ℕ = (item_of core (1 + e) x).tag in
    ne_eqb tag stream (λ is.
    let takes : 1 ≤ by_all taken core tag = sent_is_taken core (part_in core (1 + e) x) sound (sound.parts.under_way_was_sent e x (λ zero_tag. nonzero (sym is ∙ zero_tag))) in
    absurd (omega (arith, takes, ap (by_all taken core) is, off)))

filter_none : {X : Type 0} (test : Part → Bool) (f : X → Part) (xs : List X) → ((x : X) → test (f x) ≡ false) → filter test (map f xs) ≡ []
filter_none test f [] off = refl
filter_none test f (x ∷ xs) off = rw (off x) (filter_none test f xs off)

empty_list : {X : Type 0} (xs : List X) → (0 < length xs → ⊥) → xs ≡ []
empty_list [] off = refl
empty_list (x ∷ xs) off = absurd (off (omega arith))

none_received : (core : Core) (stream e : ℕ) → IsSound core → by_all taken core stream ≡ 0 → filter (is_of_stream stream) (seat_of core e).received ≡ []
none_received core stream e sound off = empty_list (filter (is_of_stream stream) (seat_of core e).received) (λ inside.
    let p : Part = get_or (filter (is_of_stream stream) (seat_of core e).received) 0 no_part in
    let found = part_at_place stream (seat_of core e).received 0 inside in
    let has : 1 ≤ times_sent core p = sound.parts.received_was_sent p (weighs_in_all (same_part p) received core e p refl found.0 (omega (arith, one_itself p))) in
    absurd (omega (arith, sent_is_taken core p sound has, ap (by_all taken core) found.1, off)))

none_sent : (core : Core) (stream w : ℕ) → IsSound core → by_all taken core stream ≡ 0 → sent_parts core w stream ≡ []
none_sent core stream w sound off = empty_list (sent_parts core w stream) (λ inside.
    absurd (omega (arith, sound.parts.sent_by_taker w stream (omega (arith, inside, sent_length core w stream)), seat_in_all taken core w stream refl, off)))

none_on_way : (core : Core) (stream e : ℕ) (popped : List ℕ) → IsSound core → by_all taken core stream ≡ 0 → stream ≢ 0 → course core e stream popped [] ≡ []
none_on_way core stream e popped sound off nonzero =
    let f : List Part → List Part = filter (is_of_stream stream) in
    let r : List Part = (seat_of core e).received in
    let po : List Part = map (part_in core (1 + e)) popped in
    let l : List Part = line_parts core (1 + e) in
    let at_popped : f po ≡ [] = filter_none (is_of_stream stream) (part_in core (1 + e)) popped (λ x. no_such_item core stream e x sound off nonzero) in
    let at_line : f l ≡ [] = filter_none (is_of_stream stream) (λ (x : Entry). part_in core (1 + e) x.item) (queue_of core (1 + e)).line (λ x. no_such_item core stream e x.item sound off nonzero) in
    ap (λ (xs : List Part). f (r ++ (po ++ xs))) (append-nil l)
    ∙ filter-append (is_of_stream stream) r (po ++ l) ∙ ap (λ (xs : List Part). xs ++ f (po ++ l)) (none_received core stream e sound off)
    ∙ filter-append (is_of_stream stream) po l ∙ ap (λ (xs : List Part). xs ++ f l) at_popped ∙ at_line

-- ---- what a step leaves

module _ (popped armed : ℕ → List ℕ) (core new : Core) (sound : IsSound core) (old : PartsInOrder popped armed core)
    (roles : (k : ℕ) → role_of new k ≡ role_of core k)
    (by_tag : (e x : ℕ) → (item_of core (1 + e) x).tag ≢ 0 → item_of new (1 + e) x ≡ item_of core (1 + e) x)
    (lines : (e : ℕ) → line_parts new (1 + e) ≡ line_parts core (1 + e))
    (receives : (e : ℕ) → (seat_of new e).received ≡ (seat_of core e).received)
    (sends : (w : ℕ) → (seat_of new w).sent ≡ (seat_of core w).sent)
    (closes : (w s : ℕ) → by_seat closed new w s ≡ by_seat closed core w s)
    (takes_more : (s : ℕ) → by_all taken core s ≤ by_all taken new s) where
  pops_same : (e : ℕ) → map (part_in new (1 + e)) (popped e) ≡ map (part_in core (1 + e)) (popped e)
  pops_same e = map_kept (part_in new (1 + e)) (part_in core (1 + e)) (popped e)
      (each_gives (IsPopped core e) (λ x. part_in new (1 + e) x ≡ part_in core (1 + e) x) (popped e) (λ x is. ap (λ (it : Item). part_of it.tag it) (by_tag e x is.tagged)) (old.pops e))

  arms_same : (e s : ℕ) → 1 ≤ by_seat posted core e s → map (part_in new (1 + e)) (armed s) ≡ map (part_in core (1 + e)) (armed s)
  arms_same e s posts =
      let nonzero : s ≢ 0 = posted_some core sound.streams s (omega (arith, posts, seat_in_all posted core e s refl)) in
      map_kept (part_in new (1 + e)) (part_in core (1 + e)) (armed s)
      (each_gives (IsUnpushed core e s) (λ x. part_in new (1 + e) x ≡ part_in core (1 + e) x) (armed s)
      (λ x is. ap (λ (it : Item). part_of it.tag it) (by_tag e x (λ zero_tag. nonzero (sym is.tag ∙ zero_tag)))) (old.arms e s posts))

  quiet : ((e s : ℕ) → 1 ≤ by_seat posted new e s → (1 ≤ by_seat posted core e s) ⊎ (by_all taken core s ≡ 0))
      → ((e w s : ℕ) → 1 ≤ by_seat posted new e s → 1 ≤ by_seat taken new w s → ((1 ≤ by_seat posted core e s) × (1 ≤ by_seat taken core w s)) ⊎ ((by_all taken core s ≡ 0) × (s ≢ 0)))
      → PartsInOrder popped armed new
  quiet posts starts = record {
    one = old.one;
    pops = λ e. each_gives (IsPopped core e) (IsPopped new e) (popped e) (λ x is. record {
      role = roles e ∙ is.role;
      hand = ap (λ (it : Item). it.whereabouts) (by_tag e x is.tagged) ∙ is.hand;
      tagged = λ zero_tag. is.tagged (ap (λ (it : Item). it.tag) (sym (by_tag e x is.tagged)) ∙ zero_tag);
    }) (old.pops e);
    arms = λ e s posts'. elim (posts e s posts') [
      | inr off ↦ subst (Each (IsUnpushed new e s)) (sym (old.untaken s off)) tt
      | inl before ↦
          let nonzero : s ≢ 0 = posted_some core sound.streams s (omega (arith, before, seat_in_all posted core e s refl)) in
          each_gives (IsUnpushed core e s) (IsUnpushed new e s) (armed s) (λ x is.
          let same : item_of new (1 + e) x ≡ item_of core (1 + e) x = by_tag e x (λ zero_tag. nonzero (sym is.tag ∙ zero_tag)) in
          record {
            seat = is.seat;
            role = roles is.seat ∙ is.role;
            hand = ap (λ (it : Item). it.whereabouts) same ∙ is.hand;
            tag = ap (λ (it : Item). it.tag) same ∙ is.tag;
          }) (old.arms e s before)
    ];
    untaken = λ s off. old.untaken s (omega (arith, off, takes_more s));
    order = λ e w s posts' takes'. elim (starts e w s posts' takes') [
      | inl both ↦ carried core new e w s (popped e) (popped e) (armed s) (armed s)
          (ap (filter (is_of_stream s)) (four_same _ (seat_of core e).received _ (map (part_in core (1 + e)) (popped e)) _ (line_parts core (1 + e)) _ (map (part_in core (1 + e)) (armed s)) (receives e) (pops_same e) (lines e) (arms_same e s both.0)))
          (ap (filter (is_of_stream s)) (sends w)) (closes w s) (old.order e w s both.0 both.1)
      | inr fresh ↦
          let no_arm : armed s ≡ [] = old.untaken s fresh.0 in
          record {
            gone = [];
            few = omega arith;
            whole =
                append-nil (course new e s (popped e) (armed s)) ∙ ap (course new e s (popped e)) no_arm
                ∙ ap (filter (is_of_stream s)) (four_same _ (seat_of core e).received _ (map (part_in core (1 + e)) (popped e)) _ (line_parts core (1 + e)) [] [] (receives e) (pops_same e) (lines e) refl)
                ∙ none_on_way core s e (popped e) sound fresh.0 fresh.1
                ∙ sym (ap (filter (is_of_stream s)) (sends w) ∙ none_sent core s w sound fresh.0);
            complete = λ _. refl;
          }
    ];
  }

-- ---- an item that is no part on its way

module _ (core new : Core) (queue item : ℕ) (now : Item) (sets : SetsItem core new queue item now)
    (apart : (e : ℕ) → 1 + e ≡ queue → ((item_of core queue item).tag ≡ 0) × (entries_of item (queue_of core queue).line ≡ 0))
    (lines : (e : ℕ) → (queue_of new (1 + e)).line ≡ (queue_of core (1 + e)).line) where
  touched_tag : (e x : ℕ) → (item_of core (1 + e) x).tag ≢ 0 → item_of new (1 + e) x ≡ item_of core (1 + e) x
  touched_tag e x tagged = item_kept core new queue item now sets (1 + e) x (λ same_queue same.
      tagged (ap (λ (n : ℕ). (item_of core n x).tag) same_queue ∙ ap (λ (n : ℕ). (item_of core queue n).tag) same ∙ (apart e same_queue).0))

  touched_lines : (e : ℕ) → line_parts new (1 + e) ≡ line_parts core (1 + e)
  touched_lines e = ap (map (λ (x : Entry). part_in new (1 + e) x.item)) (lines e) ∙ (elim (cases_eq (1 + e) queue) [
    | inl this ↦ line_kept (part_in new (1 + e)) (part_in core (1 + e)) item (queue_of core (1 + e)).line (subst (λ (n : ℕ). entries_of item (queue_of core n).line ≡ 0) (sym this) (apart e this).1) (λ i other. part_kept core new queue item now sets (1 + e) i (λ _. other))
    | inr other ↦ map_all (λ (x : Entry). part_in new (1 + e) x.item) (λ (x : Entry). part_in core (1 + e) x.item) (queue_of core (1 + e)).line (λ x. part_kept core new queue item now sets (1 + e) x.item (λ is. absurd (other is)))
  ])

far_from_back : (core : Core) (queue item e : ℕ) → queue ≡ 0 → 1 + e ≡ queue → ((item_of core queue item).tag ≡ 0) × (entries_of item (queue_of core queue).line ≡ 0)
far_from_back core queue item e line is = absurd (omega (arith, line, is))

no_word : (b : Bool) → (b && false) ≡ false
no_word true = refl
no_word false = refl

free_item : (core : Core) (queue item : ℕ) → IsSound core → first_item (queue_of core queue).free ≡ item → item < 2 ^ 32 → ((item_of core queue item).tag ≡ 0) × (entries_of item (queue_of core queue).line ≡ 0)
free_item core queue item sound first low =
    let held = sound.held.queues queue in
    let both : (has_item (queue_of core queue) item ≡ true) × (is_in_free_list (item_of core queue item).whereabouts ≡ true) =
    and_parts _ _ (word_of_free _ (entries_of item (queue_of core queue).free) (sym (held.free item)) (first_counts (queue_of core queue).free item first low)) in
    let is : (item_of core queue item).whereabouts ≡ InFreeList = free_word _ both.1 in
    (held.untagged item is, held.line item ∙ ap (λ (w : Whereabouts). one_if (has_item (queue_of core queue) item && is_in_line w)) is ∙ ap one_if (no_word (has_item (queue_of core queue) item)))

-- ---- steps without a note, and with one that is no one's part

quiet_same : (popped armed : ℕ → List ℕ) (core new : Core) → IsSound core → PartsInOrder popped armed core → ((k : ℕ) → role_of new k ≡ role_of core k)
    → ((e x : ℕ) → (item_of core (1 + e) x).tag ≢ 0 → item_of new (1 + e) x ≡ item_of core (1 + e) x) → ((e : ℕ) → line_parts new (1 + e) ≡ line_parts core (1 + e)) → new.seats ≡ core.seats → PartsInOrder popped armed new
quiet_same popped armed core new sound old roles by_tag lines same =
    let at : (P : SeatLists → ℕ) (k : ℕ) → P (seat_of new k) ≡ P (seat_of core k) = λ P k. ap (λ (l : List SeatLists). P (get_or l k no_seat)) same in
    quiet popped armed core new sound old roles by_tag lines
    (λ e. ap (λ (l : List SeatLists). (get_or l e no_seat).received) same) (λ w. ap (λ (l : List SeatLists). (get_or l w no_seat).sent) same)
    (λ w s. at (λ l. weigh (is_number s) l.closed) w) (λ s. omega (arith, ap (λ (l : List SeatLists). weigh (λ x. weigh (is_number s) (taken x)) l) same))
    (λ e s posts. inl (omega (arith, posts, at (λ l. weigh (is_number s) l.posted) e)))
    (λ e w s posts takes. inl (omega (arith, posts, at (λ l. weigh (is_number s) l.posted) e), omega (arith, takes, at (λ l. weigh (is_number s) l.taken) w)))

quiet_note : (popped armed : ℕ → List ℕ) (core new : Core) → IsSound core → PartsInOrder popped armed core → ((k : ℕ) → role_of new k ≡ role_of core k)
    → ((e x : ℕ) → (item_of core (1 + e) x).tag ≢ 0 → item_of new (1 + e) x ≡ item_of core (1 + e) x) → ((e : ℕ) → line_parts new (1 + e) ≡ line_parts core (1 + e))
    → (seat : ℕ) (note : Note) → Adds core new seat note → ((l : SeatLists) → (noted note l).received ≡ l.received) → ((l : SeatLists) → (noted note l).sent ≡ l.sent)
    → ((l : SeatLists) → (noted note l).posted ≡ l.posted) → ((l : SeatLists) → (noted note l).taken ≡ l.taken) → ((l : SeatLists) → (noted note l).closed ≡ l.closed) → PartsInOrder popped armed new
quiet_note popped armed core new sound old roles by_tag lines seat note adds r s p t c =
    let posts_stay : Stays posted core new = stays posted core new seat note adds p in
    let takes_stay : Stays taken core new = stays taken core new seat note adds t in
    let closes_stay : Stays closed core new = stays closed core new seat note adds c in
    let receives : PartsStay received core new = parts_stay received core new seat note adds r in
    let sends : PartsStay sent core new = parts_stay sent core new seat note adds s in
    quiet popped armed core new sound old roles by_tag lines receives.each sends.each closes_stay.each (λ n. omega (arith, takes_stay.all n))
    (λ e n posts. inl (omega (arith, posts, posts_stay.each e n)))
    (λ e w n posts takes. inl (omega (arith, posts, posts_stay.each e n), omega (arith, takes, takes_stay.each w n)))

-- ---- a stream that is posted, and one that is taken

is_fresh : (core : Core) (seat queue item stream : ℕ) → IsSound core → queue ≡ 0 → seat < length core.seats → may_arm core seat queue item stream ≡ None → by_all taken core stream ≡ 0
unfolding may_arm may_post
is_fresh core seat queue item stream sound line there met =
    let post_met : may_post core seat queue item stream ≡ None = rw (eq-eqb queue 0 line) at met in
    let tests = and_parts _ _ (test_of _ _ _ _ post_met) in
    let rest = and_parts _ _ tests.1 in
    let has_drawn : 1 ≤ by_seat drawn core seat stream = has_counts stream (seat_of core seat).drawn tests.0 in
    let no_post : by_seat posted core seat stream ≡ 0 = has_not_counts stream (seat_of core seat).posted (not_true _ rest.0) in
    let none_posted : by_all posted core stream ≡ 0 = omega (arith, all_less_at posted drawn core stream seat there (λ k. sound.streams.posted_by_drawer k stream), drawn_at_most_once core sound.streams stream, has_drawn, no_post) in
    omega (arith, none_posted, sound.streams.one_state stream (drawn_some core seat stream sound.streams has_drawn))
  where
    not_true : (b : Bool) → not b ≡ true → b ≡ false
    not_true true is = absurd (cc is)
    not_true false is = refl

posted_order : (popped armed : ℕ → List ℕ) (core new : Core) → IsSound core → PartsInOrder popped armed core → ((k : ℕ) → role_of new k ≡ role_of core k)
    → ((e x : ℕ) → (item_of core (1 + e) x).tag ≢ 0 → item_of new (1 + e) x ≡ item_of core (1 + e) x) → ((e : ℕ) → line_parts new (1 + e) ≡ line_parts core (1 + e))
    → (seat stream : ℕ) → Adds core new seat (Posted stream) → by_all taken core stream ≡ 0 → PartsInOrder popped armed new
posted_order popped armed core new sound old roles by_tag lines seat stream adds fresh =
    let g : Grows posted core new seat stream = grows posted core new seat (Posted stream) stream adds (λ l. refl) in
    let takes_stay : Stays taken core new = stays taken core new seat (Posted stream) adds (λ l. refl) in
    let closes_stay : Stays closed core new = stays closed core new seat (Posted stream) adds (λ l. refl) in
    let receives : PartsStay received core new = parts_stay received core new seat (Posted stream) adds (λ l. refl) in
    let sends : PartsStay sent core new = parts_stay sent core new seat (Posted stream) adds (λ l. refl) in
    let before : (e s : ℕ) → s ≢ stream → by_seat posted new e s ≡ by_seat posted core e s = λ e s other. elim (cases_eq e seat) [
      | inl this ↦ omega (arith, ap (λ (n : ℕ). by_seat posted new n s) this, ap (λ (n : ℕ). by_seat posted core n s) this, g.here s, is_number_other s stream (λ is. other (sym is)))
      | inr away ↦ g.elsewhere e s away
    ] in
    quiet popped armed core new sound old roles by_tag lines receives.each sends.each closes_stay.each (λ n. omega (arith, takes_stay.all n))
    (λ e s posts. elim (cases_eq s stream) [
      | inl this ↦ inr (ap (by_all taken core) this ∙ fresh)
      | inr other ↦ inl (omega (arith, posts, before e s other))
    ])
    (λ e w s posts takes. elim (cases_eq s stream) [
      | inl this ↦ absurd (omega (arith, takes, takes_stay.each w s, seat_in_all taken core w s refl, ap (by_all taken core) this, fresh))
      | inr other ↦ inl (omega (arith, posts, before e s other), omega (arith, takes, takes_stay.each w s))
    ])

taken_order : (popped armed : ℕ → List ℕ) (core new : Core) → IsSound core → PartsInOrder popped armed core → ((k : ℕ) → role_of new k ≡ role_of core k)
    → ((e x : ℕ) → (item_of core (1 + e) x).tag ≢ 0 → item_of new (1 + e) x ≡ item_of core (1 + e) x) → ((e : ℕ) → line_parts new (1 + e) ≡ line_parts core (1 + e))
    → (seat stream : ℕ) → Adds core new seat (Taken stream) → ((s : ℕ) → by_all taken new s ≤ 1) → PartsInOrder popped armed new
taken_order popped armed core new sound old roles by_tag lines seat stream adds once =
    let g : Grows taken core new seat stream = grows taken core new seat (Taken stream) stream adds (λ l. refl) in
    let posts_stay : Stays posted core new = stays posted core new seat (Taken stream) adds (λ l. refl) in
    let closes_stay : Stays closed core new = stays closed core new seat (Taken stream) adds (λ l. refl) in
    let receives : PartsStay received core new = parts_stay received core new seat (Taken stream) adds (λ l. refl) in
    let sends : PartsStay sent core new = parts_stay sent core new seat (Taken stream) adds (λ l. refl) in
    quiet popped armed core new sound old roles by_tag lines receives.each sends.each closes_stay.each (λ n. omega (arith, g.all n))
    (λ e s posts. inl (omega (arith, posts, posts_stay.each e s)))
    (λ e w s posts' takes.
    let posts : 1 ≤ by_seat posted core e s = omega (arith, posts', posts_stay.each e s) in
    elim (cases_lt 0 (by_seat taken core w s)) [
      | inl before ↦ inl (posts, omega (arith, before))
      | inr not_before ↦ elim (cases_eq w seat) [
        | inr away ↦ absurd (omega (arith, takes, g.elsewhere w s away, not_before))
        | inl this ↦
            let more : 1 ≤ is_number s stream = omega (arith, takes, not_before, ap (λ (n : ℕ). by_seat taken new n s) this, ap (λ (n : ℕ). by_seat taken core n s) this, g.here s) in
            inr (omega (arith, more, g.all s, once s), posted_some core sound.streams s (omega (arith, posts, seat_in_all posted core e s refl)))
      ]
    ])

-- ---- the steps

pub others_in_order : OthersInOrder
unfolding after_step with_note with_item with_run_owner with_in_line with_free without_first_free without_first_in_line with_owner with_opened conditions_by
others_in_order popped armed core (Draw seat stream) sound old other met =
    quiet_note popped armed core (after_step core (Draw seat stream)) sound old (λ k. refl) (λ e x _. refl) (λ e. refl) seat (Drawn stream)
    (adds_after_draw core seat stream (engine_there core seat sound.streams (each_met (conditions_of core (Draw seat stream)) met 0))) (λ l. refl) (λ l. refl) (λ l. refl) (λ l. refl) (λ l. refl)
others_in_order popped armed core (Claim seat segment chunk) sound old other met = quiet_same popped armed core (after_step core (Claim seat segment chunk)) sound old (λ k. refl) (λ e x _. refl) (λ e. refl) refl
others_in_order popped armed core (Release seat segment chunk) sound old other met = quiet_same popped armed core (after_step core (Release seat segment chunk)) sound old (λ k. refl) (λ e x _. refl) (λ e. refl) refl
others_in_order popped armed core (Open seat count) sound old other met = quiet_same popped armed core (after_step core (Open seat count)) sound old (λ k. refl) (λ e x _. refl) (λ e. refl) refl
others_in_order popped armed core (GetItem seat queue item place) sound old other met =
    let conditions = conditions_of core (GetItem seat queue item place) in
    let new : Core = after_step core (GetItem seat queue item place) in
    let now : Item = record (item_of core queue item) { whereabouts = WithSeat seat } in
    let inside = fill_inside core seat queue item (each_met conditions met 1) in
    let low = item_is_low core queue item sound.held.shape (queue_there core queue item inside) inside in
    let free = free_item core queue item sound (first_free core queue item (each_met conditions met 3)) low in
    let sets : SetsItem core new queue item now = sets_after_get core seat queue item place inside in
    let first : Queue → Queue = λ (q : Queue). record q { free = drop 1 q.free } in
    let second : Queue → Queue = λ (q : Queue). record q { items = set q.items item now } in
    let lines : (e : ℕ) → (queue_of new (1 + e)).line ≡ (queue_of core (1 + e)).line = λ e.
    part_stays (λ (q : Queue). q.line) queue second (change_at queue first core.queues) (1 + e) no_queue (λ q. refl) ∙ part_stays (λ (q : Queue). q.line) queue first core.queues (1 + e) no_queue (λ q. refl) in
    quiet_same popped armed core new sound old (λ k. refl) (touched_tag core new queue item now sets (λ e _. free) lines) (touched_lines core new queue item now sets (λ e _. free) lines) refl
others_in_order popped armed core (SetRun seat queue item run) sound old other met =
    let conditions = conditions_of core (SetRun seat queue item run) in
    let new : Core = after_step core (SetRun seat queue item run) in
    let now : Item = record (item_of core queue item) { run = run } in
    let hand = seat_has_it core seat queue item (seat_is_low core seat sound.held.shape (either_is_there core seat (each_met conditions met 0))) (each_met conditions met 2) in
    let free : ((item_of core queue item).tag ≡ 0) × (entries_of item (queue_of core queue).line ≡ 0) = (tag_is core queue item 0 (each_met conditions met 3), not_in_line core seat queue item sound hand) in
    let sets : SetsItem core new queue item now = sets_after_run core seat queue item run (fill_inside core seat queue item (each_met conditions met 1)) in
    let lines : (e : ℕ) → (queue_of new (1 + e)).line ≡ (queue_of core (1 + e)).line = λ e. part_stays (λ (q : Queue). q.line) queue (λ (q : Queue). record q { items = set q.items item now }) core.queues (1 + e) no_queue (λ q. refl) in
    quiet_same popped armed core new sound old (λ k. refl) (touched_tag core new queue item now sets (λ e _. free) lines) (touched_lines core new queue item now sets (λ e _. free) lines) refl
others_in_order popped armed core (SetPart seat queue item part) sound old other met =
    let conditions = conditions_of core (SetPart seat queue item part) in
    let new : Core = after_step core (SetPart seat queue item part) in
    let now : Item = record (item_of core queue item) { part = part } in
    let hand = seat_has_it core seat queue item (seat_is_low core seat sound.held.shape (either_is_there core seat (each_met conditions met 0))) (each_met conditions met 2) in
    let free : ((item_of core queue item).tag ≡ 0) × (entries_of item (queue_of core queue).line ≡ 0) = (tag_is core queue item 0 (each_met conditions met 3), not_in_line core seat queue item sound hand) in
    let sets : SetsItem core new queue item now = sets_after_part core seat queue item part (fill_inside core seat queue item (each_met conditions met 1)) in
    let lines : (e : ℕ) → (queue_of new (1 + e)).line ≡ (queue_of core (1 + e)).line = λ e. part_stays (λ (q : Queue). q.line) queue (λ (q : Queue). record q { items = set q.items item now }) core.queues (1 + e) no_queue (λ q. refl) in
    quiet_same popped armed core new sound old (λ k. refl) (touched_tag core new queue item now sets (λ e _. free) lines) (touched_lines core new queue item now sets (λ e _. free) lines) refl
others_in_order popped armed core (Arm seat queue item stream) sound old other met =
    let conditions = conditions_of core (Arm seat queue item stream) in
    let new : Core = after_step core (Arm seat queue item stream) in
    let now : Item = record (item_of core queue item) { tag = stream; stream = stream } in
    let there = seat_there core seat sound.streams (each_met conditions met 0) in
    let sets : SetsItem core new queue item now = sets_after_arm core seat queue item stream (fill_inside core seat queue item (each_met conditions met 1)) in
    let is_note : armed_note queue stream (item_of core queue item) ≡ Posted stream = rw (eq-eqb queue 0 other) refl in
    let adds : Adds core new seat (Posted stream) = adds_after_arm core seat queue item stream (Posted stream) there is_note in
    let lines : (e : ℕ) → (queue_of new (1 + e)).line ≡ (queue_of core (1 + e)).line = λ e. part_stays (λ (q : Queue). q.line) queue (λ (q : Queue). record q { items = set q.items item now }) core.queues (1 + e) no_queue (λ q. refl) in
    let far : (e : ℕ) → 1 + e ≡ queue → ((item_of core queue item).tag ≡ 0) × (entries_of item (queue_of core queue).line ≡ 0) = λ e is. far_from_back core queue item e other is in
    posted_order popped armed core new sound old (λ k. refl) (touched_tag core new queue item now sets far lines) (touched_lines core new queue item now sets far lines) seat stream adds
    (is_fresh core seat queue item stream sound other there (each_met conditions met 6))
others_in_order popped armed core (Push seat queue item place) sound old other met =
    let conditions = conditions_of core (Push seat queue item place) in
    let new : Core = after_step core (Push seat queue item place) in
    let now : Item = record (item_of core queue item) { whereabouts = InLine } in
    let entry : Entry = record { place = place; item = item } in
    let sets : SetsItem core new queue item now = sets_after_push core seat queue item place (fill_inside core seat queue item (each_met conditions met 1)) in
    let first : Queue → Queue = λ (q : Queue). record q { line = q.line ++ entry ∷ []; next_line = place + 1 } in
    let second : Queue → Queue = λ (q : Queue). record q { items = set q.items item now } in
    let lines : (e : ℕ) → (queue_of new (1 + e)).line ≡ (queue_of core (1 + e)).line = λ e. ap (λ (q : Queue). q.line) (twice_elsewhere core.queues queue first second (1 + e) (λ is. absurd (omega (arith, is, other)))) in
    let far : (e : ℕ) → 1 + e ≡ queue → ((item_of core queue item).tag ≡ 0) × (entries_of item (queue_of core queue).line ≡ 0) = λ e is. far_from_back core queue item e other is in
    quiet_same popped armed core new sound old (λ k. refl) (touched_tag core new queue item now sets far lines) (touched_lines core new queue item now sets far lines) refl
others_in_order popped armed core (Pop seat queue item place) sound old other met =
    let conditions = conditions_of core (Pop seat queue item place) in
    let new : Core = after_step core (Pop seat queue item place) in
    let now : Item = record (item_of core queue item) { whereabouts = WithSeat seat } in
    let sets : SetsItem core new queue item now = sets_after_pop core seat queue item place (empty_inside core seat queue item (each_met conditions met 1)) in
    let first : Queue → Queue = λ (q : Queue). record q { line = drop 1 q.line } in
    let second : Queue → Queue = λ (q : Queue). record q { items = set q.items item now } in
    let lines : (e : ℕ) → (queue_of new (1 + e)).line ≡ (queue_of core (1 + e)).line = λ e. ap (λ (q : Queue). q.line) (twice_elsewhere core.queues queue first second (1 + e) (λ is. absurd (omega (arith, is, other)))) in
    let far : (e : ℕ) → 1 + e ≡ queue → ((item_of core queue item).tag ≡ 0) × (entries_of item (queue_of core queue).line ≡ 0) = λ e is. far_from_back core queue item e other is in
    quiet_same popped armed core new sound old (λ k. refl) (touched_tag core new queue item now sets far lines) (touched_lines core new queue item now sets far lines) refl
others_in_order popped armed core (Settle seat queue item stream) sound old other met =
    let conditions = conditions_of core (Settle seat queue item stream) in
    let new : Core = after_step core (Settle seat queue item stream) in
    let now : Item = record (item_of core queue item) { tag = 0 } in
    let there = seat_there core seat sound.streams (each_met conditions met 0) in
    let sets : SetsItem core new queue item now = sets_after_settle core seat queue item stream (use_inside core queue item (each_met conditions met 1)) in
    let lines : (e : ℕ) → (queue_of new (1 + e)).line ≡ (queue_of core (1 + e)).line = λ e. part_stays (λ (q : Queue). q.line) queue (λ (q : Queue). record q { items = set q.items item now }) core.queues (1 + e) no_queue (λ q. refl) in
    let far : (e : ℕ) → 1 + e ≡ queue → ((item_of core queue item).tag ≡ 0) × (entries_of item (queue_of core queue).line ≡ 0) = λ e is. far_from_back core queue item e other is in
    elim (cases_Bool (role_of core seat == 0)) [
      | inl engine ↦
          let is_note : settled_note (role_of core seat == 0) queue stream (item_of core queue item) ≡ Cancelled stream = rw (engine, eq-eqb queue 0 other) refl in
          quiet_note popped armed core new sound old (λ k. refl) (touched_tag core new queue item now sets far lines) (touched_lines core new queue item now sets far lines) seat (Cancelled stream)
          (adds_after_settle core seat queue item stream (Cancelled stream) there is_note) (λ l. refl) (λ l. refl) (λ l. refl) (λ l. refl) (λ l. refl)
      | inr worker ↦
          let is_note : settled_note (role_of core seat == 0) queue stream (item_of core queue item) ≡ Taken stream = rw (worker, eq-eqb queue 0 other) refl in
          taken_order popped armed core new sound old (λ k. refl) (touched_tag core new queue item now sets far lines) (touched_lines core new queue item now sets far lines) seat stream
          (adds_after_settle core seat queue item stream (Taken stream) there is_note) (taken_at_most_once new (keeps_sound core (Settle seat queue item stream) sound met).streams)
    ]
others_in_order popped armed core (GiveItem seat queue item place) sound old other met =
    let conditions = conditions_of core (GiveItem seat queue item place) in
    let new : Core = after_step core (GiveItem seat queue item place) in
    let now : Item = record (item_of core queue item) { whereabouts = InFreeList } in
    let entry : Entry = record { place = place; item = item } in
    let hand = seat_has_it core seat queue item (seat_is_low core seat sound.held.shape (either_is_there core seat (each_met conditions met 0))) (each_met conditions met 2) in
    let free : ((item_of core queue item).tag ≡ 0) × (entries_of item (queue_of core queue).line ≡ 0) = (tag_is core queue item 0 (each_met conditions met 3), not_in_line core seat queue item sound hand) in
    let sets : SetsItem core new queue item now = sets_after_give core seat queue item place (use_inside core queue item (each_met conditions met 1)) in
    let first : Queue → Queue = λ (q : Queue). record q { free = q.free ++ entry ∷ []; next_free = place + 1 } in
    let second : Queue → Queue = λ (q : Queue). record q { items = set q.items item now } in
    let lines : (e : ℕ) → (queue_of new (1 + e)).line ≡ (queue_of core (1 + e)).line = λ e.
    part_stays (λ (q : Queue). q.line) queue second (change_at queue first core.queues) (1 + e) no_queue (λ q. refl) ∙ part_stays (λ (q : Queue). q.line) queue first core.queues (1 + e) no_queue (λ q. refl) in
    quiet_same popped armed core new sound old (λ k. refl) (touched_tag core new queue item now sets (λ e _. free) lines) (touched_lines core new queue item now sets (λ e _. free) lines) refl
others_in_order popped armed core (Abandon seat stream) sound old other met =
    quiet_note popped armed core (after_step core (Abandon seat stream)) sound old (λ k. refl) (λ e x _. refl) (λ e. refl) seat (Abandoned stream)
    (adds_after_abandon core seat stream (engine_there core seat sound.streams (each_met (conditions_of core (Abandon seat stream)) met 0))) (λ l. refl) (λ l. refl) (λ l. refl) (λ l. refl) (λ l. refl)

-- ---- a worker takes its last part back

filter_few : (test : Part → Bool) (p : Part) → length (filter test (p ∷ [])) ≤ 1
filter_few test p =
    elim (cases_Bool (test p)) [
      | inl passes ↦ rw passes (omega arith)
      | inr fails ↦ rw fails (omega arith)
    ]

pub close_in_order : CloseInOrder
unfolding after_step with_item with_note with_run_owner
close_in_order popped armed armed' core sound old seat engine item stream role hand tag nonzero puts =
    let queue : ℕ = 1 + engine in
    let new : Core = after_step core (Settle seat queue item stream) in
    let now : Item = record (item_of core queue item) { tag = 0 } in
    let inside = hand_is_there core seat queue item hand in
    let sets : SetsItem core new queue item now = sets_after_settle core seat queue item stream inside in
    let there : seat < length core.seats = omega (arith, sound.streams.seats, role_is_there core seat (omega (arith, role))) in
    let adds : Adds core new seat (Closed stream) = adds_after_settle core seat queue item stream (Closed stream) there (closed_back (role_of core seat == 0) queue stream (item_of core queue item) (ne_eqb _ _ (omega (arith, role))) (omega arith)) in
    let closes : Grows closed core new seat stream = grows closed core new seat (Closed stream) stream adds (λ l. refl) in
    let posts_stay : Stays posted core new = stays posted core new seat (Closed stream) adds (λ l. refl) in
    let takes_stay : Stays taken core new = stays taken core new seat (Closed stream) adds (λ l. refl) in
    let receives : PartsStay received core new = parts_stay received core new seat (Closed stream) adds (λ l. refl) in
    let sends : PartsStay sent core new = parts_stay sent core new seat (Closed stream) adds (λ l. refl) in
    let beside : (q i : ℕ) → (q ≡ queue → i ≢ item) → part_in new q i ≡ part_in core q i = part_kept core new queue item now sets in
    let armed_item : (item_of core queue item).tag ≢ 0 = λ zero_tag. nonzero (sym tag ∙ zero_tag) in
    let poster : 1 ≤ by_seat posted core engine stream = subst (λ (s : ℕ). 1 ≤ by_seat posted core engine s) tag (sound.parts.to_poster engine item armed_item) in
    let taker : 1 ≤ by_seat taken core seat stream = subst (λ (s : ℕ). 1 ≤ by_seat taken core seat s) tag (sound.parts.sent_by_taker seat (item_of core queue item).tag (sound.parts.held_is_own seat engine item role hand armed_item)) in
    let pop_away : (e x : ℕ) → IsPopped core e x → 1 + e ≡ queue → x ≢ item = λ e x is same_queue same.
    let this : e ≡ engine = omega (arith, same_queue) in
    let theirs : IsInHand core e queue item = subst (λ (n : ℕ). IsInHand core e queue n) same (subst (λ (n : ℕ). IsInHand core e (1 + n) x) this is.hand) in
    absurd (omega (arith, role, is.role, ap (role_of core) (hands_differ core queue item e seat theirs hand))) in
    let arm_away : (e s x : ℕ) → s ≢ stream → IsUnpushed core e s x → 1 + e ≡ queue → x ≢ item = λ e s x other is same_queue same.
    other (sym is.tag ∙ ap (λ (n : ℕ). (item_of core n x).tag) same_queue ∙ ap (λ (n : ℕ). (item_of core queue n).tag) same ∙ tag) in
    let pop_kept : (e : ℕ) → map (part_in new (1 + e)) (popped e) ≡ map (part_in core (1 + e)) (popped e) = λ e.
    map_kept (part_in new (1 + e)) (part_in core (1 + e)) (popped e) (each_gives (IsPopped core e) (λ x. part_in new (1 + e) x ≡ part_in core (1 + e) x) (popped e) (λ x is. beside (1 + e) x (pop_away e x is)) (old.pops e)) in
    let entries : (e : ℕ) → (queue_of new (1 + e)).line ≡ (queue_of core (1 + e)).line = λ e. part_stays (λ (q : Queue). q.line) queue (λ (q : Queue). record q { items = set q.items item now }) core.queues (1 + e) no_queue (λ q. refl) in
    let line_same : (e : ℕ) → line_parts new (1 + e) ≡ line_parts core (1 + e) = λ e. ap (map (λ (x : Entry). part_in new (1 + e) x.item)) (entries e) ∙ (elim (cases_eq e engine) [
      | inl this ↦ line_kept (part_in new (1 + e)) (part_in core (1 + e)) item (queue_of core (1 + e)).line (subst (λ (n : ℕ). entries_of item (queue_of core (1 + n)).line ≡ 0) (sym this) (not_in_line core seat queue item sound hand)) (λ i other. beside (1 + e) i (λ _. other))
      | inr other ↦ map_all (λ (x : Entry). part_in new (1 + e) x.item) (λ (x : Entry). part_in core (1 + e) x.item) (queue_of core (1 + e)).line (λ x. beside (1 + e) x.item (λ is. absurd (other (omega (arith, is)))))
    ]) in
    record {
      one = old.one;
      pops = λ e. popped_stays core new queue item now sets e (λ k. refl) (pop_away e) (popped e) (old.pops e);
      arms = λ e s posts. elim (cases_eq s stream) [
        | inl this ↦ subst (Each (IsUnpushed new e s)) (sym puts.after ∙ ap armed' (sym this)) tt
        | inr other ↦ subst (Each (IsUnpushed new e s)) (sym (puts.others s other))
            (unpushed_stays core new queue item now sets e s (λ k. refl) (λ x. arm_away e s x other) (armed s) (old.arms e s (omega (arith, posts, posts_stay.each e s))))
      ];
      untaken = λ s off. elim (cases_eq s stream) [
        | inl this ↦ ap armed' this ∙ puts.after
        | inr other ↦ puts.others s other ∙ old.untaken s (sym (takes_stay.all s) ∙ off)
      ];
      order = λ e w s posts' takes'.
          let posts : 1 ≤ by_seat posted core e s = omega (arith, posts', posts_stay.each e s) in
          let takes : 1 ≤ by_seat taken core w s = omega (arith, takes', takes_stay.each w s) in
          let o : IsOrdered core e w s (popped e) (armed s) = old.order e w s posts takes in
          let f : List Part → List Part = filter (is_of_stream s) in
          let r : List Part = (seat_of core e).received in
          let po : List Part = map (part_in core (1 + e)) (popped e) in
          let l : List Part = line_parts core (1 + e) in
          elim (cases_eq s stream) [
            | inr other ↦
                let arm : map (part_in new (1 + e)) (armed' s) ≡ map (part_in core (1 + e)) (armed s) = ap (map (part_in new (1 + e))) (puts.others s other)
                ∙ map_kept (part_in new (1 + e)) (part_in core (1 + e)) (armed s)
                (each_gives (IsUnpushed core e s) (λ x. part_in new (1 + e) x ≡ part_in core (1 + e) x) (armed s) (λ x is. beside (1 + e) x (arm_away e s x other is)) (old.arms e s posts)) in
                let same_closed : by_seat closed new w s ≡ by_seat closed core w s = elim (cases_eq w seat) [
                  | inl this ↦ omega (arith, ap (λ (n : ℕ). by_seat closed new n s) this, ap (λ (n : ℕ). by_seat closed core n s) this, closes.here s, is_number_other s stream (λ is. other (sym is)))
                  | inr away ↦ closes.elsewhere w s away
                ] in
                carried core new e w s (popped e) (popped e) (armed s) (armed' s)
                (ap f (four_same _ r _ po _ l _ (map (part_in core (1 + e)) (armed s)) (receives.each e) (pop_kept e) (line_same e) arm)) (ap f (sends.each w)) same_closed o
            | inl this ↦
                let is_w : w ≡ seat = one_seat taken core s w seat refl (taken_at_most_once core sound.streams s) takes (subst (λ (n : ℕ). 1 ≤ by_seat taken core seat n) (sym this) taker) in
                let a : List Part = map (part_in core (1 + e)) (armed s) in
                let no_arm : map (part_in new (1 + e)) (armed' s) ≡ [] = ap (map (part_in new (1 + e))) (ap armed' this ∙ puts.after) in
                let now_course : course new e s (popped e) (armed' s) ≡ f (r ++ (po ++ l)) =
                ap f (four_same _ r _ po _ l _ [] (receives.each e) (pop_kept e) (line_same e) no_arm ∙ ap (λ (xs : List Part). r ++ (po ++ xs)) (append-nil l)) in
                let was_course : course core e s (popped e) (armed s) ≡ f (r ++ (po ++ l)) ++ f a =
                ap f (ap (λ (xs : List Part). r ++ xs) (sym (append_assoc po l a)) ∙ sym (append_assoc r (po ++ l) a)) ∙ filter-append (is_of_stream s) (r ++ (po ++ l)) a in
                let unclosed : by_seat closed core w s ≡ 0 = omega (arith, seat_in_all closed core w s refl, ap (by_all closed core) this, ap (by_all closed core) tag, held_unclosed core seat engine item sound.parts role hand armed_item) in
                let one : a ≡ part_in core (1 + e) item ∷ [] = ap (map (part_in core (1 + e))) (ap armed this ∙ puts.before) in
                record {
                  gone = f a ++ o.gone;
                  few = omega (arith, length-append (f a) o.gone, ap (length {A = Part}) (o.complete unclosed), ap (λ (xs : List Part). length (f xs)) one, filter_few (is_of_stream s) (part_in core (1 + e) item));
                  whole =
                      ap (λ (xs : List Part). xs ++ (f a ++ o.gone)) now_course ∙ sym (append_assoc (f (r ++ (po ++ l))) (f a) o.gone)
                      ∙ ap (λ (xs : List Part). xs ++ o.gone) (sym was_course) ∙ o.whole ∙ sym (ap f (sends.each w));
                  complete = λ off. absurd (omega (arith, off, ap (λ (n : ℕ). by_seat closed new n s) is_w, ap (by_seat closed new seat) this, closes.here stream, is_number_same stream));
                }
          ];
    }

-- ---- at first

the_same : {X : Type 0} (n i : ℕ) (x : X) → get_or (replicate n x) i x ≡ x
the_same n i x =
    elim (cases_lt i n) [
      | inl inside ↦ get_or-replicate n i x x inside
      | inr past ↦ get_or_past (replicate n x) i x (omega (arith, length-replicate n x))
    ]

pub in_order_at_first : InOrderAtFirst
in_order_at_first shape = record {
  one = λ e. omega arith;
  pops = λ e. tt;
  arms = λ e s posts. tt;
  untaken = λ s off. refl;
  order = λ e w s posts takes. absurd (omega (arith, posts, ap (λ (l : SeatLists). weigh (is_number s) l.posted) (the_same (shape.engines + shape.workers) e no_seat)));
}
