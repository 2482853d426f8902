-- The order of parts at each step of a back queue.
use Rattle.std.proofs.Common.{ℕ, ◌+◌, ◌-◌, ◌^◌, ◌≡◌, ◌≢◌, ◌≤◌, ◌<◌, ◌==◌, ◌&&◌, inl, inr, Bool, true, false, List, [], ◌∷◌, ◌++◌, map, filter, drop, set, length, get_or, refl, sym, ap, ◌∙◌, subst, arith}
use Rattle.std.proofs.Math.Seq.{get_or-append_seam}
use Rattle.std.proofs.lemmas.Bool.{cases_eq, ltb-true, eq-eqb, ne_eqb, eqb-false, and_parts}
use Rattle.std.proofs.lemmas.List.{append-nil, append_assoc, map-append, get_or_append_left, length-append, nil_from_length}
use Rattle.std.proofs.lemmas.List.Elements.{filter-append}
use Rattle.unit_model.specs.Conditions.{has_stream, part_of}
use Rattle.unit_model.specs.Core.{no_queue, no_seat, queue_of, item_of, role_of, seat_of, first_item}
use Rattle.unit_model.specs.Effects.{after_step, with_note, with_item, with_run_owner, with_in_line, without_first_in_line}
use Rattle.unit_model.specs.Holding.{entries_of, has_item, is_in_line}
use Rattle.unit_model.specs.PartCounts.{is_of_stream, sent, sent_parts, received, no_part}
use Rattle.unit_model.specs.SoundStreams.{part_in}
use Rattle.unit_model.specs.Soundness.{IsSound}
use Rattle.unit_model.specs.StreamCounts.{by_seat, by_all, posted, taken, closed}
use Rattle.unit_model.specs.Weights.{one_if, is_number}
use Rattle.unit_model.specs.declared.machine.Core.{Core}
use Rattle.unit_model.specs.declared.machine.Entry.{Entry}
use Rattle.unit_model.specs.declared.machine.Item.{Item}
use Rattle.unit_model.specs.declared.machine.Note.TheVariants.{Sent, Received}
use Rattle.unit_model.specs.declared.machine.Part.{Part}
use Rattle.unit_model.specs.declared.machine.Queue.{Queue}
use Rattle.unit_model.specs.declared.machine.Step.TheVariants.{Arm, Push, Pop, Settle}
use Rattle.unit_model.specs.declared.machine.Whereabouts.{Whereabouts}
use Rattle.unit_model.specs.declared.machine.Whereabouts.TheVariants.{InLine, WithSeat}
use Rattle.unit_model.proofs.Changes.{any_none_at, part_stays}
use Rattle.unit_model.proofs.HeldItems.{word_of_free}
use Rattle.unit_model.proofs.ItemChanges.{SetsItem, each_item, item_here, queue_there}
use Rattle.unit_model.proofs.MetSteps.{role_is_there}
use Rattle.unit_model.proofs.PartLists.{taken_at_most_once, sent_parts_here, sent_parts_other}
use Rattle.unit_model.proofs.PartNotes.{PartsGrow, PartsStay, parts_grow, parts_stay}
use Rattle.unit_model.proofs.SeatNotes.{Adds, Stays, stays, has_counts, has_not_counts, one_seat, seat_in_all}
use Rattle.unit_model.proofs.StepFacts.{sets_after_arm, sets_after_push, sets_after_pop, sets_after_settle, adds_after_arm, adds_after_settle, armed_back, received_back}
use Rattle.unit_model.proofs.StreamPoints.{posted_some}
use Rattle.unit_model.proofs.StreamSteps.{posted_at_most_once}
use Rattle.unit_model.proofs.Weights.{is_number_same}
use Rattle.unit_model.proofs.Presence.{twice_here, twice_elsewhere, hand_is_there}
use Rattle.unit_model.specs.Premises.{Fills, IsInHand}
use Rattle.unit_model.specs.PartOrder.{Each, four, line_parts, all_parts, course, IsOrdered, IsPopped, IsUnpushed, Puts, ArmInOrder, PushInOrder, PopInOrder, SettleInOrder, ReceivedInOrder, LastEndsReceived, PoppedIsNext, received_parts}

-- ---- lists

pub each_gives : {X : Type 0} (P Q : X → Type 0) (xs : List X) → ((x : X) → P x → Q x) → Each P xs → Each Q xs
each_gives P Q [] gives old = tt
each_gives P Q (x ∷ xs) gives old = (gives x old.0, each_gives P Q xs gives old.1)

pub map_kept : {X Y : Type 0} (f g : X → Y) (xs : List X) → Each (λ x. f x ≡ g x) xs → map f xs ≡ map g xs
map_kept f g [] same = refl
map_kept f g (x ∷ xs) same = ap (λ y. y ∷ map f xs) same.0 ∙ ap (λ ys. g x ∷ ys) (map_kept f g xs same.1)

pub map_all : {X Y : Type 0} (f g : X → Y) (xs : List X) → ((x : X) → f x ≡ g x) → map f xs ≡ map g xs
map_all f g [] same = refl
map_all f g (x ∷ xs) same = ap (λ y. y ∷ map f xs) (same x) ∙ ap (λ ys. g x ∷ ys) (map_all f g xs same)

-- an item that isn't in a list is of no concern to it
pub line_kept : (f g : ℕ → Part) (item : ℕ) (entries : List Entry) → entries_of item entries ≡ 0 → ((i : ℕ) → i ≢ item → f i ≡ g i) → map (λ (e : Entry). f e.item) entries ≡ map (λ (e : Entry). g e.item) entries
line_kept f g item [] none same = refl
line_kept f g item (x ∷ xs) none same =
    let other : x.item ≢ item = λ is. absurd (omega (arith, none, ap (is_number item) is, is_number_same item)) in
    ap (λ y. y ∷ map (λ (e : Entry). f e.item) xs) (same x.item other) ∙ ap (λ ys. g x.item ∷ ys) (line_kept f g item xs (omega (arith, none)) same)

line_starts : (f : ℕ → Part) (entries : List Entry) (item : ℕ) → first_item entries ≡ item → item < 2 ^ 32 → f item ∷ map (λ (e : Entry). f e.item) (drop 1 entries) ≡ map (λ (e : Entry). f e.item) entries
line_starts f [] item is low = absurd (omega (arith, is, low))
line_starts f (x ∷ xs) item is low = ap (λ (n : ℕ). f n ∷ map (λ (e : Entry). f e.item) xs) (sym is)

pub first_counts : (entries : List Entry) (item : ℕ) → first_item entries ≡ item → item < 2 ^ 32 → 1 ≤ entries_of item entries
first_counts [] item is low = absurd (omega (arith, is, low))
first_counts (x ∷ xs) item is low = omega (arith, ap (is_number item) is, is_number_same item)

pub four_same : (r r' p p' l l' a a' : List Part) → r ≡ r' → p ≡ p' → l ≡ l' → a ≡ a' → four r p l a ≡ four r' p' l' a'
four_same r r' p p' l l' a a' er ep el ea =
    ap (λ x. four x p l a) er ∙ ap (λ x. four r' x l a) ep ∙ ap (λ x. four r' p' x a) el ∙ ap (λ x. four r' p' l' x) ea

-- where one list is written anew with one element at most, no list has more
few_stay : (lists lists' : ℕ → List ℕ) (key : ℕ) (old now : List ℕ) → Puts lists lists' key old now → length now ≤ 1 → ((k : ℕ) → length (lists k) ≤ 1) → (k : ℕ) → length (lists' k) ≤ 1
few_stay lists lists' key old now puts few before k =
    elim (cases_eq k key) [
      | inl this ↦ omega (arith, few, ap (length {A = ℕ}) (ap lists' this ∙ puts.after))
      | inr other ↦ omega (arith, before k, ap (length {A = ℕ}) (puts.others k other))
    ]

skipped : (test : Part → Bool) (x : Part) (xs ys : List Part) → test x ≡ false → filter test (xs ++ (x ∷ ys)) ≡ filter test (xs ++ ys)
skipped test x xs ys off =
    filter-append test xs (x ∷ ys) ∙ ap (λ zs. filter test xs ++ zs) (rw off refl) ∙ sym (filter-append test xs ys)

-- ---- where an item is

no_word : (b : Bool) → (b && false) ≡ false
no_word true = refl
no_word false = refl

pub not_in_line : (core : Core) (seat queue item : ℕ) → IsSound core → IsInHand core seat queue item → entries_of item (queue_of core queue).line ≡ 0
not_in_line core seat queue item sound hand =
    (sound.held.queues queue).line item ∙ ap (λ (w : Whereabouts). one_if (has_item (queue_of core queue) item && is_in_line w)) hand ∙ ap one_if (no_word (has_item (queue_of core queue) item))

is_in : (core : Core) (queue item : ℕ) → IsSound core → 1 ≤ entries_of item (queue_of core queue).line → (has_item (queue_of core queue) item ≡ true) × (is_in_line (item_of core queue item).whereabouts ≡ true)
is_in core queue item sound some =
    and_parts _ _ (word_of_free _ (entries_of item (queue_of core queue).line) (sym ((sound.held.queues queue).line item)) some)

pub hands_differ : (core : Core) (queue item one other : ℕ) → IsInHand core one queue item → IsInHand core other queue item → one ≡ other
hands_differ core queue item one other first second = let is : WithSeat one ≡ WithSeat other = sym first ∙ second in cc is

-- ---- the change of one item

module _ (core new : Core) (queue item : ℕ) (now : Item) (sets : SetsItem core new queue item now) where
  pub item_kept : (q i : ℕ) → (q ≡ queue → i ≢ item) → item_of new q i ≡ item_of core q i
  item_kept q i beside = each_item (λ it. it ≡ item_of core q i) core new queue item now sets q i (λ is_q is_i. absurd (beside is_q is_i)) (λ _. refl)

  pub part_kept : (q i : ℕ) → (q ≡ queue → i ≢ item) → part_in new q i ≡ part_in core q i
  part_kept q i beside = ap (λ (it : Item). part_of it.tag it) (item_kept q i beside)

  -- where the item's part stays too
  pub every_part : part_of now.tag now ≡ part_in core queue item → (q i : ℕ) → part_in new q i ≡ part_in core q i
  every_part same q i =
      each_item (λ it. part_of it.tag it ≡ part_in core q i) core new queue item now sets q i
      (λ is_q is_i. same ∙ ap (λ n. part_in core n item) (sym is_q) ∙ ap (part_in core q) (sym is_i)) (λ _. refl)

  pub popped_stays : (engine : ℕ) → ((k : ℕ) → role_of new k ≡ role_of core k) → ((x : ℕ) → IsPopped core engine x → 1 + engine ≡ queue → x ≢ item) → (xs : List ℕ) → Each (IsPopped core engine) xs → Each (IsPopped new engine) xs
  popped_stays engine roles beside xs old = each_gives (IsPopped core engine) (IsPopped new engine) xs (λ x is.
      let same : item_of new (1 + engine) x ≡ item_of core (1 + engine) x = item_kept (1 + engine) x (beside x is) in
      record {
        role = roles engine ∙ is.role;
        hand = ap (λ (it : Item). it.whereabouts) same ∙ is.hand;
        tagged = λ none. is.tagged (ap (λ (it : Item). it.tag) (sym same) ∙ none);
      }) old

  pub unpushed_stays : (engine stream : ℕ) → ((k : ℕ) → role_of new k ≡ role_of core k) → ((x : ℕ) → IsUnpushed core engine stream x → 1 + engine ≡ queue → x ≢ item) → (xs : List ℕ) → Each (IsUnpushed core engine stream) xs → Each (IsUnpushed new engine stream) xs
  unpushed_stays engine stream roles beside xs old = each_gives (IsUnpushed core engine stream) (IsUnpushed new engine stream) xs (λ x is.
      let same : item_of new (1 + engine) x ≡ item_of core (1 + engine) x = item_kept (1 + engine) x (beside x is) in
      record {
        seat = is.seat;
        role = roles is.seat ∙ is.role;
        hand = ap (λ (it : Item). it.whereabouts) same ∙ is.hand;
        tag = ap (λ (it : Item). it.tag) same ∙ is.tag;
      }) old

-- ---- the same course

abbrev same_parts : Core → Core → ℕ → List ℕ → Type 0
same_parts core new queue xs = Each (λ x. part_in new queue x ≡ part_in core queue x) xs

-- what was ordered is so still where the course is the same
pub carried : (core new : Core) (engine worker stream : ℕ) (popped popped' armed armed' : List ℕ) → course new engine stream popped' armed' ≡ course core engine stream popped armed
    → sent_parts new worker stream ≡ sent_parts core worker stream → by_seat closed new worker stream ≡ by_seat closed core worker stream
    → IsOrdered core engine worker stream popped armed → IsOrdered new engine worker stream popped' armed'
carried core new engine worker stream popped popped' armed armed' same sends closes old = record {
  gone = old.gone;
  few = old.few;
  whole = ap (λ ps. ps ++ old.gone) same ∙ old.whole ∙ sym sends;
  complete = λ none. old.complete (sym closes ∙ none);
}

-- ---- Push

same_popper : (core : Core) (engine item seat x : ℕ) → Fills core seat (1 + engine) → IsInHand core seat (1 + engine) item → (e : ℕ) → IsPopped core e x → 1 + e ≡ 1 + engine → x ≢ item
same_popper core engine item seat x fills hand e is same_queue same =
    let this : e ≡ engine = omega (arith, same_queue) in
    let theirs : IsInHand core e (1 + engine) item = subst (λ (n : ℕ). IsInHand core e (1 + engine) n) same (subst (λ (n : ℕ). IsInHand core e (1 + n) x) this is.hand) in
    let one : e ≡ seat = hands_differ core (1 + engine) item e seat theirs hand in
    let engine_role : (role_of core seat == 0) ≡ true = eq-eqb _ _ (ap (role_of core) (sym one) ∙ is.role) in
    absurd (cc (engine_role, fills.side, ne_eqb (1 + engine) 0 (omega arith)))

pub push_in_order : PushInOrder
unfolding after_step with_item with_in_line
push_in_order popped armed armed' core sound old seat engine item place stream fills hand tag some puts =
    let queue : ℕ = 1 + engine in
    let new : Core = after_step core (Push seat queue item place) in
    let entry : Entry = record { place = place; item = item } in
    let now : Item = record (item_of core queue item) { whereabouts = InLine } in
    let inside = hand_is_there core seat queue item hand in
    let present = queue_there core queue item inside in
    let sets : SetsItem core new queue item now = sets_after_push core seat queue item place inside in
    let parts : (q i : ℕ) → part_in new q i ≡ part_in core q i = every_part core new queue item now sets refl in
    let first : Queue → Queue = λ (q : Queue). record q { line = q.line ++ entry ∷ []; next_line = place + 1 } in
    let second : Queue → Queue = λ (q : Queue). record q { items = set q.items item now } in
    let here : (queue_of new queue).line ≡ (queue_of core queue).line ++ entry ∷ [] = ap (λ (q : Queue). q.line) (twice_here core.queues queue first second present) in
    let away : (q : ℕ) → q ≢ queue → (queue_of new q).line ≡ (queue_of core q).line = λ q other. ap (λ (x : Queue). x.line) (twice_elsewhere core.queues queue first second q other) in
    let p : Part = part_in core queue item in
    let grown : line_parts new queue ≡ line_parts core queue ++ p ∷ [] =
    map_all (λ (e : Entry). part_in new queue e.item) (λ (e : Entry). part_in core queue e.item) (queue_of new queue).line (λ e. parts queue e.item)
    ∙ ap (map (λ (e : Entry). part_in core queue e.item)) here ∙ map-append (λ (e : Entry). part_in core queue e.item) (queue_of core queue).line (entry ∷ []) in
    let poster : 1 ≤ by_seat posted core engine stream = subst (λ (s : ℕ). 1 ≤ by_seat posted core engine s) tag (sound.parts.to_poster engine item (λ none. some (sym tag ∙ none))) in
    record {
      one = old.one;
      pops = λ e. popped_stays core new queue item now sets e (λ k. refl) (λ x is. same_popper core engine item seat x fills hand e is) (popped e) (old.pops e);
      arms = λ e s posts. elim (cases_eq s stream) [
        | inl this ↦ subst (Each (IsUnpushed new e s)) (sym puts.after ∙ ap armed' (sym this)) tt
        | inr other ↦ subst (Each (IsUnpushed new e s)) (sym (puts.others s other))
            (unpushed_stays core new queue item now sets e s (λ k. refl)
            (λ x is same_queue same. other (sym is.tag ∙ ap (λ (n : ℕ). (item_of core n x).tag) same_queue ∙ ap (λ (n : ℕ). (item_of core queue n).tag) same ∙ tag))
            (armed s) (old.arms e s posts))
      ];
      untaken = λ s none. elim (cases_eq s stream) [
        | inl this ↦ ap armed' this ∙ puts.after
        | inr other ↦ puts.others s other ∙ old.untaken s none
      ];
      order = λ e w s posts takes.
          let pop : map (part_in new (1 + e)) (popped e) ≡ map (part_in core (1 + e)) (popped e) = map_all _ _ (popped e) (parts (1 + e)) in
          let arm : map (part_in new (1 + e)) (armed' s) ≡ map (part_in core (1 + e)) (armed' s) = map_all _ _ (armed' s) (parts (1 + e)) in
          let r : List Part = (seat_of core e).received in
          let po : List Part = map (part_in core (1 + e)) (popped e) in
          let same : course new e s (popped e) (armed' s) ≡ course core e s (popped e) (armed s) = elim (cases_eq s stream) [
            | inl this ↦
                let is_e : e ≡ engine = one_seat posted core s e engine refl (posted_at_most_once core sound.streams s) posts (subst (λ (n : ℕ). 1 ≤ by_seat posted core engine n) (sym this) poster) in
                let l : List Part = line_parts core (1 + e) in
                let line : line_parts new (1 + e) ≡ l ++ map (part_in core (1 + e)) (armed s) =
                subst (λ (n : ℕ). line_parts new (1 + n) ≡ line_parts core (1 + n) ++ map (part_in core (1 + n)) (armed s)) (sym is_e)
                (grown ∙ ap (λ (xs : List ℕ). line_parts core queue ++ map (part_in core queue) xs) (sym puts.before ∙ ap armed (sym this))) in
                let none : map (part_in core (1 + e)) (armed' s) ≡ [] = ap (map (part_in core (1 + e))) (ap armed' this ∙ puts.after) in
                ap (filter (is_of_stream s))
                (four_same _ r _ po _ (l ++ map (part_in core (1 + e)) (armed s)) _ [] refl pop line (arm ∙ none)
                ∙ ap (λ (xs : List Part). r ++ (po ++ xs)) (append-nil (l ++ map (part_in core (1 + e)) (armed s))))
            | inr other ↦
                let arm' : map (part_in new (1 + e)) (armed' s) ≡ map (part_in core (1 + e)) (armed s) = arm ∙ ap (map (part_in core (1 + e))) (puts.others s other) in
                let a : List Part = map (part_in core (1 + e)) (armed s) in
                elim (cases_eq e engine) [
                  | inl is_e ↦
                      let l : List Part = line_parts core (1 + e) in
                      let line : line_parts new (1 + e) ≡ l ++ p ∷ [] = subst (λ (n : ℕ). line_parts new (1 + n) ≡ line_parts core (1 + n) ++ p ∷ []) (sym is_e) grown in
                      let off : is_of_stream s p ≡ false = ne_eqb p.stream s (λ is. other (sym is ∙ tag)) in
                      ap (filter (is_of_stream s))
                      (four_same _ r _ po _ (l ++ p ∷ []) _ a refl pop line arm'
                      ∙ ap (λ (xs : List Part). r ++ (po ++ xs)) (append_assoc l (p ∷ []) a) ∙ ap (λ (xs : List Part). r ++ xs) (sym (append_assoc po l (p ∷ a))) ∙ sym (append_assoc r (po ++ l) (p ∷ a)))
                      ∙ skipped (is_of_stream s) p (r ++ (po ++ l)) a off
                      ∙ ap (filter (is_of_stream s)) (append_assoc r (po ++ l) a ∙ ap (λ (xs : List Part). r ++ xs) (append_assoc po l a))
                  | inr not_e ↦
                      let far : 1 + e ≢ queue = λ is. not_e (omega (arith, is)) in
                      let line : line_parts new (1 + e) ≡ line_parts core (1 + e) =
                      map_all (λ (x : Entry). part_in new (1 + e) x.item) (λ (x : Entry). part_in core (1 + e) x.item) (queue_of new (1 + e)).line (λ x. parts (1 + e) x.item)
                      ∙ ap (map (λ (x : Entry). part_in core (1 + e) x.item)) (away (1 + e) far) in
                      ap (filter (is_of_stream s)) (four_same _ r _ po _ (line_parts core (1 + e)) _ a refl pop line arm')
                ]
          ] in
          carried core new e w s (popped e) (popped e) (armed s) (armed' s) same refl refl (old.order e w s posts takes);
    }

-- ---- Pop

pub pop_in_order : PopInOrder
unfolding after_step with_item without_first_in_line
pop_in_order popped popped' armed core sound old engine item place role first low some puts =
    let queue : ℕ = 1 + engine in
    let new : Core = after_step core (Pop engine queue item place) in
    let now : Item = record (item_of core queue item) { whereabouts = WithSeat engine } in
    let inside_line = is_in core queue item sound (first_counts (queue_of core queue).line item first low) in
    let inside : item < length (queue_of core queue).items = ltb-true _ _ inside_line.0 in
    let present = queue_there core queue item inside in
    let sets : SetsItem core new queue item now = sets_after_pop core engine queue item place inside in
    let parts : (q i : ℕ) → part_in new q i ≡ part_in core q i = every_part core new queue item now sets refl in
    let first_change : Queue → Queue = λ (q : Queue). record q { line = drop 1 q.line } in
    let second : Queue → Queue = λ (q : Queue). record q { items = set q.items item now } in
    let here : (queue_of new queue).line ≡ drop 1 (queue_of core queue).line = ap (λ (q : Queue). q.line) (twice_here core.queues queue first_change second present) in
    let away : (q : ℕ) → q ≢ queue → (queue_of new q).line ≡ (queue_of core q).line = λ q other. ap (λ (x : Queue). x.line) (twice_elsewhere core.queues queue first_change second q other) in
    let p : Part = part_in core queue item in
    let is_now : item_of new queue item ≡ now = item_here core new queue item now sets in
    record {
      one = few_stay popped popped' engine [] (item ∷ []) puts (omega arith) old.one;
      pops = λ e. elim (cases_eq e engine) [
        | inl this ↦ subst (λ (n : ℕ). Each (IsPopped new n) (popped' n)) (sym this) (subst (Each (IsPopped new engine)) (sym puts.after) (
          record {
            role = role;
            hand = ap (λ (it : Item). it.whereabouts) is_now;
            tagged = λ none. some (ap (λ (it : Item). it.tag) (sym is_now) ∙ none);
          },
          tt,
        ))
        | inr other ↦ subst (Each (IsPopped new e)) (sym (puts.others e other))
            (popped_stays core new queue item now sets e (λ k. refl) (λ x is same_queue. absurd (other (omega (arith, same_queue)))) (popped e) (old.pops e))
      ];
      arms = λ e s posts. unpushed_stays core new queue item now sets e s (λ k. refl)
          (λ x is same_queue same. absurd (cc (subst (λ (n : ℕ). IsInHand core is.seat queue n) same (subst (λ (n : ℕ). IsInHand core is.seat n x) same_queue is.hand), inside_line.1)))
          (armed s) (old.arms e s posts);
      untaken = old.untaken;
      order = λ e w s posts takes.
          let r : List Part = (seat_of core e).received in
          let a : List Part = map (part_in core (1 + e)) (armed s) in
          let arm : map (part_in new (1 + e)) (armed s) ≡ a = map_all _ _ (armed s) (parts (1 + e)) in
          let line : line_parts new (1 + e) ≡ map (λ (x : Entry). part_in core (1 + e) x.item) (queue_of new (1 + e)).line =
          map_all (λ (x : Entry). part_in new (1 + e) x.item) (λ (x : Entry). part_in core (1 + e) x.item) (queue_of new (1 + e)).line (λ x. parts (1 + e) x.item) in
          let pop : map (part_in new (1 + e)) (popped' e) ≡ map (part_in core (1 + e)) (popped' e) = map_all _ _ (popped' e) (parts (1 + e)) in
          let same : all_parts new e (popped' e) (armed s) ≡ all_parts core e (popped e) (armed s) = elim (cases_eq e engine) [
            | inr other ↦ four_same _ r _ (map (part_in core (1 + e)) (popped e)) _ (line_parts core (1 + e)) _ a refl
                (pop ∙ ap (map (part_in core (1 + e))) (puts.others e other))
                (line ∙ ap (map (λ (x : Entry). part_in core (1 + e) x.item)) (away (1 + e) (λ is. other (omega (arith, is))))) arm
            | inl this ↦
                let one : map (part_in core (1 + e)) (popped' e) ≡ part_in core (1 + e) item ∷ [] = ap (map (part_in core (1 + e))) (ap popped' this ∙ puts.after) in
                let none : map (part_in core (1 + e)) (popped e) ≡ [] = ap (map (part_in core (1 + e))) (ap popped this ∙ puts.before) in
                let rest : List Part = map (λ (x : Entry). part_in core (1 + e) x.item) (drop 1 (queue_of core (1 + e)).line) in
                let behind : line_parts new (1 + e) ≡ rest = line ∙ ap (map (λ (x : Entry). part_in core (1 + e) x.item)) (subst (λ (n : ℕ). (queue_of new (1 + n)).line ≡ drop 1 (queue_of core (1 + n)).line) (sym this) here) in
                let starts : part_in core (1 + e) item ∷ rest ≡ line_parts core (1 + e) = line_starts (part_in core (1 + e)) (queue_of core (1 + e)).line item (subst (λ (n : ℕ). first_item (queue_of core (1 + n)).line ≡ item) (sym this) first) low in
                four_same _ r _ (part_in core (1 + e) item ∷ []) _ rest _ a refl (pop ∙ one) behind arm
                ∙ ap (λ (xs : List Part). r ++ (xs ++ a)) starts
                ∙ four_same r r [] _ (line_parts core (1 + e)) _ a a refl (sym none) refl refl
          ] in
          carried core new e w s (popped e) (popped' e) (armed s) (armed s) (ap (filter (is_of_stream s)) same) refl refl (old.order e w s posts takes);
    }

-- ---- Settle

pub settle_in_order : SettleInOrder
unfolding after_step with_item with_note with_run_owner
settle_in_order popped popped' armed core sound old engine item stream tag puts =
    let queue : ℕ = 1 + engine in
    let new : Core = after_step core (Settle engine queue item stream) in
    let now : Item = record (item_of core queue item) { tag = 0 } in
    let mine : IsPopped core engine item = (subst (Each (IsPopped core engine)) puts.before (old.pops engine)).0 in
    let inside = hand_is_there core engine queue item mine.hand in
    let sets : SetsItem core new queue item now = sets_after_settle core engine queue item stream inside in
    let there : engine < length core.seats = omega (arith, sound.streams.seats, role_is_there core engine (omega (arith, mine.role))) in
    let part : Part = part_of stream (item_of core queue item) in
    let adds : Adds core new engine (Received part) = adds_after_settle core engine queue item stream (Received part) there (received_back (role_of core engine == 0) queue stream (item_of core queue item) (eq-eqb _ _ mine.role) (omega arith)) in
    let receives : PartsGrow received core new engine part = parts_grow received core new engine (Received part) part adds (λ l. refl) in
    let sends : PartsStay sent core new = parts_stay sent core new engine (Received part) adds (λ l. refl) in
    let posts_stay : Stays posted core new = stays posted core new engine (Received part) adds (λ l. refl) in
    let takes_stay : Stays taken core new = stays taken core new engine (Received part) adds (λ l. refl) in
    let closes_stay : Stays closed core new = stays closed core new engine (Received part) adds (λ l. refl) in
    let beside : (q i : ℕ) → (q ≡ queue → i ≢ item) → part_in new q i ≡ part_in core q i = part_kept core new queue item now sets in
    let away : (e s x : ℕ) → IsUnpushed core e s x → 1 + e ≡ queue → x ≢ item = λ e s x is same_queue same.
    let theirs : IsInHand core is.seat queue item = subst (λ (n : ℕ). IsInHand core is.seat queue n) same (subst (λ (n : ℕ). IsInHand core is.seat n x) same_queue is.hand) in
    let one : is.seat ≡ engine = hands_differ core queue item is.seat engine theirs mine.hand in
    absurd (omega (arith, is.role, mine.role, ap (role_of core) one)) in
    record {
      one = few_stay popped popped' engine (item ∷ []) [] puts (omega arith) old.one;
      pops = λ e. elim (cases_eq e engine) [
        | inl this ↦ subst (λ (n : ℕ). Each (IsPopped new n) (popped' n)) (sym this) (subst (Each (IsPopped new engine)) (sym puts.after) tt)
        | inr other ↦ subst (Each (IsPopped new e)) (sym (puts.others e other))
            (popped_stays core new queue item now sets e (λ k. refl) (λ x is same_queue. absurd (other (omega (arith, same_queue)))) (popped e) (old.pops e))
      ];
      arms = λ e s posts. unpushed_stays core new queue item now sets e s (λ k. refl) (away e s) (armed s) (old.arms e s (omega (arith, posts, posts_stay.each e s)));
      untaken = λ s none. old.untaken s (sym (takes_stay.all s) ∙ none);
      order = λ e w s posts' takes'.
          let posts : 1 ≤ by_seat posted core e s = omega (arith, posts', posts_stay.each e s) in
          let takes : 1 ≤ by_seat taken core w s = omega (arith, takes', takes_stay.each w s) in
          let r : List Part = (seat_of core e).received in
          let a : List Part = map (part_in core (1 + e)) (armed s) in
          let l : List Part = line_parts core (1 + e) in
          let arm : map (part_in new (1 + e)) (armed s) ≡ a =
          map_kept (part_in new (1 + e)) (part_in core (1 + e)) (armed s) (each_gives (IsUnpushed core e s) (λ x. part_in new (1 + e) x ≡ part_in core (1 + e) x) (armed s) (λ x is. beside (1 + e) x (away e s x is)) (old.arms e s posts)) in
          let entries : (queue_of new (1 + e)).line ≡ (queue_of core (1 + e)).line = part_stays (λ (q : Queue). q.line) queue (λ (q : Queue). record q { items = set q.items item now }) core.queues (1 + e) no_queue (λ q. refl) in
          let line : line_parts new (1 + e) ≡ l = ap (map (λ (x : Entry). part_in new (1 + e) x.item)) entries ∙ (elim (cases_eq e engine) [
            | inl this ↦ line_kept (part_in new (1 + e)) (part_in core (1 + e)) item (queue_of core (1 + e)).line (subst (λ (n : ℕ). entries_of item (queue_of core (1 + n)).line ≡ 0) (sym this) (not_in_line core engine queue item sound mine.hand)) (λ i other. beside (1 + e) i (λ _. other))
            | inr other ↦ map_all (λ (x : Entry). part_in new (1 + e) x.item) (λ (x : Entry). part_in core (1 + e) x.item) (queue_of core (1 + e)).line (λ x. beside (1 + e) x.item (λ is. absurd (other (omega (arith, is)))))
          ]) in
          let same : all_parts new e (popped' e) (armed s) ≡ all_parts core e (popped e) (armed s) = elim (cases_eq e engine) [
            | inr other ↦ four_same _ r _ (map (part_in core (1 + e)) (popped e)) _ l _ a (receives.elsewhere e other)
                (map_all (part_in new (1 + e)) (part_in core (1 + e)) (popped' e) (λ x. beside (1 + e) x (λ is. absurd (other (omega (arith, is))))) ∙ ap (map (part_in core (1 + e))) (puts.others e other))
                line arm
            | inl this ↦
                let p : Part = part_in core (1 + e) item in
                let is_p : part ≡ p = ap (λ (n : ℕ). part_of n (item_of core queue item)) (sym tag) ∙ ap (λ (n : ℕ). part_in core (1 + n) item) (sym this) in
                let got : (seat_of new e).received ≡ r ++ p ∷ [] = subst (λ (n : ℕ). (seat_of new n).received ≡ (seat_of core n).received ++ part ∷ []) (sym this) receives.here ∙ ap (λ (x : Part). r ++ x ∷ []) is_p in
                let none : map (part_in new (1 + e)) (popped' e) ≡ [] = ap (map (part_in new (1 + e))) (ap popped' this ∙ puts.after) in
                let one : map (part_in core (1 + e)) (popped e) ≡ p ∷ [] = ap (map (part_in core (1 + e))) (ap popped this ∙ puts.before) in
                four_same _ (r ++ p ∷ []) _ [] _ l _ a got none line arm
                ∙ append_assoc r (p ∷ []) (l ++ a)
                ∙ four_same r r (p ∷ []) _ l l a a refl (sym one) refl refl
          ] in
          carried core new e w s (popped e) (popped' e) (armed s) (armed s) (ap (filter (is_of_stream s)) same) (ap (filter (is_of_stream s)) (sends.each w)) (closes_stay.each w s) (old.order e w s posts takes);
    }

-- ---- Arm

pub arm_in_order : ArmInOrder
unfolding after_step with_item with_note with_run_owner
arm_in_order popped armed armed' core sound old seat engine item stream fills hand tag may puts =
    let queue : ℕ = 1 + engine in
    let new : Core = after_step core (Arm seat queue item stream) in
    let was : Item = item_of core queue item in
    let now : Item = record was { tag = stream; stream = stream } in
    let back : queue ≢ 0 = omega arith in
    let inside = hand_is_there core seat queue item hand in
    let sets : SetsItem core new queue item now = sets_after_arm core seat queue item stream inside in
    let is_now : item_of new queue item ≡ now = item_here core new queue item now sets in
    let no_engine : role_of core seat ≢ 0 = eqb-false _ _ (fills.side ∙ ne_eqb queue 0 back) in
    let role : role_of core seat ≡ 1 = omega (arith, no_engine, fills.role) in
    let there : seat < length core.seats = omega (arith, sound.streams.seats, role_is_there core seat fills.role) in
    let part : Part = part_of stream was in
    let adds : Adds core new seat (Sent part) = adds_after_arm core seat queue item stream (Sent part) there (armed_back queue stream was back) in
    let sends : PartsGrow sent core new seat part = parts_grow sent core new seat (Sent part) part adds (λ l. refl) in
    let receives : PartsStay received core new = parts_stay received core new seat (Sent part) adds (λ l. refl) in
    let posts_stay : Stays posted core new = stays posted core new seat (Sent part) adds (λ l. refl) in
    let takes_stay : Stays taken core new = stays taken core new seat (Sent part) adds (λ l. refl) in
    let closes_stay : Stays closed core new = stays closed core new seat (Sent part) adds (λ l. refl) in
    let taker : 1 ≤ by_seat taken core seat stream = has_counts stream (seat_of core seat).taken may.taken in
    let is_engine : 1 + engine - 1 ≡ engine = omega arith in
    let poster : 1 ≤ by_seat posted core engine stream = subst (λ (k : ℕ). 1 ≤ by_seat posted core k stream) is_engine (has_counts stream (seat_of core (1 + engine - 1)).posted may.posted) in
    let unclosed : by_seat closed core seat stream ≡ 0 = has_not_counts stream (seat_of core seat).closed (any_none_at (λ lists. has_stream stream lists.closed) core.seats seat no_seat may.unclosed there) in
    let beside : (q i : ℕ) → (q ≡ queue → i ≢ item) → part_in new q i ≡ part_in core q i = part_kept core new queue item now sets in
    let zero : (e x : ℕ) → 1 + e ≡ queue → x ≡ item → (item_of core (1 + e) x).tag ≡ 0 = λ e x same_queue same.
    ap (λ (n : ℕ). (item_of core n x).tag) same_queue ∙ ap (λ (n : ℕ). (item_of core queue n).tag) same ∙ tag in
    let is_some : (e s : ℕ) → 1 ≤ by_seat posted core e s → s ≢ 0 = λ e s posts. posted_some core sound.streams s (omega (arith, posts, seat_in_all posted core e s refl)) in
    let pop_kept : (e : ℕ) → map (part_in new (1 + e)) (popped e) ≡ map (part_in core (1 + e)) (popped e) = λ e.
    map_kept (part_in new (1 + e)) (part_in core (1 + e)) (popped e)
    (each_gives (IsPopped core e) (λ x. part_in new (1 + e) x ≡ part_in core (1 + e) x) (popped e) (λ x is. beside (1 + e) x (λ same_queue same. is.tagged (zero e x same_queue same))) (old.pops e)) in
    let entries : (e : ℕ) → (queue_of new (1 + e)).line ≡ (queue_of core (1 + e)).line = λ e. part_stays (λ (q : Queue). q.line) queue (λ (q : Queue). record q { items = set q.items item now }) core.queues (1 + e) no_queue (λ q. refl) in
    let line_same : (e : ℕ) → line_parts new (1 + e) ≡ line_parts core (1 + e) = λ e. ap (map (λ (x : Entry). part_in new (1 + e) x.item)) (entries e) ∙ (elim (cases_eq e engine) [
      | inl this ↦ line_kept (part_in new (1 + e)) (part_in core (1 + e)) item (queue_of core (1 + e)).line (subst (λ (n : ℕ). entries_of item (queue_of core (1 + n)).line ≡ 0) (sym this) (not_in_line core seat queue item sound hand)) (λ i other. beside (1 + e) i (λ _. other))
      | inr other ↦ map_all (λ (x : Entry). part_in new (1 + e) x.item) (λ (x : Entry). part_in core (1 + e) x.item) (queue_of core (1 + e)).line (λ x. beside (1 + e) x.item (λ is. absurd (other (omega (arith, is)))))
    ]) in
    -- the stream's own parts
    let own : IsOrdered new engine seat stream (popped engine) (armed' stream) =
    let o : IsOrdered core engine seat stream (popped engine) (armed stream) = old.order engine seat stream poster taker in
    let r : List Part = (seat_of core engine).received in
    let po : List Part = map (part_in core queue) (popped engine) in
    let l : List Part = line_parts core queue in
    let is : List Part → List Part = filter (is_of_stream stream) in
    let last : map (part_in new queue) (armed' stream) ≡ part ∷ [] = ap (map (part_in new queue)) puts.after ∙ ap (λ (it : Item). part_of it.tag it ∷ []) is_now in
    let all : all_parts new engine (popped engine) (armed' stream) ≡ (r ++ (po ++ l)) ++ part ∷ [] =
    four_same _ r _ po _ l _ (part ∷ []) (receives.each engine) (pop_kept engine) (line_same engine) last
    ∙ ap (λ (xs : List Part). r ++ xs) (sym (append_assoc po l (part ∷ []))) ∙ sym (append_assoc r (po ++ l) (part ∷ [])) in
    let before : all_parts core engine (popped engine) (armed stream) ≡ r ++ (po ++ l) =
    ap (λ (xs : List ℕ). four r po l (map (part_in core queue) xs)) puts.before ∙ ap (λ (xs : List Part). r ++ (po ++ xs)) (append-nil l) in
    let sent_before : is (r ++ (po ++ l)) ≡ sent_parts core seat stream =
    ap is (sym before) ∙ sym (append-nil (course core engine stream (popped engine) (armed stream))) ∙ ap (λ (xs : List Part). course core engine stream (popped engine) (armed stream) ++ xs) (sym (o.complete unclosed)) ∙ o.whole in
    let one : is (part ∷ []) ≡ part ∷ [] = rw (eq-eqb stream stream refl) refl in
    record {
      gone = [];
      few = omega arith;
      whole =
          append-nil (course new engine stream (popped engine) (armed' stream)) ∙ ap is all ∙ filter-append (is_of_stream stream) (r ++ (po ++ l)) (part ∷ [])
          ∙ ap (λ (xs : List Part). is (r ++ (po ++ l)) ++ xs) one ∙ ap (λ (xs : List Part). xs ++ part ∷ []) sent_before
          ∙ sym (sent_parts_here core new seat part stream sends refl);
      complete = λ _. refl;
    } in
    record {
      one = old.one;
      pops = λ e. popped_stays core new queue item now sets e (λ k. refl) (λ x is same_queue same. is.tagged (zero e x same_queue same)) (popped e) (old.pops e);
      arms = λ e s posts'.
          let posts : 1 ≤ by_seat posted core e s = omega (arith, posts', posts_stay.each e s) in
          elim (cases_eq s stream) [
            | inl this ↦
                let is_e : e ≡ engine = one_seat posted core s e engine refl (posted_at_most_once core sound.streams s) posts (subst (λ (n : ℕ). 1 ≤ by_seat posted core engine n) (sym this) poster) in
                let mine : Each (IsUnpushed new engine stream) (armed' stream) = subst (Each (IsUnpushed new engine stream)) (sym puts.after) (
                  record {
                    seat = seat;
                    role = role;
                    hand = ap (λ (it : Item). it.whereabouts) is_now ∙ hand;
                    tag = ap (λ (it : Item). it.tag) is_now;
                  },
                  tt,
                ) in
                subst (λ (n : ℕ). Each (IsUnpushed new n s) (armed' s)) (sym is_e) (subst (λ (n : ℕ). Each (IsUnpushed new engine n) (armed' n)) (sym this) mine)
            | inr other ↦ subst (Each (IsUnpushed new e s)) (sym (puts.others s other))
                (unpushed_stays core new queue item now sets e s (λ k. refl) (λ x is same_queue same. is_some e s posts (sym is.tag ∙ zero e x same_queue same)) (armed s) (old.arms e s posts))
          ];
      untaken = λ s none. elim (cases_eq s stream) [
        | inl this ↦ absurd (omega (arith, taker, seat_in_all taken core seat stream refl, takes_stay.all stream, ap (by_all taken new) this, none))
        | inr other ↦ puts.others s other ∙ old.untaken s (sym (takes_stay.all s) ∙ none)
      ];
      order = λ e w s posts' takes'.
          let posts : 1 ≤ by_seat posted core e s = omega (arith, posts', posts_stay.each e s) in
          let takes : 1 ≤ by_seat taken core w s = omega (arith, takes', takes_stay.each w s) in
          elim (cases_eq s stream) [
            | inl this ↦
                let is_e : e ≡ engine = one_seat posted core s e engine refl (posted_at_most_once core sound.streams s) posts (subst (λ (n : ℕ). 1 ≤ by_seat posted core engine n) (sym this) poster) in
                let is_w : w ≡ seat = one_seat taken core s w seat refl (taken_at_most_once core sound.streams s) takes (subst (λ (n : ℕ). 1 ≤ by_seat taken core seat n) (sym this) taker) in
                subst (λ (n : ℕ). IsOrdered new n w s (popped n) (armed' s)) (sym is_e)
                (subst (λ (n : ℕ). IsOrdered new engine n s (popped engine) (armed' s)) (sym is_w)
                (subst (λ (n : ℕ). IsOrdered new engine seat n (popped engine) (armed' n)) (sym this) own))
            | inr other ↦
                let a : List Part = map (part_in core (1 + e)) (armed s) in
                let arm : map (part_in new (1 + e)) (armed' s) ≡ a = ap (map (part_in new (1 + e))) (puts.others s other)
                ∙ map_kept (part_in new (1 + e)) (part_in core (1 + e)) (armed s)
                (each_gives (IsUnpushed core e s) (λ x. part_in new (1 + e) x ≡ part_in core (1 + e) x) (armed s) (λ x is. beside (1 + e) x (λ same_queue same. is_some e s posts (sym is.tag ∙ zero e x same_queue same))) (old.arms e s posts)) in
                let same : course new e s (popped e) (armed' s) ≡ course core e s (popped e) (armed s) =
                ap (filter (is_of_stream s)) (four_same _ (seat_of core e).received _ (map (part_in core (1 + e)) (popped e)) _ (line_parts core (1 + e)) _ a (receives.each e) (pop_kept e) (line_same e) arm) in
                carried core new e w s (popped e) (popped e) (armed s) (armed' s) same (sent_parts_other core new seat part s w sends (inr (λ is. other (sym is)))) (closes_stay.each w s) (old.order e w s posts takes)
          ];
    }

-- ---- what it says

-- the received parts and what comes behind them
behind : (popped armed : ℕ → List ℕ) (core : Core) (engine worker stream : ℕ) (o : IsOrdered core engine worker stream (popped engine) (armed stream)) (rest : List Part) → all_parts core engine (popped engine) (armed stream) ≡ (seat_of core engine).received ++ rest
    → filter (is_of_stream stream) (seat_of core engine).received ++ (filter (is_of_stream stream) rest ++ o.gone) ≡ sent_parts core worker stream
behind popped armed core engine worker stream o rest is =
    let f : List Part → List Part = filter (is_of_stream stream) in
    let r : List Part = (seat_of core engine).received in
    sym (append_assoc (f r) (f rest) o.gone) ∙ ap (λ (xs : List Part). xs ++ o.gone) (sym (filter-append (is_of_stream stream) r rest) ∙ ap f (sym is)) ∙ o.whole

pub received_in_order : ReceivedInOrder
received_in_order popped armed core sound old engine worker stream posts takes place inside =
    let o : IsOrdered core engine worker stream (popped engine) (armed stream) = old.order engine worker stream posts takes in
    let rest : List Part = map (part_in core (1 + engine)) (popped engine) ++ (line_parts core (1 + engine) ++ map (part_in core (1 + engine)) (armed stream)) in
    let got : List Part = filter (is_of_stream stream) (seat_of core engine).received in
    let more : List Part = filter (is_of_stream stream) rest ++ o.gone in
    let all : got ++ more ≡ sent_parts core worker stream = behind popped armed core engine worker stream o rest refl in
    let same : get_or got place no_part ≡ get_or (sent_parts core worker stream) place no_part = sym (get_or_append_left got more no_part place inside) ∙ ap (λ (xs : List Part). get_or xs place no_part) all in
    let low : place < length (sent_parts core worker stream) = omega (arith, inside, length-append got more, ap (length {A = Part}) all) in
    (same, ap (λ (p : Part). p.number) same ∙ sound.parts.in_order worker stream place low)

pub last_ends_received : LastEndsReceived
last_ends_received popped armed core sound old engine worker stream posts takes place inside last =
    let o : IsOrdered core engine worker stream (popped engine) (armed stream) = old.order engine worker stream posts takes in
    let rest : List Part = map (part_in core (1 + engine)) (popped engine) ++ (line_parts core (1 + engine) ++ map (part_in core (1 + engine)) (armed stream)) in
    let got : List Part = received_parts core engine stream in
    let way : List Part = filter (is_of_stream stream) rest in
    let more : List Part = way ++ o.gone in
    let all : got ++ more ≡ sent_parts core worker stream = behind popped armed core engine worker stream o rest refl in
    let same : get_or got place no_part ≡ get_or (sent_parts core worker stream) place no_part = (received_in_order popped armed core sound old engine worker stream posts takes place inside).0 in
    let long : length got + length more ≡ length (sent_parts core worker stream) = sym (length-append got more) ∙ ap (length {A = Part}) all in
    let final : place + 1 ≡ length (sent_parts core worker stream) =
    sound.parts.last_is_final worker stream place (omega (arith, inside, long)) (ap (λ (p : Part). p.last) (sym same) ∙ last) in
    let no_more : more ≡ [] = nil_from_length more (omega (arith, final, long, inside)) in
    let no_way : way ≡ [] = nil_from_length way (omega (arith, final, long, inside, length-append way o.gone)) in (
      omega (arith, final, long, inside),
      record {
        all = sym (append-nil got) ∙ ap (λ (xs : List Part). got ++ xs) (sym no_more) ∙ all;
        none = filter-append (is_of_stream stream) (seat_of core engine).received rest ∙ ap (λ (xs : List Part). got ++ xs) no_way ∙ append-nil got;
      },
    )

pub popped_next : PoppedIsNext
popped_next popped armed core sound old engine worker stream item posts takes one tag =
    let o : IsOrdered core engine worker stream (popped engine) (armed stream) = old.order engine worker stream posts takes in
    let p : Part = part_in core (1 + engine) item in
    let tail : List Part = line_parts core (1 + engine) ++ map (part_in core (1 + engine)) (armed stream) in
    let got : List Part = filter (is_of_stream stream) (seat_of core engine).received in
    let is : all_parts core engine (popped engine) (armed stream) ≡ (seat_of core engine).received ++ (p ∷ tail) =
    ap (λ (xs : List ℕ). (seat_of core engine).received ++ (map (part_in core (1 + engine)) xs ++ tail)) one in
    let first : filter (is_of_stream stream) (p ∷ tail) ≡ p ∷ filter (is_of_stream stream) tail = rw (eq-eqb p.stream stream tag) refl in
    let more : List Part = filter (is_of_stream stream) tail ++ o.gone in
    let all : got ++ (p ∷ more) ≡ sent_parts core worker stream = ap (λ (xs : List Part). got ++ (xs ++ o.gone)) (sym first) ∙ behind popped armed core engine worker stream o (p ∷ tail) is in
    let here : get_or (sent_parts core worker stream) (length got) no_part ≡ p = ap (λ (xs : List Part). get_or xs (length got) no_part) (sym all) ∙ get_or-append_seam got p more no_part in
    let low : length got < length (sent_parts core worker stream) = omega (arith, length-append got (p ∷ more), ap (length {A = Part}) all) in
    ap (λ (x : Part). x.number) (sym here) ∙ sound.parts.in_order worker stream (length got) low
