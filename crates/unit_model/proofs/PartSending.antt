-- The counts of parts after a part is sent.
use Rattle.std.proofs.Common.{◌≡◌, ◌≢◌, ℕ, ◌+◌, ◌<◌, ◌≤◌, ◌==◌, ◌&&◌, nat_lt, true, false, [], ◌∷◌, ◌++◌, length, get_or, refl, sym, ap, ◌∙◌, arith, inl, inr, ◌⊎◌}
use Rattle.std.proofs.lemmas.List.{get_or_past}
use Rattle.std.proofs.lemmas.Bool.{cases_eq, cases_lt, eq-eqb, ne_eqb, lt-ltb, le-ltb}
use Rattle.std.proofs.lemmas.List.Folds.{list_any_at}
use Rattle.unit_model.specs.Conditions.{parts_sent, part_of, is_last_sent, holds_tagged}
use Rattle.unit_model.specs.Core.{blank, queue_of, item_of, number_in, role_of, whereabouts_code}
use Rattle.unit_model.specs.PartCounts.{PartCounts, of_stream, of_number, same_part, parts_by_seat, sent, received, sent_parts, no_part, times_sent, carries}
use Rattle.unit_model.specs.StreamCounts.{StreamCounts, by_seat, by_all, posted, taken, closed}
use Rattle.unit_model.specs.Weights.{one_if}
use Rattle.unit_model.specs.declared.machine.Core.{Core}
use Rattle.unit_model.specs.declared.machine.Item.{Item}
use Rattle.unit_model.specs.declared.machine.Note.TheVariants.{Sent}
use Rattle.unit_model.specs.declared.machine.Part.{Part}
use Rattle.unit_model.specs.declared.machine.Whereabouts.{Whereabouts}
use Rattle.unit_model.specs.declared.machine.Whereabouts.TheVariants.{WithSeat}
use Rattle.unit_model.proofs.ItemChanges.{SetsItem, each_item, backs_change}
use Rattle.unit_model.proofs.PartFrames.{carries_none, carries_other, same_withdrawn}
use Rattle.unit_model.proofs.PartLists.{ordered_push, final_push, sent_parts_here, sent_parts_other, none_last, sent_alone, taken_at_most_once}
use Rattle.unit_model.proofs.PartNotes.{PartsStay, PartsGrow, parts_stay, parts_grow, parts_here, parts_rise, parts_before, parts_sent_is, sent_length, one_itself}
use Rattle.unit_model.proofs.PartSteps.{of_this, withdrawn_zero}
use Rattle.unit_model.proofs.SeatNotes.{Adds, Stays, stays, one_seat}
use Rattle.unit_model.proofs.StreamSteps.{posted_at_most_once}

-- what is needed to send the part of an item
pub record MaySend (core : Core) (seat engine item stream : ℕ) : Type 0 where
  pub some : stream ≢ 0
  pub takes : 1 ≤ by_seat taken core seat stream
  pub posts : 1 ≤ by_seat posted core engine stream
  pub no_last : is_last_sent core stream ≡ false
  pub unclosed : by_all closed core stream ≡ 0
  pub next : number_in (item_of core (1 + engine) item).part ≡ parts_sent core stream
  pub no_other : holds_tagged core seat (1 + engine) stream ≡ false
  pub untagged : (item_of core (1 + engine) item).tag ≡ 0
  pub held : whereabouts_code (item_of core (1 + engine) item).whereabouts ≡ 1 + seat

abbrev pub armed : ℕ → Item → Item
armed stream item = record item { tag = stream; stream = stream }

-- the item that the seat holds with this tag is one that the test finds
held_is_found : (core : Core) (seat engine item stream : ℕ) → stream ≢ 0 → (item_of core (1 + engine) item).whereabouts ≡ WithSeat seat → (item_of core (1 + engine) item).tag ≡ stream → holds_tagged core seat (1 + engine) stream ≡ true
held_is_found core seat engine item stream some held tag =
    let items = (queue_of core (1 + engine)).items in
    elim (cases_lt item (length items)) [
      | inr past ↦ absurd (omega (arith, some, tag, ap (λ (i : Item). i.tag) (get_or_past items item blank past)))
      | inl inside ↦
          let code : whereabouts_code (get_or items item blank).whereabouts ≡ 1 + seat = ap whereabouts_code held in
          list_any_at (λ i. whereabouts_code i.whereabouts == 1 + seat && i.tag == stream) items item blank inside
          (rw (eq-eqb (whereabouts_code (get_or items item blank).whereabouts) (1 + seat) code) (eq-eqb (get_or items item blank).tag stream tag))
    ]

code_of_seat : (w : Whereabouts) (j k : ℕ) → whereabouts_code w ≡ 1 + j → w ≡ WithSeat k → k ≡ j
code_of_seat w j k code is = omega (arith, code, ap whereabouts_code is)

-- the part now under way is one more below the number of sent ones
one_more_below : (number m : ℕ) → one_if (nat_lt number (m + 1)) ≡ one_if (nat_lt number m) + one_if (m == number)
one_more_below number m =
    elim (cases_eq m number) [
      | inl same ↦ omega (arith, ap one_if (lt-ltb number (m + 1) (omega (arith, same))), ap one_if (le-ltb number m (omega (arith, same))), ap one_if (eq-eqb m number same))
      | inr other ↦ elim (cases_lt number m) [
        | inl below ↦ omega (arith, ap one_if (lt-ltb number (m + 1) (omega (arith, below))), ap one_if (lt-ltb number m below), ap one_if (ne_eqb m number other))
        | inr above ↦ omega (arith, ap one_if (le-ltb number (m + 1) (omega (arith, above, other))), ap one_if (le-ltb number m above), ap one_if (ne_eqb m number other))
      ]
    ]

-- what the armed item counts for
carries_now : (other number : ℕ) (was : Item) (stream m : ℕ) → stream ≡ other → number_in was.part ≡ m → carries other number (armed stream was) ≡ one_if (m == number)
carries_now other number was stream m this is = rw (eq-eqb stream other this) (ap (λ n. one_if (n == number)) is)

this_or_other : (k seat stream other : ℕ) → ((k ≡ seat) × (stream ≡ other)) ⊎ ((k ≢ seat) ⊎ (stream ≢ other))
this_or_other k seat stream other =
    elim (cases_eq k seat) [
      | inr away ↦ inr (inl away)
      | inl here ↦ elim (cases_eq stream other) [
        | inl this ↦ inl (here, this)
        | inr beside ↦ inr (inr beside)
      ]
    ]

new_order : (core new : Core) (seat : ℕ) (part : Part) (stream k other : ℕ) → PartsGrow sent core new seat part → part.stream ≡ stream → sent_parts new seat stream ≡ sent_parts core seat stream ++ part ∷ [] → ((j : ℕ) → j < length (sent_parts core seat stream) → (get_or (sent_parts core seat stream) j no_part).number ≡ j) → part.number ≡ length (sent_parts core seat stream) → ((j : ℕ) → j < length (sent_parts core k other) → (get_or (sent_parts core k other) j no_part).number ≡ j) → (j : ℕ) → j < length (sent_parts new k other) → (get_or (sent_parts new k other) j no_part).number ≡ j
new_order core new seat part stream k other s is here this next old j =
    elim (this_or_other k seat stream other) [
      | inl both ↦ rw both.0 (rw (sym both.1) (rw here (ordered_push (sent_parts core seat stream) part this next j)))
      | inr off ↦ rw (sent_parts_other core new seat part other k s (rw is off)) (old j)
    ]

new_final : (core new : Core) (seat : ℕ) (part : Part) (stream k other : ℕ) → PartsGrow sent core new seat part → part.stream ≡ stream → sent_parts new seat stream ≡ sent_parts core seat stream ++ part ∷ [] → ((j : ℕ) → j < length (sent_parts core seat stream) → (get_or (sent_parts core seat stream) j no_part).last ≡ false) → ((j : ℕ) → j < length (sent_parts core k other) → (get_or (sent_parts core k other) j no_part).last ≡ true → j + 1 ≡ length (sent_parts core k other)) → (j : ℕ) → j < length (sent_parts new k other) → (get_or (sent_parts new k other) j no_part).last ≡ true → j + 1 ≡ length (sent_parts new k other)
new_final core new seat part stream k other s is here unmarked old j =
    elim (this_or_other k seat stream other) [
      | inl both ↦ rw both.0 (rw (sym both.1) (rw here (final_push (sent_parts core seat stream) part unmarked j)))
      | inr off ↦ rw (sent_parts_other core new seat part other k s (rw is off)) (old j)
    ]

-- no other item of the stream is with a worker
held_twice : (core : Core) (seat engine item stream k e i : ℕ) → StreamCounts core → PartCounts core → MaySend core seat engine item stream → role_of core k ≡ 1 → (item_of core (1 + e) i).whereabouts ≡ WithSeat k → (item_of core (1 + e) i).tag ≡ stream → ⊥
held_twice core seat engine item stream k e i streams parts may worker held tag =
    let tagged : (item_of core (1 + e) i).tag ≢ 0 = omega (arith, tag, may.some) in
    let own : 1 ≤ parts_by_seat sent core k stream = rw tag at (parts.held_is_own k e i worker held tagged) in
    let this_seat : k ≡ seat = one_seat taken core stream k seat refl (taken_at_most_once core streams stream) (parts.sent_by_taker k stream own) may.takes in
    let this_engine : e ≡ engine = one_seat posted core stream e engine refl (posted_at_most_once core streams stream) (rw tag at (parts.to_poster e i tagged)) may.posts in
    let found : holds_tagged core k (1 + e) stream ≡ true = held_is_found core k e i stream may.some held tag in
    absurd (cc (may.no_other, found, this_seat, this_engine))

pub sends : (core new : Core) (seat engine item stream : ℕ) → StreamCounts core → new.shape ≡ core.shape → Adds core new seat (Sent (part_of stream (item_of core (1 + engine) item))) → SetsItem core new (1 + engine) item (armed stream (item_of core (1 + engine) item)) → MaySend core seat engine item stream → PartCounts core → PartCounts new
sends core new seat engine item stream streams shape adds sets may old =
    let was : Item = item_of core (1 + engine) item in
    let now : Item = armed stream was in
    let part : Part = part_of stream was in
    let note = Sent part in
    let c : Stays closed core new = stays closed core new seat note adds (λ l. refl) in
    let t : Stays taken core new = stays taken core new seat note adds (λ l. refl) in
    let p : Stays posted core new = stays posted core new seat note adds (λ l. refl) in
    let s : PartsGrow sent core new seat part = parts_grow sent core new seat note part adds (λ l. refl) in
    let r : PartsStay received core new = parts_stay received core new seat note adds (λ l. refl) in
    let role : (k : ℕ) → role_of new k ≡ role_of core k = λ k. rw shape refl in
    let m : ℕ = parts_sent core stream in
    let grown : (other : ℕ) → parts_sent new other ≡ parts_sent core other + of_stream other part = λ other. omega (arith, parts_sent_is new other, s.all (of_stream other), parts_sent_is core other) in
    let more : parts_sent new stream ≡ m + 1 = omega (arith, grown stream, ap one_if (eq-eqb stream stream refl)) in
    let same : (other : ℕ) → stream ≢ other → parts_sent new other ≡ parts_sent core other = λ other beside. omega (arith, grown other, ap one_if (ne_eqb stream other beside)) in
    let count : m ≡ length (sent_parts core seat stream) = sent_alone core seat stream streams (λ k. old.sent_by_taker k stream) adds.inside may.takes ∙ sym (sent_length core seat stream) in
    let here : sent_parts new seat stream ≡ sent_parts core seat stream ++ part ∷ [] = sent_parts_here core new seat part stream s refl in
    record {
      closed_by_taker = λ k other. omega (arith, c.each k other, t.each k other, old.closed_by_taker k other);
      sent_by_taker = λ k other has. elim (parts_before sent core new seat part s (of_stream other) k has) [
        | inl before ↦ omega (arith, t.each k other, old.sent_by_taker k other before)
        | inr now_sent ↦
            let this : stream ≡ other = of_this stream other part.number part.last now_sent.1 in
            rw now_sent.0 (rw (sym this) (omega (arith, t.each seat stream, may.takes)))
      ];
      received_by_poster = λ k other has. omega (arith, p.each k other, old.received_by_poster k other (rw (r.each k) at has));
      in_order = λ k other. new_order core new seat part stream k other s refl here (old.in_order seat stream) (may.next ∙ count) (old.in_order k other);
      last_is_final = λ k other. new_final core new seat part stream k other s refl here (none_last core seat stream adds.inside may.no_last) (old.last_is_final k other);
      one_state = λ other number ne.
          let backs = backs_change (carries other number) core new engine item now sets in
          let none = carries_none other number was ne may.untagged in
          let state = old.one_state other number ne in
          let received_same = r.all (of_number other number) in
          elim (cases_eq stream other) [
            | inr beside ↦ omega (arith, backs, none, carries_other other number now beside, received_same, ap (λ l. one_if (nat_lt number l)) (same other beside), same_withdrawn core new other number (same other beside) (c.all other), state)
            | inl this ↦
                let last : parts_sent new other ≡ parts_sent core other + 1 = omega (arith, more, ap (parts_sent new) this, ap (parts_sent core) this) in
                let unclosed : by_all closed core other ≡ 0 = omega (arith, may.unclosed, ap (by_all closed core) this) in
                omega (arith, backs, none, carries_now other number was stream m this may.next, ap (λ s. one_if (parts_sent core s == number)) this, received_same, ap (λ l. one_if (nat_lt number l)) last, one_more_below number (parts_sent core other), withdrawn_zero core other number unclosed, withdrawn_zero new other number (omega (arith, c.all other, unclosed)), state)
          ];
      to_poster = λ e i.
          each_item (λ x. x.tag ≢ 0 → 1 ≤ by_seat posted new e x.tag) core new (1 + engine) item now sets (1 + e) i
          (λ queue this tagged. let same_engine : e ≡ engine = omega (arith, queue) in rw same_engine (omega (arith, p.each engine stream, may.posts)))
          (λ beside tagged. omega (arith, p.each e (item_of core (1 + e) i).tag, old.to_poster e i tagged));
      under_way_was_sent = λ e i.
          each_item (λ x. x.tag ≢ 0 → 1 ≤ times_sent new (part_of x.tag x)) core new (1 + engine) item now sets (1 + e) i
          (λ queue this tagged. omega (arith, s.all (same_part part), one_itself part))
          (λ beside tagged. omega (arith, s.all (same_part (part_of (item_of core (1 + e) i).tag (item_of core (1 + e) i))), old.under_way_was_sent e i tagged));
      received_was_sent = λ other has. omega (arith, s.all (same_part other), old.received_was_sent other (omega (arith, has, r.all (same_part other))));
      held_is_own = λ k e i worker.
          each_item (λ x. x.whereabouts ≡ WithSeat k → x.tag ≢ 0 → 1 ≤ parts_by_seat sent new k x.tag) core new (1 + engine) item now sets (1 + e) i
          (λ queue this is tagged. rw (code_of_seat was.whereabouts seat k may.held is) (omega (arith, parts_here sent core new seat part s (of_stream stream), ap one_if (eq-eqb stream stream refl))))
          (λ beside is tagged. omega (arith, parts_rise sent core new seat part s (of_stream (item_of core (1 + e) i).tag) k, old.held_is_own k e i (rw (role k) at worker) is tagged));
      held_is_final = λ k e i worker.
          each_item (λ x. x.whereabouts ≡ WithSeat k → x.tag ≢ 0 → number_in x.part + 1 ≡ parts_sent new x.tag) core new (1 + engine) item now sets (1 + e) i
          (λ queue this is tagged. omega (arith, may.next, more))
          (λ beside is tagged. elim (cases_eq stream (item_of core (1 + e) i).tag) [
            | inr other ↦ omega (arith, same (item_of core (1 + e) i).tag other, old.held_is_final k e i (rw (role k) at worker) is tagged)
            | inl this ↦ absurd (held_twice core seat engine item stream k e i streams old may (rw (role k) at worker) is (sym this))
          ]);
    }
