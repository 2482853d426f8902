-- The counts of parts after a part is sent, received, or taken back.
use Rattle.std.proofs.Common.{◌≡◌, ◌≢◌, ℕ, ◌+◌, ◌≤◌, ◌==◌, nat_lt, Bool, true, false, filter, refl, sym, ap, ◌∙◌, arith, inl, inr}
use Rattle.std.proofs.lemmas.Bool.{cases_eq, cases_lt, eq-eqb, ne_eqb, cases_Bool}
use Rattle.unit_model.specs.Conditions.{parts_sent, part_of, is_same_part}
use Rattle.unit_model.specs.Core.{blank, item_of, number_in, role_of}
use Rattle.unit_model.specs.PartCounts.{PartCounts, is_of_stream, of_stream, of_number, same_part, parts_by_seat, sent, received, sent_parts, times_sent, carries, times_under_way, times_withdrawn}
use Rattle.unit_model.specs.StreamCounts.{StreamCounts, by_seat, by_all, posted, taken, closed}
use Rattle.unit_model.specs.Weights.{one_if, is_number, over_all}
use Rattle.unit_model.specs.declared.machine.Core.{Core}
use Rattle.unit_model.specs.declared.machine.Item.{Item}
use Rattle.unit_model.specs.declared.machine.Note.TheVariants.{Received, Closed}
use Rattle.unit_model.specs.declared.machine.Part.{Part}
use Rattle.unit_model.specs.declared.machine.Whereabouts.TheVariants.{WithSeat}
use Rattle.unit_model.proofs.ItemChanges.{SetsItem, each_item, backs_change, back_item_in_all}
use Rattle.unit_model.proofs.PartFrames.{carries_none, carries_other, carries_this, same_withdrawn, sent_stays}
use Rattle.unit_model.proofs.PartNotes.{PartsStay, PartsGrow, parts_stay, parts_grow, parts_before, same_is}
use Rattle.unit_model.proofs.SeatNotes.{Adds, Stays, Grows, stays, grows, seat_in_all}
use Rattle.unit_model.proofs.StreamSteps.{stays_within}
use Rattle.unit_model.proofs.Weights.{is_number_same, is_number_other}

-- ---- a part is received

-- the stream and number of the part of an item are what it carries
carried : (stream number : ℕ) (item : Item) → of_number stream number (part_of item.tag item) ≡ carries stream number item
carried stream number item = refl

-- what counts as a part of a stream is of it
pub of_this : (one stream number : ℕ) (last : Bool) → 1 ≤ of_stream stream (record { stream = one; number = number; last = last }) → one ≡ stream
of_this one stream number last counts =
    elim (cases_eq one stream) [
      | inl same ↦ same
      | inr other ↦ absurd (omega (arith, counts, ap one_if (ne_eqb one stream other)))
    ]

-- what counts as the same part is it
pub counted_is : (one other : Part) → 1 ≤ same_part one other → one ≡ other
counted_is one other counts =
    elim (cases_Bool (is_same_part one other)) [
      | inl same ↦ same_is one other same
      | inr differs ↦ absurd (omega (arith, counts, ap one_if differs))
    ]

pub receives : (core new : Core) (seat item : ℕ) (now : Item) → new.shape ≡ core.shape → Adds core new seat (Received (part_of (item_of core (1 + seat) item).tag (item_of core (1 + seat) item))) → SetsItem core new (1 + seat) item now → now.tag ≡ 0 → (item_of core (1 + seat) item).tag ≢ 0 → PartCounts core → PartCounts new
receives core new seat item now shape adds sets untagged some old =
    let was : Item = item_of core (1 + seat) item in
    let part : Part = part_of was.tag was in
    let note = Received part in
    let c : Stays closed core new = stays closed core new seat note adds (λ l. refl) in
    let t : Stays taken core new = stays taken core new seat note adds (λ l. refl) in
    let p : Stays posted core new = stays posted core new seat note adds (λ l. refl) in
    let s : PartsStay sent core new = parts_stay sent core new seat note adds (λ l. refl) in
    let r : PartsGrow received core new seat part = parts_grow received core new seat note part adds (λ l. refl) in
    let role : (k : ℕ) → role_of new k ≡ role_of core k = λ k. rw shape refl in
    let m : (stream : ℕ) → parts_sent new stream ≡ parts_sent core stream = sent_stays core new s in
    let parts : (k stream : ℕ) → sent_parts new k stream ≡ sent_parts core k stream = λ k stream. ap (filter (is_of_stream stream)) (s.each k) in
    record {
      closed_by_taker = λ k stream. omega (arith, c.each k stream, t.each k stream, old.closed_by_taker k stream);
      sent_by_taker = λ k stream has. omega (arith, t.each k stream, old.sent_by_taker k stream (rw (s.each k) at has));
      received_by_poster = λ k stream has. elim (parts_before received core new seat part r (of_stream stream) k has) [
        | inl before ↦ omega (arith, p.each k stream, old.received_by_poster k stream before)
        | inr here ↦
            let this : was.tag ≡ stream = of_this was.tag stream part.number part.last here.1 in
            rw here.0 (rw (sym this) (omega (arith, p.each seat was.tag, old.to_poster seat item some)))
      ];
      in_order = λ k stream place. rw (parts k stream) (old.in_order k stream place);
      last_is_final = λ k stream place. rw (parts k stream) (old.last_is_final k stream place);
      one_state = λ stream number ne. omega (arith, ap (λ n. one_if (nat_lt number n)) (m stream), backs_change (carries stream number) core new seat item now sets, carries_none stream number now ne untagged, r.all (of_number stream number), carried stream number was, same_withdrawn core new stream number (m stream) (c.all stream), old.one_state stream number ne);
      to_poster = λ e i.
          each_item (λ x. x.tag ≢ 0 → 1 ≤ by_seat posted new e x.tag) core new (1 + seat) item now sets (1 + e) i
          (λ here this tagged. absurd (tagged untagged))
          (λ beside tagged. omega (arith, p.each e (item_of core (1 + e) i).tag, old.to_poster e i tagged));
      under_way_was_sent = λ e i.
          each_item (λ x. x.tag ≢ 0 → 1 ≤ times_sent new (part_of x.tag x)) core new (1 + seat) item now sets (1 + e) i
          (λ here this tagged. absurd (tagged untagged))
          (λ beside tagged. omega (arith, s.all (same_part (part_of (item_of core (1 + e) i).tag (item_of core (1 + e) i))), old.under_way_was_sent e i tagged));
      received_was_sent = λ other has. elim (cases_lt 0 (over_all (same_part other) received core.seats)) [
        | inl before ↦ omega (arith, s.all (same_part other), old.received_was_sent other (omega (arith, before)))
        | inr none ↦
            let same : other ≡ part = counted_is other part (omega (arith, has, none, r.all (same_part other))) in
            rw same (omega (arith, s.all (same_part part), old.under_way_was_sent seat item some))
      ];
      held_is_own = λ k e i worker.
          each_item (λ x. x.whereabouts ≡ WithSeat k → x.tag ≢ 0 → 1 ≤ parts_by_seat sent new k x.tag) core new (1 + seat) item now sets (1 + e) i
          (λ here this is tagged. absurd (tagged untagged))
          (λ beside is tagged. rw (s.each k) (old.held_is_own k e i (rw (role k) at worker) is tagged));
      held_is_final = λ k e i worker.
          each_item (λ x. x.whereabouts ≡ WithSeat k → x.tag ≢ 0 → number_in x.part + 1 ≡ parts_sent new x.tag) core new (1 + seat) item now sets (1 + e) i
          (λ here this is tagged. absurd (tagged untagged))
          (λ beside is tagged. rw (m (item_of core (1 + e) i).tag) (old.held_is_final k e i (rw (role k) at worker) is tagged));
    }

-- ---- the final part is taken back

pub withdrawn_zero : (core : Core) (stream number : ℕ) → by_all closed core stream ≡ 0 → times_withdrawn core stream number ≡ 0
withdrawn_zero core stream number none =
    elim (cases_Bool (number + 1 == parts_sent core stream)) [
      | inl final ↦ rw final none
      | inr not_final ↦ rw not_final refl
    ]

pub withdrawn_other : (core : Core) (stream number : ℕ) → number + 1 ≢ parts_sent core stream → times_withdrawn core stream number ≡ 0
withdrawn_other core stream number other = rw (ne_eqb (number + 1) (parts_sent core stream) other) refl

withdrawn_final : (core : Core) (stream number : ℕ) → number + 1 ≡ parts_sent core stream → times_withdrawn core stream number ≡ by_all closed core stream
withdrawn_final core stream number final = rw (eq-eqb (number + 1) (parts_sent core stream) final) refl

pub one_if_small : (b : Bool) → one_if b ≤ 1
one_if_small true = omega arith
one_if_small false = omega arith

pub carries_past : (stream number : ℕ) (item : Item) → number_in item.part ≢ number → carries stream number item ≡ 0
carries_past stream number item other =
    elim (cases_Bool (item.tag == stream)) [
      | inl this ↦ rw this (rw (ne_eqb (number_in item.part) number other) refl)
      | inr beside ↦ rw beside refl
    ]

-- the stream of a part that a worker holds isn't closed
pub held_unclosed : (core : Core) (seat engine item : ℕ) → PartCounts core → role_of core seat ≡ 1 → (item_of core (1 + engine) item).whereabouts ≡ WithSeat seat
    → (item_of core (1 + engine) item).tag ≢ 0 → by_all closed core (item_of core (1 + engine) item).tag ≡ 0
held_unclosed core seat engine item counts worker held some =
    let was : Item = item_of core (1 + engine) item in
    let stream : ℕ = was.tag in
    let number : ℕ = number_in was.part in
    let final : number + 1 ≡ parts_sent core stream = counts.held_is_final seat engine item worker held some in
    let under_way : 1 ≤ times_under_way core stream number =
    omega (arith, carries_this stream number was refl refl, back_item_in_all (carries stream number) core engine item (carries_none stream number blank some refl)) in
    omega (arith, counts.one_state stream number some, under_way, one_if_small (nat_lt number (parts_sent core stream)), withdrawn_final core stream number final)

pub withdraws : (core new : Core) (seat engine item : ℕ) (now : Item) → StreamCounts core → new.shape ≡ core.shape → Adds core new seat (Closed (item_of core (1 + engine) item).tag) → SetsItem core new (1 + engine) item now → now.tag ≡ 0 → (item_of core (1 + engine) item).tag ≢ 0 → role_of core seat ≡ 1 → (item_of core (1 + engine) item).whereabouts ≡ WithSeat seat → PartCounts core → PartCounts new
withdraws core new seat engine item now streams shape adds sets untagged some worker held old =
    let was : Item = item_of core (1 + engine) item in
    let stream : ℕ = was.tag in
    let note = Closed stream in
    let c : Grows closed core new seat stream = grows closed core new seat note stream adds (λ l. refl) in
    let t : Stays taken core new = stays taken core new seat note adds (λ l. refl) in
    let p : Stays posted core new = stays posted core new seat note adds (λ l. refl) in
    let s : PartsStay sent core new = parts_stay sent core new seat note adds (λ l. refl) in
    let r : PartsStay received core new = parts_stay received core new seat note adds (λ l. refl) in
    let role : (k : ℕ) → role_of new k ≡ role_of core k = λ k. rw shape refl in
    let m : (other : ℕ) → parts_sent new other ≡ parts_sent core other = sent_stays core new s in
    let parts : (k other : ℕ) → sent_parts new k other ≡ sent_parts core k other = λ k other. ap (filter (is_of_stream other)) (s.each k) in
    let number : ℕ = number_in was.part in
    let final : number + 1 ≡ parts_sent core stream = old.held_is_final seat engine item worker held some in
    let has : 1 ≤ by_seat taken core seat stream = old.sent_by_taker seat stream (old.held_is_own seat engine item worker held some) in
    let unclosed : by_all closed core stream ≡ 0 = held_unclosed core seat engine item old worker held some in
    let more : by_seat closed core seat stream + 1 ≤ by_seat taken core seat stream = omega (arith, seat_in_all closed core seat stream refl, unclosed, has) in
    record {
      closed_by_taker = λ k other. omega (arith, t.each k other, stays_within closed core new seat stream (λ k other. by_seat taken core k other) c old.closed_by_taker more k other);
      sent_by_taker = λ k other some_sent. omega (arith, t.each k other, old.sent_by_taker k other (rw (s.each k) at some_sent));
      received_by_poster = λ k other some_received. omega (arith, p.each k other, old.received_by_poster k other (rw (r.each k) at some_received));
      in_order = λ k other place. rw (parts k other) (old.in_order k other place);
      last_is_final = λ k other place. rw (parts k other) (old.last_is_final k other place);
      one_state = λ other n ne.
          let backs = backs_change (carries other n) core new engine item now sets in
          let none = carries_none other n now ne untagged in
          let state = old.one_state other n ne in
          let received_same = r.all (of_number other n) in
          let right = ap (λ l. one_if (nat_lt n l)) (m other) in
          elim (cases_eq stream other) [
            | inr beside ↦ omega (arith, right, backs, none, carries_other other n was beside, received_same, same_withdrawn core new other n (m other) (c.all other ∙ omega (arith, is_number_other other stream beside)), state)
            | inl this ↦ elim (cases_eq number n) [
              | inl now_final ↦
                  let last : n + 1 ≡ parts_sent core other = omega (arith, final, now_final, ap (parts_sent core) this) in
                  omega (arith, right, backs, none, carries_this other n was this now_final, received_same, withdrawn_final core other n last, withdrawn_final new other n (last ∙ sym (m other)), c.all other, ap (is_number other) this, is_number_same other, state)
              | inr before ↦
                  let earlier : n + 1 ≢ parts_sent core other = omega (arith, final, before, ap (parts_sent core) this) in
                  omega (arith, right, backs, none, carries_past other n was before, received_same, withdrawn_other core other n earlier, withdrawn_other new other n (omega (arith, earlier, m other)), state)
            ]
          ];
      to_poster = λ e i.
          each_item (λ x. x.tag ≢ 0 → 1 ≤ by_seat posted new e x.tag) core new (1 + engine) item now sets (1 + e) i
          (λ here this tagged. absurd (tagged untagged))
          (λ beside tagged. omega (arith, p.each e (item_of core (1 + e) i).tag, old.to_poster e i tagged));
      under_way_was_sent = λ e i.
          each_item (λ x. x.tag ≢ 0 → 1 ≤ times_sent new (part_of x.tag x)) core new (1 + engine) item now sets (1 + e) i
          (λ here this tagged. absurd (tagged untagged))
          (λ beside tagged. omega (arith, s.all (same_part (part_of (item_of core (1 + e) i).tag (item_of core (1 + e) i))), old.under_way_was_sent e i tagged));
      received_was_sent = λ part some_received. omega (arith, s.all (same_part part), old.received_was_sent part (omega (arith, some_received, r.all (same_part part))));
      held_is_own = λ k e i other_worker.
          each_item (λ x. x.whereabouts ≡ WithSeat k → x.tag ≢ 0 → 1 ≤ parts_by_seat sent new k x.tag) core new (1 + engine) item now sets (1 + e) i
          (λ here this is tagged. absurd (tagged untagged))
          (λ beside is tagged. rw (s.each k) (old.held_is_own k e i (rw (role k) at other_worker) is tagged));
      held_is_final = λ k e i other_worker.
          each_item (λ x. x.whereabouts ≡ WithSeat k → x.tag ≢ 0 → number_in x.part + 1 ≡ parts_sent new x.tag) core new (1 + engine) item now sets (1 + e) i
          (λ here this is tagged. absurd (tagged untagged))
          (λ beside is tagged. rw (m (item_of core (1 + e) i).tag) (old.held_is_final k e i (rw (role k) at other_worker) is tagged));
    }
