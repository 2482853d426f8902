-- Whole requests, from rest to rest.
use Rattle.std.proofs.Common.{◌≡◌, ◌≢◌, ℕ, suc, ◌+◌, ◌^◌, ◌==◌, ◌&&◌, ◌≤◌, ◌<◌, inl, inr, Bool, true, false, List, [], ◌∷◌, ◌++◌, length, get_or, refl, sym, ap, subst, ◌∙◌, arith}
use Rattle.std.proofs.lemmas.Bool.{cases_eq, eq-eqb, ne_eqb}
use Rattle.std.specs.List.{list_any}
use Rattle.port_message.specs.Words.{part_word_of}
use Rattle.unit_model.proofs.Introductions.{met_engine, met_next_stream}
use Rattle.unit_model.proofs.ListPremises.{own_send}
use Rattle.unit_model.proofs.SoundRuns.{keeps_sound}
use Rattle.unit_model.specs.Conditions.{conditions_by, has_stream, holds_tagged}
use Rattle.unit_model.specs.Core.{blank, whereabouts_code, no_seat, queue_of, item_of, owner_of, seat_of, role_of, number_in, is_last_in}
use Rattle.unit_model.specs.Effects.{after_step, with_note, noted, settled_note}
use Rattle.unit_model.specs.Limits.{segment_chunks, stream_limit}
use Rattle.unit_model.specs.Runs.{chunks_for}
use Rattle.unit_model.specs.Lists.{change_at}
use Rattle.unit_model.specs.PartCounts.{of_stream}
use Rattle.unit_model.specs.Premises.{Fills, Empties, Worker, Engine, MayArm, Posts, Sends, MaySettle, Cancels}
use Rattle.unit_model.specs.Running.{Enabled}
use Rattle.unit_model.specs.Shapes.{role_in}
use Rattle.unit_model.specs.Soundness.{IsSound}
use Rattle.unit_model.specs.Weights.{weigh}
use Rattle.unit_model.specs.declared.machine.Core.{Core}
use Rattle.unit_model.specs.declared.machine.Item.{Item}
use Rattle.unit_model.specs.declared.machine.Note.TheVariants.{Drawn, Posted, Cancelled, Received, Taken, Sent}
use Rattle.unit_model.specs.declared.machine.Owner.TheVariants.{Free}
use Rattle.unit_model.specs.declared.machine.Part.{Part}
use Rattle.unit_model.specs.declared.machine.Seat.{Seat as SeatLists}
use Rattle.unit_model.specs.declared.machine.Step.TheVariants.{Draw}
use Rattle.unit_model.specs.declared.shape.Shape.{Shape}
use Rattle.plain_fabric.proofs.Passing.{CanSend, IsReady, IsSent, IsOver, sent_lane, sending_leads, taking_leads, cancelling_leads, passed_here, passed_beside, all_free}
use Rattle.plain_fabric.proofs.Runs.{Leads, done, then, joined, so}
use Rattle.plain_fabric.proofs.Streams.{Goes, any_last, goes_first, goes_on, goes_out, cancelled_again, number_is, last_is, none_sent, unclosed_next, unlast_next, unposted}
use Rattle.plain_fabric.specs.AtRest.{HasPassed, HasNothingOpen, IsAtRest}
use Rattle.plain_fabric.specs.Laws.{AllFit, AnsweredLaw, FitsSegment, HungUpLaw}
use Rattle.plain_fabric.specs.declared.message.Message.{Message}
use Rattle.plain_fabric.specs.Schedule.{item_of_message, part_message, part_steps, request_message, sending, taking, cancelling}

-- ---- one engine and one worker

module _ (shape : Shape) (engines : shape.engines ≡ 1) (workers : shape.workers ≡ 1) where
  engine_role : (core : Core) → core.shape ≡ shape → role_of core 0 ≡ 0
  engine_role core is = ap (λ (s : Shape). role_in s 0) is ∙ rw engines refl

  pub worker_role : (core : Core) → core.shape ≡ shape → role_of core 1 ≡ 1
  worker_role core is = ap (λ (s : Shape). role_in s 1) is ∙ rw (engines, workers) refl

  engine_fills : (core : Core) → core.shape ≡ shape → Fills core 0 0
  engine_fills core is = record { role = omega (arith, engine_role core is); side = rw (engine_role core is) refl }

  worker_fills : (core : Core) → core.shape ≡ shape → Fills core 1 1
  worker_fills core is = record { role = omega (arith, worker_role core is); side = rw (worker_role core is) refl }

  worker_empties : (core : Core) → core.shape ≡ shape → Empties core 1 0
  worker_empties core is = Worker (worker_role core is) refl

  engine_empties : (core : Core) → core.shape ≡ shape → Empties core 0 1
  engine_empties core is = Engine (engine_role core is) refl

two_of : {X : Type 0} (xs : List X) (d : X) → length xs ≡ 2 → xs ≡ get_or xs 0 d ∷ get_or xs 1 d ∷ []
two_of [] d long = absurd (omega (arith, long))
two_of (x ∷ []) d long = absurd (omega (arith, long))
two_of (x ∷ (y ∷ [])) d long = refl
two_of (x ∷ (y ∷ (z ∷ xs))) d long = absurd (omega (arith, long))

-- where no item has the tag, none that a seat holds has it
untagged_none : (test : Item → Bool) (items : List Item) → ((j : ℕ) → test (get_or items j blank) ≡ false) → list_any test items ≡ false
untagged_none test [] each = refl
untagged_none test (x ∷ items) each = rw (each 0) (untagged_none test items (λ j. each (suc j)))

-- ---- a machine between two messages

-- what stands of it beside the lists of its seats
pub record Stands (shape : Shape) (next line back : ℕ) (core : Core) : Type 0 where
  pub sound : IsSound core
  pub shape_is : core.shape ≡ shape
  pub next_is : core.next ≡ next
  pub line_is : HasPassed core 0 line
  pub back_is : HasPassed core 1 back
  pub chunks : (number : ℕ) → owner_of core number ≡ Free

-- the worker has the stream, and so many parts of it were sent and received
pub record Between (shape : Shape) (drawn sent number : ℕ) (core : Core) : Type 0 where
  pub stands : Stands shape (drawn + 1 + 1) (drawn + 1) sent core
  pub goes : Goes (drawn + 1) number (seat_of core 0) (seat_of core 1)

-- the item of a message that was sent
abbrev sent_item : Core → Message → Item
sent_item base m = (sent_lane base m).item

and_off : (a : Bool) → (a && false) ≡ false
and_off true = refl
and_off false = refl

-- behind a message the other facts stand too
over_stands : (shape : Shape) (base core : Core) (m : Message) (seat next line back : ℕ) → CanSend base m → IsOver base m seat core → base.shape ≡ shape → base.next ≡ next
    → HasPassed core 0 line → HasPassed core 1 back → Stands shape next line back core
over_stands shape base core m seat next line back can over is_shape is_next is_line is_back = record {
  sound = over.sound;
  shape_is = over.shape ∙ is_shape;
  next_is = over.next_is ∙ is_next;
  line_is = is_line;
  back_is = is_back;
  chunks = all_free base m can seat core over;
}

-- a message that is sent and taken
message_leads : (base : Core) (m : Message) (can : CanSend base m)
    → ((core : Core) → IsReady base m core → MayArm core m.from m.queue (item_of_message base.shape m) m.stream m.part)
    → Leads base (sending base.shape m ++ taking base.shape m) (IsOver base m m.to)
message_leads base m can may =
    joined (IsSent base m) (IsOver base m m.to) base (sending base.shape m) (taking base.shape m) (sending_leads base m can may) (taking_leads base m can)

module _ (shape : Shape) (engines : shape.engines ≡ 1) (workers : shape.workers ≡ 1) where
  pub seats_are_two : (core : Core) → IsSound core → core.shape ≡ shape → core.seats ≡ seat_of core 0 ∷ seat_of core 1 ∷ []
  seats_are_two core sound is =
      let count : length core.seats ≡ core.shape.engines + core.shape.workers = sound.held.shape.seats in
      two_of core.seats no_seat (omega (arith, count, ap (λ (s : Shape). s.engines) is, ap (λ (s : Shape). s.workers) is, engines, workers))

  few_chunks : (size : ℕ) → FitsSegment size → 0 + chunks_for size ≤ segment_chunks
  few_chunks size fits = omega (arith, fits.1)

  request_can : (base : Core) (next drawn sent size : ℕ) → Stands shape next drawn sent base → drawn < 2 ^ 48 → FitsSegment size → CanSend base (request_message drawn size)
  request_can base next drawn sent size stands few fits =
      let valid = stands.sound.held.shape.shape in
      record {
        sound = stands.sound;
        there = omega arith;
        passed = stands.line_is;
        free = stands.chunks;
        fits = record { some = fits.0; in_segment = few_chunks size fits; on_side = (omega arith, omega (arith, valid.out_segments.0)) };
        fills = λ c is. engine_fills shape engines workers c (is ∙ stands.shape_is);
        empties = λ c is. worker_empties shape engines workers c (is ∙ stands.shape_is);
        early = omega (arith, valid.room_behind, valid.items.1, few);
        some = omega arith;
      }

  part_can : (base : Core) (next drawn sent number size : ℕ) (last : Bool) → Stands shape next (drawn + 1) sent base → sent < 2 ^ 61 → FitsSegment size → CanSend base (part_message drawn sent number last size)
  part_can base next drawn sent number size last stands few fits =
      let valid = stands.sound.held.shape.shape in
      record {
        sound = stands.sound;
        there = omega (arith, valid.engines.0);
        passed = stands.back_is;
        free = stands.chunks;
        fits = record { some = fits.0; in_segment = few_chunks size fits; on_side = (omega arith, omega (arith, valid.back_segments.0)) };
        fills = λ c is. worker_fills shape engines workers c (is ∙ stands.shape_is);
        empties = λ c is. engine_empties shape engines workers c (is ∙ stands.shape_is);
        early = omega (arith, valid.room_behind, valid.back_items.1, few);
        some = omega arith;
      }

  rests : (core : Core) (drawn sent : ℕ) → Stands shape (drawn + 1) drawn sent core → HasNothingOpen (seat_of core 0) → IsAtRest core drawn sent
  rests core drawn sent stands ended = record {
    sound = stands.sound;
    engines = ap (λ (s : Shape). s.engines) stands.shape_is ∙ engines;
    workers = ap (λ (s : Shape). s.workers) stands.shape_is ∙ workers;
    next = stands.next_is;
    line = stands.line_is;
    back = stands.back_is;
    chunks = stands.chunks;
    nothing_open = ended;
  }

  -- ---- the request

  -- the stream is drawn
  pub record HasDrawn (drawn sent : ℕ) (engine worker : SeatLists) (core : Core) : Type 0 where
    pub stands : Stands shape (drawn + 1 + 1) drawn sent core
    pub seats : core.seats ≡ noted (Drawn (drawn + 1)) engine ∷ worker ∷ []
    pub unposted_it : has_stream (drawn + 1) engine.posted ≡ false
    pub unlast : list_any (λ part. part.stream == (drawn + 1) && part.last) worker.sent ≡ false
    pub unclosed : has_stream (drawn + 1) worker.closed ≡ false
    pub none : weigh (of_stream (drawn + 1)) worker.sent ≡ 0
    pub nothing_open : HasNothingOpen engine

  draws : (core : Core) (drawn sent : ℕ) → core.shape ≡ shape → IsAtRest core drawn sent → drawn < 2 ^ 48
      → Enabled core (Draw 0 (drawn + 1)) × HasDrawn drawn sent (seat_of core 0) (seat_of core 1) (after_step core (Draw 0 (drawn + 1)))
  unfolding conditions_by after_step with_note
  draws core drawn sent is rest few =
      let next : core.next ≡ drawn + 1 = rest.next in
      let low : drawn + 1 < stream_limit = omega (arith, few) in
      let enabled : Enabled core (Draw 0 (drawn + 1)) = rw (met_engine core 0 (engine_role shape engines workers core is), met_next_stream core (drawn + 1) (sym next) low) refl in (
        enabled,
        record {
          stands = record {
            sound = keeps_sound core (Draw 0 (drawn + 1)) rest.sound enabled;
            shape_is = is;
            next_is = refl;
            line_is = record { items = rest.line.items; untagged = rest.line.untagged; free = rest.line.free; next_free = rest.line.next_free; line = rest.line.line; next_line = rest.line.next_line };
            back_is = record { items = rest.back.items; untagged = rest.back.untagged; free = rest.back.free; next_free = rest.back.next_free; line = rest.back.line; next_line = rest.back.next_line };
            chunks = rest.chunks;
          };
          seats = ap (change_at 0 (noted (Drawn (drawn + 1)))) (seats_are_two core rest.sound is);
          unposted_it = subst (λ (s : ℕ). has_stream s (seat_of core 0).posted ≡ false) next (unposted core rest.sound 0);
          unlast = subst (λ (s : ℕ). list_any (λ (part : Part). part.stream == s && part.last) (seat_of core 1).sent ≡ false) next (unlast_next core rest.sound 1);
          unclosed = subst (λ (s : ℕ). has_stream s (seat_of core 1).closed ≡ false) next (unclosed_next core rest.sound 1);
          none = subst (λ (s : ℕ). weigh (of_stream s) (seat_of core 1).sent ≡ 0) next (none_sent core rest.sound 1);
          nothing_open = rest.nothing_open;
        },
      )

  module _ (base : Core) (drawn sent size : ℕ) (engine worker : SeatLists) (has : HasDrawn drawn sent engine worker base) (few : drawn < 2 ^ 48) (fits : FitsSegment size) where
    abbrev request : Message
    request = request_message drawn size

    can : CanSend base (request_message drawn size)
    can = request_can base (drawn + 1 + 1) drawn sent size has.stands few fits

    may_post : (core : Core) → IsReady base request core → MayArm core 0 0 (item_of_message base.shape request) (drawn + 1) 0
    may_post core ready =
        let seats : core.seats ≡ noted (Drawn (drawn + 1)) engine ∷ worker ∷ [] = ready.seats_are ∙ has.seats in
        let first : seat_of core 0 ≡ noted (Drawn (drawn + 1)) engine = ap (λ (l : List SeatLists). get_or l 0 no_seat) seats in
        Posts (record {
          line = refl;
          drawn = ap (λ (l : SeatLists). has_stream (drawn + 1) l.drawn) first ∙ any_last (λ x. x == (drawn + 1)) engine.drawn (drawn + 1) (eq-eqb (drawn + 1) (drawn + 1) refl);
          unposted = ap (λ (l : SeatLists). has_stream (drawn + 1) l.posted) first ∙ has.unposted_it;
          own = refl;
        })

    -- the worker has it
    taken_leads : Leads base (sending base.shape request ++ taking base.shape request) (Between shape drawn sent 0)
    taken_leads = so (IsOver base request 1) (Between shape drawn sent 0) base (sending base.shape request ++ taking base.shape request) (message_leads base request can may_post) (λ core over.
        let role : role_of base 1 ≡ 1 = worker_role shape engines workers base has.stands.shape_is in
        let seats : core.seats ≡ noted (Posted (drawn + 1)) (noted (Drawn (drawn + 1)) engine) ∷ noted (Taken (drawn + 1)) worker ∷ [] =
        over.seats_are
        ∙ ap (λ (l : List SeatLists). change_at 1 (noted (settled_note (role_of base 1 == 0) 0 (drawn + 1) (sent_item base request))) (change_at 0 (noted (Posted (drawn + 1))) l)) has.seats
        ∙ ap (λ (k : ℕ). noted (Posted (drawn + 1)) (noted (Drawn (drawn + 1)) engine) ∷ noted (settled_note (k == 0) 0 (drawn + 1) (sent_item base request)) worker ∷ []) role in
        record {
          stands = over_stands shape base core request 1 (drawn + 1 + 1) (drawn + 1) sent can over has.stands.shape_is has.stands.next_is
              (passed_here base request can 1 core over) (passed_beside base request can 1 core over 1 sent (omega arith) has.stands.back_is);
          goes = subst (λ (l : List SeatLists). Goes (drawn + 1) 0 (get_or l 0 no_seat) (get_or l 1 no_seat)) (sym seats) (goes_first (drawn + 1) engine has.nothing_open worker has.unlast has.unclosed has.none);
        })

    -- or it is cancelled
    cancelled_leads : Leads base (sending base.shape request ++ cancelling base.shape request) (λ core. IsAtRest core (drawn + 1) sent)
    cancelled_leads = so (IsOver base request 0) (λ core. IsAtRest core (drawn + 1) sent) base (sending base.shape request ++ cancelling base.shape request)
        (joined (IsSent base request) (IsOver base request 0) base (sending base.shape request) (cancelling base.shape request) (sending_leads base request can may_post)
        (λ core at. cancelling_leads base request can core at (may_cancel core at)))
        (λ core over.
        let role : role_of base 0 ≡ 0 = engine_role shape engines workers base has.stands.shape_is in
        let seats : core.seats ≡ noted (Cancelled (drawn + 1)) (noted (Posted (drawn + 1)) (noted (Drawn (drawn + 1)) engine)) ∷ worker ∷ [] =
        over.seats_are
        ∙ ap (λ (l : List SeatLists). change_at 0 (noted (settled_note (role_of base 0 == 0) 0 (drawn + 1) (sent_item base request))) (change_at 0 (noted (Posted (drawn + 1))) l)) has.seats
        ∙ ap (λ (k : ℕ). noted (settled_note (k == 0) 0 (drawn + 1) (sent_item base request)) (noted (Posted (drawn + 1)) (noted (Drawn (drawn + 1)) engine)) ∷ worker ∷ []) role in
        rests core (drawn + 1) sent (over_stands shape base core request 0 (drawn + 1 + 1) (drawn + 1) sent can over has.stands.shape_is has.stands.next_is
        (passed_here base request can 0 core over) (passed_beside base request can 0 core over 1 sent (omega arith) has.stands.back_is))
        (subst (λ (l : List SeatLists). HasNothingOpen (get_or l 0 no_seat)) (sym seats) (cancelled_again (drawn + 1) engine has.nothing_open)))
      where
        may_cancel : (core : Core) → IsSent base request core → MaySettle core 0 0 (item_of_message base.shape request) (drawn + 1)
        may_cancel core at =
            let seats : core.seats ≡ noted (Posted (drawn + 1)) (noted (Drawn (drawn + 1)) engine) ∷ worker ∷ [] = at.seats_are ∙ ap (change_at 0 (noted (Posted (drawn + 1)))) has.seats in
            Cancels (engine_role shape engines workers core (at.shape ∙ has.stands.shape_is)) refl
            (ap (λ (l : List SeatLists). has_stream (drawn + 1) (get_or l 0 no_seat).posted) seats ∙ any_last (λ x. x == (drawn + 1)) engine.posted (drawn + 1) (eq-eqb (drawn + 1) (drawn + 1) refl))

  -- ---- the parts

  module _ (base : Core) (drawn sent number size : ℕ) (last : Bool) (between : Between shape drawn sent number base) (few : sent < 2 ^ 61) (fits : FitsSegment size) where
    abbrev part : Message
    part = part_message drawn sent number last size

    abbrev told : Part
    told = record { stream = drawn + 1; number = number_in (part_word_of number last); last = is_last_in (part_word_of number last) }

    can_part : CanSend base (part_message drawn sent number last size)
    can_part = part_can base (drawn + 1 + 1) drawn sent number size last between.stands few fits

    may_send_part : (core : Core) → IsReady base part core → MayArm core 1 1 (item_of_message base.shape part) (drawn + 1) (part_word_of number last)
    may_send_part core ready =
        let goes : Goes (drawn + 1) number (seat_of core 0) (seat_of core 1) =
        subst (λ (l : List SeatLists). Goes (drawn + 1) number (get_or l 0 no_seat) (get_or l 1 no_seat)) (sym ready.seats_are) between.goes in
        Sends (own_send core ready.sound 1 1 (item_of_message base.shape part) (drawn + 1) (part_word_of number last) (omega arith) goes.taken_it goes.posted_it goes.unlast goes.unclosed (number_is number last ∙ goes.count) alone)
      where
        tag_is : (j : ℕ) → (item_of core 1 j).tag ≡ 0
        tag_is j = elim (cases_eq j (item_of_message base.shape part)) [
          | inl same ↦ ap (λ (k : ℕ). (item_of core 1 k).tag) same ∙ ap (λ (k : Item). k.tag) ready.has.item ∙ between.stands.back_is.untagged (item_of_message base.shape part)
          | inr other ↦ ap (λ (k : Item). k.tag) (ready.has.beside j other) ∙ between.stands.back_is.untagged j
        ]

        alone : holds_tagged core 1 1 (drawn + 1) ≡ false
        alone = untagged_none (λ (item : Item). whereabouts_code item.whereabouts == 1 + 1 && item.tag == (drawn + 1)) (queue_of core 1).items (λ j. rw (ne_eqb (item_of core 1 j).tag (drawn + 1) (omega (arith, tag_is j))) (and_off (whereabouts_code (item_of core 1 j).whereabouts == 2)))

    part_seats : (core : Core) → IsOver base part 0 core → core.seats ≡ noted (Received told) (seat_of base 0) ∷ noted (Sent told) (seat_of base 1) ∷ []
    part_seats core over =
        let role : role_of base 0 ≡ 0 = engine_role shape engines workers base between.stands.shape_is in
        over.seats_are
        ∙ ap (λ (l : List SeatLists). change_at 0 (noted (settled_note (role_of base 0 == 0) 1 (drawn + 1) (sent_item base part))) (change_at 1 (noted (Sent told)) l)) (seats_are_two base between.stands.sound between.stands.shape_is)
        ∙ ap (λ (k : ℕ). noted (settled_note (k == 0) 1 (drawn + 1) (sent_item base part)) (seat_of base 0) ∷ noted (Sent told) (seat_of base 1) ∷ []) role

    part_stands : (core : Core) → IsOver base part 0 core → Stands shape (drawn + 1 + 1) (drawn + 1) (sent + 1) core
    part_stands core over =
        over_stands shape base core part 0 (drawn + 1 + 1) (drawn + 1) (sent + 1) can_part over between.stands.shape_is between.stands.next_is
        (passed_beside base part can_part 0 core over 0 (drawn + 1) (omega arith) between.stands.line_is) (passed_here base part can_part 0 core over)

    more_leads : last ≡ false → Leads base (sending base.shape part ++ taking base.shape part) (Between shape drawn (sent + 1) (number + 1))
    more_leads is = so (IsOver base part 0) (Between shape drawn (sent + 1) (number + 1)) base (sending base.shape part ++ taking base.shape part) (message_leads base part can_part may_send_part) (λ core over. record {
      stands = part_stands core over;
      goes = subst (λ (l : List SeatLists). Goes (drawn + 1) (number + 1) (get_or l 0 no_seat) (get_or l 1 no_seat)) (sym (part_seats core over)) (goes_on (drawn + 1) number (seat_of base 0) (seat_of base 1) between.goes told refl (last_is number last ∙ is));
    })

    last_leads : last ≡ true → Leads base (sending base.shape part ++ taking base.shape part) (λ core. IsAtRest core (drawn + 1) (sent + 1))
    last_leads is = so (IsOver base part 0) (λ core. IsAtRest core (drawn + 1) (sent + 1)) base (sending base.shape part ++ taking base.shape part) (message_leads base part can_part may_send_part) (λ core over.
        rests core (drawn + 1) (sent + 1) (part_stands core over)
        (subst (λ (l : List SeatLists). HasNothingOpen (get_or l 0 no_seat)) (sym (part_seats core over)) (goes_out (drawn + 1) number (seat_of base 0) (seat_of base 1) between.goes told refl (last_is number last ∙ is))))

  fit_rest : (size : ℕ) (sizes : List ℕ) → AllFit (size ∷ sizes) → AllFit sizes
  fit_rest size sizes fit = fit.1

  -- all parts from one on
  parts_lead : (drawn : ℕ) (sizes : List ℕ) (sent number : ℕ) (core : Core) → Between shape drawn sent number core → sizes ≢ [] → AllFit sizes → sent + length sizes < 2 ^ 61
      → Leads core (part_steps shape drawn sent number sizes) (λ c. IsAtRest c (drawn + 1) (sent + length sizes))
  parts_lead drawn [] sent number core between some fit few = absurd (some refl)
  parts_lead drawn (size ∷ []) sent number core between some fit few =
      let m : Message = part_message drawn sent number (length {A = ℕ} [] == 0) size in
      let run : Leads core (sending core.shape m ++ taking core.shape m) (λ c. IsAtRest c (drawn + 1) (sent + 1)) = last_leads core drawn sent number size (length {A = ℕ} [] == 0) between (omega (arith, few)) fit.0 refl in
      joined (λ c. IsAtRest c (drawn + 1) (sent + 1)) (λ c. IsAtRest c (drawn + 1) (sent + 1)) core (sending shape m ++ taking shape m) []
      (subst (λ (s : Shape). Leads core (sending s m ++ taking s m) (λ c. IsAtRest c (drawn + 1) (sent + 1))) between.stands.shape_is run)
      (λ c rest. done (λ k. IsAtRest k (drawn + 1) (sent + 1)) c rest)
  parts_lead drawn (size ∷ (another ∷ sizes)) sent number core between some fit few =
      let m : Message = part_message drawn sent number (length (another ∷ sizes) == 0) size in
      let none : (length (another ∷ sizes) == 0) ≡ false = ne_eqb (length (another ∷ sizes)) 0 (omega arith) in
      let all : sent + 1 + length (another ∷ sizes) ≡ sent + length (size ∷ (another ∷ sizes)) = omega arith in
      let run : Leads core (sending core.shape m ++ taking core.shape m) (Between shape drawn (sent + 1) (number + 1)) = more_leads core drawn sent number size (length (another ∷ sizes) == 0) between (omega (arith, few)) fit.0 none in
      joined (Between shape drawn (sent + 1) (number + 1)) (λ c. IsAtRest c (drawn + 1) (sent + length (size ∷ (another ∷ sizes)))) core (sending shape m ++ taking shape m) (part_steps shape drawn (sent + 1) (number + 1) (another ∷ sizes))
      (subst (λ (s : Shape). Leads core (sending s m ++ taking s m) (Between shape drawn (sent + 1) (number + 1))) between.stands.shape_is run)
      (λ c now. subst (λ (k : ℕ). Leads c (part_steps shape drawn (sent + 1) (number + 1) (another ∷ sizes)) (λ e. IsAtRest e (drawn + 1) k)) all
      (parts_lead drawn (another ∷ sizes) (sent + 1) (number + 1) c now (λ none. absurd (cc none)) (fit_rest size (another ∷ sizes) fit) (omega (arith, few))))

-- ---- the two schedules

pub answered : AnsweredLaw
answered core drawn sent size sizes rest early can =
    let first = draws core.shape rest.engines rest.workers core drawn sent refl rest early.few_drawn in
    let core1 : Core = after_step core (Draw 0 (drawn + 1)) in
    let m : Message = request_message drawn size in
    let has = first.1 in
    let run : Leads core1 (sending core1.shape m ++ taking core1.shape m) (Between core.shape drawn sent 0) = taken_leads core.shape rest.engines rest.workers core1 drawn sent size (seat_of core 0) (seat_of core 1) has early.few_drawn can.0 in
    let few : sent + length sizes < 2 ^ 61 = omega (arith, early.few_sent, early.few_drawn, can.3) in
    then (λ c. IsAtRest c (drawn + 1) (sent + length sizes)) core (Draw 0 (drawn + 1)) ((sending core.shape m ++ taking core.shape m) ++ part_steps core.shape drawn sent 0 sizes) first.0
    (joined (Between core.shape drawn sent 0) (λ c. IsAtRest c (drawn + 1) (sent + length sizes)) core1 (sending core.shape m ++ taking core.shape m) (part_steps core.shape drawn sent 0 sizes)
    (subst (λ (s : Shape). Leads core1 (sending s m ++ taking s m) (Between core.shape drawn sent 0)) has.stands.shape_is run)
    (λ c between. parts_lead core.shape rest.engines rest.workers drawn sizes sent 0 c between can.2 can.1 few))

pub hung_up : HungUpLaw
hung_up core drawn sent size rest early can =
    let first = draws core.shape rest.engines rest.workers core drawn sent refl rest early.few_drawn in
    let core1 : Core = after_step core (Draw 0 (drawn + 1)) in
    let m : Message = request_message drawn size in
    let has = first.1 in
    let run : Leads core1 (sending core1.shape m ++ cancelling core1.shape m) (λ c. IsAtRest c (drawn + 1) sent) = cancelled_leads core.shape rest.engines rest.workers core1 drawn sent size (seat_of core 0) (seat_of core 1) has early.few_drawn can in
    then (λ c. IsAtRest c (drawn + 1) sent) core (Draw 0 (drawn + 1)) (sending core.shape m ++ cancelling core.shape m) first.0
    (subst (λ (s : Shape). Leads core1 (sending s m ++ cancelling s m) (λ c. IsAtRest c (drawn + 1) sent)) has.stands.shape_is run)
