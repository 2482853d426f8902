-- A message that is sent and taken, or cancelled, on a machine at rest.
use Rattle.std.proofs.Common.{◌≡◌, ◌≢◌, ℕ, zero, suc, ◌+◌, ◌-◌, ◌%◌, ◌==◌, ◌≤◌, ◌<◌, inl, inr, List, [], ◌∷◌, ◌++◌, length, map, get_or, refl, sym, ap, ap₂, subst, ◌∙◌, arith}
use Rattle.std.proofs.lemmas.Bool.{cases_Bool, cases_eq, cases_lt}
use Rattle.std.proofs.Math.Nat.{add-mod_right}
use Rattle.std.proofs.lemmas.Nat.{mod_below}
use Rattle.std.specs.List.{range_with_len}
use Rattle.unit_model.specs.Core.{blank, item_of, owner_of, role_of, chunk_number}
use Rattle.unit_model.specs.Effects.{after_step, noted, armed_note, settled_note}
use Rattle.unit_model.specs.Holding.{FitsQueue, first_segment, items_of}
use Rattle.unit_model.specs.Limits.{place_limit, segment_chunks}
use Rattle.unit_model.specs.Lists.{change_at}
use Rattle.unit_model.specs.Premises.{Fills, Empties, Worker, Engine, IsInHand, MayArm, MaySettle, Takes, Receives}
use Rattle.unit_model.specs.Runs.{chunks_for}
use Rattle.unit_model.specs.Shapes.{role_in}
use Rattle.unit_model.specs.Soundness.{IsSound}
use Rattle.unit_model.specs.declared.machine.Core.{Core}
use Rattle.unit_model.specs.declared.machine.Entry.{Entry}
use Rattle.unit_model.specs.declared.machine.Item.{Item}
use Rattle.unit_model.specs.declared.machine.Owner.TheVariants.{Free, Seat, Message as MessageOf}
use Rattle.unit_model.specs.declared.machine.Queue.{Queue}
use Rattle.unit_model.specs.declared.machine.Seat.{Seat as SeatLists}
use Rattle.unit_model.specs.declared.machine.Step.{Step}
use Rattle.unit_model.specs.declared.machine.Step.TheVariants.{Claim, Release, GetItem, SetRun, SetPart, Arm, Push, Pop, Settle, GiveItem}
use Rattle.unit_model.specs.declared.machine.Whereabouts.{Whereabouts}
use Rattle.unit_model.specs.declared.machine.Whereabouts.TheVariants.{InFreeList, InLine, WithSeat}
use Rattle.unit_model.specs.declared.runs.Run.{Run}
use Rattle.unit_model.specs.declared.shape.Shape.{Shape}
use Rattle.plain_fabric.proofs.Runs.{Leads, done, then, joined}
use Rattle.plain_fabric.proofs.UnderWay.{Lane, Under, got, run_set, part_set, armed, pushed, popped, settled, given, claimed, released}
use Rattle.plain_fabric.specs.AtRest.{HasPassed, free_list, turn_of}
use Rattle.plain_fabric.specs.declared.message.Message.{Message}
use Rattle.plain_fabric.specs.Schedule.{item_of_message, place_of_message, place_behind, run_of_message, claims, releases, sending, taking, cancelling}

-- ---- turns

pub first_turn : (f : ℕ → Entry) (a n : ℕ) → 1 ≤ n → map f (range_with_len a n) ≡ f a ∷ map f (range_with_len (a + 1) (n - 1))
first_turn f a zero some = absurd (omega arith)
first_turn f a (suc n) some =
    let less : n ≡ suc n - 1 = omega arith in
    ap (λ (k : ℕ). f a ∷ map f (range_with_len (a + 1) k)) less

pub one_turn_more : {X : Type 0} (f : ℕ → X) (a n : ℕ) → map f (range_with_len a n) ++ f (a + n) ∷ [] ≡ map f (range_with_len a (suc n))
one_turn_more f a zero = ap (λ (k : ℕ). f k ∷ []) (omega arith)
one_turn_more {X = X} f a (suc n) =
    let on : a + suc n ≡ a + 1 + n = omega arith in
    ap (λ (k : ℕ). f a ∷ (map f (range_with_len (a + 1) n) ++ f k ∷ [])) on ∙ ap (λ (xs : List X). f a ∷ xs) (one_turn_more f (a + 1) n)

-- the first entry goes, and one comes behind the last
pub turned : (f : ℕ → Entry) (a n : ℕ) → 1 ≤ n → map f (range_with_len (a + 1) (n - 1)) ++ f (a + n) ∷ [] ≡ map f (range_with_len (a + 1) n)
turned f a zero some = absurd (omega arith)
turned f a (suc n) some =
    let less : suc n - 1 ≡ n = omega arith in
    let on : a + suc n ≡ a + 1 + n = omega arith in
    ap (λ (k : ℕ). map f (range_with_len (a + 1) k) ++ f (a + suc n) ∷ []) less
    ∙ ap (λ (k : ℕ). map f (range_with_len (a + 1) n) ++ f k ∷ []) on
    ∙ one_turn_more f (a + 1) n

abbrev entry_by : ℕ → ℕ → Entry
entry_by place item = record { place = place; item = item }

-- ---- chunks, one after another

module _ (base : Core) (q i : ℕ) (lane : Lane) (seat segment : ℕ) (seats : List SeatLists) (next : ℕ) where
  abbrev claim_of : ℕ → Step
  claim_of chunk = Claim seat segment chunk

  abbrev release_of : ℕ → Step
  release_of chunk = Release seat segment chunk

  -- the chunks of the segment from low to high are the seat's
  abbrev At : ℕ → ℕ → Core → Type 0
  At low high core = Under base q i lane (chunk_number segment low) (chunk_number segment high) (Seat seat) seats next core

  pub claims_lead : (count chunk : ℕ) (core : Core) → ((c : Core) → c.shape ≡ base.shape → Fills c seat q) → segment ≡ first_segment base.shape q → chunk + count ≤ segment_chunks
      → At 0 chunk core → Leads core (map claim_of (range_with_len chunk count)) (At 0 (chunk + count))
  claims_lead zero chunk core fills first short at =
      let none : chunk ≡ chunk + 0 = omega arith in
      done (At 0 (chunk + 0)) core (subst (λ (c : ℕ). At 0 c core) none at)
  claims_lead (suc count) chunk core fills first short at =
      let claim = claimed base q i lane (chunk_number segment 0) (chunk_number segment chunk) (Seat seat) seats next core at seat segment chunk (fills core at.shape)
      (first ∙ ap (λ (s : Shape). first_segment s q) (sym at.shape)) (omega (arith, short)) refl (omega arith) refl in
      let on : chunk_number segment chunk + 1 ≡ chunk_number segment (chunk + 1) = omega arith in
      let all : chunk + 1 + count ≡ chunk + suc count = omega arith in
      let new : Core = after_step core (claim_of chunk) in
      let now : At 0 (chunk + 1) new = subst (λ (h : ℕ). Under base q i lane (chunk_number segment 0) h (Seat seat) seats next new) on claim.1 in
      then (At 0 (chunk + suc count)) core (claim_of chunk) (map claim_of (range_with_len (chunk + 1) count)) claim.0
      (subst (λ (c : ℕ). Leads new (map claim_of (range_with_len (chunk + 1) count)) (At 0 c)) all (claims_lead count (chunk + 1) new fills first (omega (arith, short)) now))

  pub releases_lead : (count chunk : ℕ) (core : Core) → ((c : Core) → c.shape ≡ base.shape → role_of c seat ≤ 1) → chunk + count ≤ segment_chunks
      → At chunk (chunk + count) core → Leads core (map release_of (range_with_len chunk count)) (At (chunk + count) (chunk + count))
  releases_lead zero chunk core roles short at =
      let none : chunk ≡ chunk + 0 = omega arith in
      done (At (chunk + 0) (chunk + 0)) core (subst (λ (c : ℕ). At c (chunk + 0) core) none at)
  releases_lead (suc count) chunk core roles short at =
      let release = released base q i lane (chunk_number segment chunk) (chunk_number segment (chunk + suc count)) (Seat seat) seats next core at seat segment chunk (roles core at.shape)
      (omega (arith, short)) refl (omega arith) refl in
      let on : chunk_number segment chunk + 1 ≡ chunk_number segment (chunk + 1) = omega arith in
      let all : chunk + suc count ≡ chunk + 1 + count = omega arith in
      let new : Core = after_step core (release_of chunk) in
      let now : At (chunk + 1) (chunk + suc count) new = subst (λ (l : ℕ). Under base q i lane l (chunk_number segment (chunk + suc count)) (Seat seat) seats next new) on release.1 in
      then (At (chunk + suc count) (chunk + suc count)) core (release_of chunk) (map release_of (range_with_len (chunk + 1) count)) release.0
      (subst (λ (c : ℕ). Leads new (map release_of (range_with_len (chunk + 1) count)) (At c c)) (sym all) (releases_lead count (chunk + 1) new roles (omega (arith, short)) (subst (λ (c : ℕ). At (chunk + 1) c new) all now)))

-- ---- one message

-- what a message needs of a machine at rest
pub record CanSend (base : Core) (m : Message) : Type 0 where
  pub sound : IsSound base
  pub there : m.queue < 1 + base.shape.engines
  pub passed : HasPassed base m.queue m.before
  pub free : (number : ℕ) → owner_of base number ≡ Free
  pub fits : FitsQueue base.shape m.queue (run_of_message base.shape m)
  pub fills : (core : Core) → core.shape ≡ base.shape → Fills core m.from m.queue
  pub empties : (core : Core) → core.shape ≡ base.shape → Empties core m.to m.queue
  pub early : place_behind base.shape m < place_limit
  pub some : m.stream ≢ 0

module _ (base : Core) (m : Message) where
  abbrev q : ℕ
  q = m.queue

  abbrev n : ℕ
  n = items_of base.shape m.queue

  abbrev i : ℕ
  i = item_of_message base.shape m

  abbrev place : ℕ
  place = place_of_message base.shape m

  abbrev run : Run
  run = run_of_message base.shape m

  abbrev low : ℕ
  low = chunk_number (first_segment base.shape m.queue) 0

  abbrev high : ℕ
  high = chunk_number (first_segment base.shape m.queue) (0 + chunks_for m.size)

  abbrev rest : List Entry
  rest = map (turn_of base.shape m.queue) (range_with_len (m.before + 1) (items_of base.shape m.queue - 1))

  abbrev entry : ℕ → Entry
  entry at = record { place = at; item = item_of_message base.shape m }

  abbrev first_lane : Lane
  first_lane = record {
    free = free_list base.shape m.queue m.before;
    next_free = place_behind base.shape m;
    line = [];
    next_line = place_of_message base.shape m;
    item = item_of base m.queue (item_of_message base.shape m);
  }

  -- sent, and taken back
  abbrev pub sent_lane : Lane
  sent_lane = record {
    free = rest;
    next_free = place_behind base.shape m;
    line = entry (place_of_message base.shape m) ∷ [];
    next_line = place_of_message base.shape m + 1;
    item = record { tag = m.stream; stream = m.stream; run = run_of_message base.shape m; part = m.part; whereabouts = InLine };
  }

  abbrev pub last_lane : Lane
  last_lane = record {
    free = rest ++ entry (place_behind base.shape m) ∷ [];
    next_free = place_behind base.shape m + 1;
    line = [];
    next_line = place_of_message base.shape m + 1;
    item = record { tag = 0; stream = m.stream; run = run_of_message base.shape m; part = m.part; whereabouts = InFreeList };
  }

  abbrev ready_lane : Lane
  ready_lane = record {
    free = rest;
    next_free = place_behind base.shape m;
    line = [];
    next_line = place_of_message base.shape m;
    item = record { tag = (item_of base m.queue (item_of_message base.shape m)).tag; stream = (item_of base m.queue (item_of_message base.shape m)).stream; run = run_of_message base.shape m; part = m.part; whereabouts = WithSeat m.from };
  }

  -- before it is armed, behind the sending, and behind all
  abbrev pub IsReady : Core → Type 0
  IsReady core = Under base q i ready_lane low high (Seat m.from) base.seats base.next core

  abbrev pub sent_seats : List SeatLists
  sent_seats = change_at m.from (noted (armed_note m.queue m.stream sent_lane.item)) base.seats

  abbrev pub IsSent : Core → Type 0
  IsSent core = Under base q i sent_lane low high (MessageOf q i) sent_seats base.next core

  abbrev pub settled_seats : ℕ → List SeatLists
  settled_seats seat = change_at seat (noted (settled_note (role_of base seat == 0) m.queue m.stream sent_lane.item)) sent_seats

  abbrev pub IsOver : ℕ → Core → Type 0
  IsOver seat core = Under base q i last_lane high high (Seat seat) (settled_seats seat) base.next core

  module _ (can : CanSend base m) where
    some_items : 1 ≤ n
    some_items = elim (cases_Bool (m.queue == 0)) [
      | inl line ↦ let is : n ≡ base.shape.items = rw line refl in omega (arith, is, can.sound.held.shape.shape.items.0)
      | inr back ↦ let is : n ≡ base.shape.back_items = rw back refl in omega (arith, is, can.sound.held.shape.shape.back_items.0)
    ]

    begins : Under base q i first_lane low low (Seat m.from) base.seats base.next base
    begins = record {
      sound = can.sound;
      shape = refl;
      next_is = refl;
      seats_are = refl;
      has = record {
        free = can.passed.free;
        next_free = can.passed.next_free;
        line = can.passed.line;
        next_line = can.passed.next_line;
        item = refl;
        inside = omega (arith, can.sound.held.shape.items m.queue can.there, mod_below m.before n some_items);
        count = refl;
        beside = λ j other. refl;
        elsewhere = λ p other. refl;
      };
      chunks = record {
        within = λ k from below. absurd (omega (arith, from, below));
        off = λ k away. can.free k;
      };
    }

    fits_in : (core : Core) → core.shape ≡ base.shape → FitsQueue core.shape q run
    fits_in core is = subst (λ (s : Shape). FitsQueue s m.queue (run_of_message base.shape m)) (sym is) can.fits

    -- the steps of the sender
    pub sending_leads : ((core : Core) → IsReady core → MayArm core m.from m.queue (item_of_message base.shape m) m.stream m.part) → Leads base (sending base.shape m) IsSent
    sending_leads may =
        let short : 0 + chunks_for m.size ≤ segment_chunks = omega (arith, can.fits.in_segment) in
        let chunks = claims_lead base q i first_lane m.from (first_segment base.shape m.queue) base.seats base.next (chunks_for m.size) 0 base can.fills refl short begins in
        joined (Under base q i first_lane low high (Seat m.from) base.seats base.next) IsSent base (claims m.from run)
        (GetItem m.from q i place ∷ SetRun m.from q i run ∷ SetPart m.from q i m.part ∷ Arm m.from q i m.stream ∷ Push m.from q i place ∷ []) chunks after
      where
        after : (core : Core) → Under base q i first_lane low high (Seat m.from) base.seats base.next core
            → Leads core (GetItem m.from q i place ∷ SetRun m.from q i run ∷ SetPart m.from q i m.part ∷ Arm m.from q i m.stream ∷ Push m.from q i place ∷ []) IsSent
        after core at =
            let core1 : Core = after_step core (GetItem m.from q i place) in
            let core2 : Core = after_step core1 (SetRun m.from q i run) in
            let core3 : Core = after_step core2 (SetPart m.from q i m.part) in
            let core4 : Core = after_step core3 (Arm m.from q i m.stream) in
            let core5 : Core = after_step core4 (Push m.from q i place) in
            let lane1 : Lane = record first_lane { free = rest; item = record (item_of base q i) { whereabouts = WithSeat m.from } } in
            let lane2 : Lane = record lane1 { item = record lane1.item { run = run } } in
            let lane4 : Lane = record ready_lane { item = record ready_lane.item { tag = m.stream; stream = m.stream } } in
            let untagged : (item_of base q i).tag ≡ 0 = can.passed.untagged i in
            let g = got base q i first_lane low high (Seat m.from) base.seats base.next core at m.from place rest (can.fills core at.shape) (first_turn (turn_of base.shape m.queue) m.before n some_items) in
            let r = run_set base q i lane1 low high (Seat m.from) base.seats base.next core1 g.1 m.from run (can.fills core1 g.1.shape) refl untagged (fits_in core1 g.1.shape)
            (λ k within. g.1.chunks.within k (omega (arith, within.0)) (omega (arith, within.1))) in
            let p = part_set base q i lane2 low high (Seat m.from) base.seats base.next core2 r.1 m.from m.part (can.fills core2 r.1.shape) refl untagged in
            let a = armed base q i ready_lane low high (Seat m.from) base.seats base.next core3 p.1 m.from m.stream (can.fills core3 p.1.shape) refl untagged (fits_in core3 p.1.shape) refl (omega arith) refl (may core3 p.1) in
            let s = pushed base q i lane4 low high (MessageOf q i) sent_seats base.next core4 a.1 m.from place (can.fills core4 a.1.shape) refl can.some refl (omega (arith, can.early)) in
            then IsSent core (GetItem m.from q i place) (SetRun m.from q i run ∷ SetPart m.from q i m.part ∷ Arm m.from q i m.stream ∷ Push m.from q i place ∷ []) g.0
            (then IsSent core1 (SetRun m.from q i run) (SetPart m.from q i m.part ∷ Arm m.from q i m.stream ∷ Push m.from q i place ∷ []) r.0
            (then IsSent core2 (SetPart m.from q i m.part) (Arm m.from q i m.stream ∷ Push m.from q i place ∷ []) p.0
            (then IsSent core3 (Arm m.from q i m.stream) (Push m.from q i place ∷ []) a.0
            (then IsSent core4 (Push m.from q i place) [] s.0 (done IsSent core5 s.1)))))

    takers_role : (core : Core) → core.shape ≡ base.shape → role_of core m.to ≤ 1
    takers_role core is = by (can.empties core is)
      where
        by : Empties core m.to m.queue → role_of core m.to ≤ 1
        by (Worker role line) = omega (arith, role)
        by (Engine role own) = omega (arith, role)

    -- what a settle adds is told by the shape
    told_by : (core : Core) (seat : ℕ) → core.shape ≡ base.shape
        → change_at seat (noted (settled_note (role_of core seat == 0) m.queue m.stream sent_lane.item)) sent_seats ≡ settled_seats seat
    told_by core seat is = ap (λ (s : Shape). change_at seat (noted (settled_note (role_in s seat == 0) m.queue m.stream sent_lane.item)) sent_seats) is

    -- the chunks of a settled message are released
    abbrev settled_lane : List Entry → Whereabouts → Lane
    settled_lane line where_is = record {
      free = rest;
      next_free = place_behind base.shape m;
      line = line;
      next_line = place_of_message base.shape m + 1;
      item = record { tag = 0; stream = m.stream; run = run_of_message base.shape m; part = m.part; whereabouts = where_is };
    }

    freed : (lane : Lane) (seat : ℕ) (core : Core) → ((c : Core) → c.shape ≡ base.shape → role_of c seat ≤ 1) → Under base q i lane low high (Seat seat) (settled_seats seat) base.next core
        → Leads core (releases seat run) (Under base q i lane high high (Seat seat) (settled_seats seat) base.next)
    freed lane seat core roles at = releases_lead base q i lane seat (first_segment base.shape m.queue) (settled_seats seat) base.next (chunks_for m.size) 0 core roles (omega (arith, can.fits.in_segment)) at

    -- and the item is given back
    gives : (seat : ℕ) (core : Core) → Under base q i (settled_lane [] (WithSeat m.to)) high high (Seat seat) (settled_seats seat) base.next core → Leads core (GiveItem m.to q i (place_behind base.shape m) ∷ []) (IsOver seat)
    gives seat core at =
        let g = given base q i (settled_lane [] (WithSeat m.to)) high high (Seat seat) (settled_seats seat) base.next core at m.to (place_behind base.shape m) (takers_role core at.shape) refl refl refl can.early in
        then (IsOver seat) core (GiveItem m.to q i (place_behind base.shape m)) [] g.0 (done (IsOver seat) (after_step core (GiveItem m.to q i (place_behind base.shape m))) g.1)

    settle_of : (core : Core) → Empties core m.to m.queue → IsInHand core m.to m.queue i → MaySettle core m.to m.queue i m.stream
    settle_of core (Worker role line) hand = Takes role line hand
    settle_of core (Engine role own) hand = Receives role own hand

    -- the steps of the taker
    pub taking_leads : (core : Core) → IsSent core → Leads core (taking base.shape m) (IsOver m.to)
    taking_leads core at =
        let core1 : Core = after_step core (Pop m.to q i place) in
        let core2 : Core = after_step core1 (Settle m.to q i m.stream) in
        let lane1 : Lane = record sent_lane { line = []; item = record sent_lane.item { whereabouts = WithSeat m.to } } in
        let p = popped base q i sent_lane low high (MessageOf q i) sent_seats base.next core at m.to place [] (can.empties core at.shape) refl in
        let hand : IsInHand core1 m.to q i = ap (λ (k : Item). k.whereabouts) p.1.has.item in
        let s = settled base q i lane1 low high (MessageOf q i) sent_seats base.next core1 p.1 m.to m.stream can.some refl (fits_in core1 p.1.shape) refl (omega arith) (settle_of core1 (can.empties core1 p.1.shape) hand) in
        let now : Under base q i (settled_lane [] (WithSeat m.to)) low high (Seat m.to) (settled_seats m.to) base.next core2 =
        subst (λ (seats : List SeatLists). Under base q i (settled_lane [] (WithSeat m.to)) low high (Seat m.to) seats base.next core2) (told_by core1 m.to p.1.shape) s.1 in
        then (IsOver m.to) core (Pop m.to q i place) (Settle m.to q i m.stream ∷ releases m.to run ++ GiveItem m.to q i (place_behind base.shape m) ∷ []) p.0
        (then (IsOver m.to) core1 (Settle m.to q i m.stream) (releases m.to run ++ GiveItem m.to q i (place_behind base.shape m) ∷ []) s.0
        (joined (Under base q i (settled_lane [] (WithSeat m.to)) high high (Seat m.to) (settled_seats m.to) base.next) (IsOver m.to) core2 (releases m.to run) (GiveItem m.to q i (place_behind base.shape m) ∷ [])
        (freed (settled_lane [] (WithSeat m.to)) m.to core2 takers_role now) (gives m.to)))

    -- the steps of a message that is cancelled
    pub cancelling_leads : (core : Core) → IsSent core → MaySettle core m.from m.queue (item_of_message base.shape m) m.stream → Leads core (cancelling base.shape m) (IsOver m.from)
    cancelling_leads core at may =
        let core1 : Core = after_step core (Settle m.from q i m.stream) in
        let line : List Entry = entry place ∷ [] in
        let s = settled base q i sent_lane low high (MessageOf q i) sent_seats base.next core at m.from m.stream can.some refl (fits_in core at.shape) refl (omega arith) may in
        let now : Under base q i (settled_lane line InLine) low high (Seat m.from) (settled_seats m.from) base.next core1 =
        subst (λ (seats : List SeatLists). Under base q i (settled_lane line InLine) low high (Seat m.from) seats base.next core1) (told_by core m.from at.shape) s.1 in
        then (IsOver m.from) core (Settle m.from q i m.stream) (releases m.from run ++ Pop m.to q i place ∷ GiveItem m.to q i (place_behind base.shape m) ∷ []) s.0
        (joined (Under base q i (settled_lane line InLine) high high (Seat m.from) (settled_seats m.from) base.next) (IsOver m.from) core1 (releases m.from run) (Pop m.to q i place ∷ GiveItem m.to q i (place_behind base.shape m) ∷ [])
        (freed (settled_lane line InLine) m.from core1 (λ c is. (can.fills c is).role) now)
        (λ c there.
        let p = popped base q i (settled_lane line InLine) high high (Seat m.from) (settled_seats m.from) base.next c there m.to place [] (can.empties c there.shape) refl in
        then (IsOver m.from) c (Pop m.to q i place) (GiveItem m.to q i (place_behind base.shape m) ∷ []) p.0 (gives m.from (after_step c (Pop m.to q i place)) p.1)))

    -- ---- at rest again

    pub passed_here : (seat : ℕ) (core : Core) → IsOver seat core → HasPassed core m.queue (m.before + 1)
    passed_here seat core over =
        let at : place_behind base.shape m ≡ base.shape.start + (m.before + n) = omega arith in
        let turn : m.before % n ≡ (m.before + n) % n = sym (add-mod_right m.before n) in
        let last_is : entry (place_behind base.shape m) ≡ turn_of base.shape m.queue (m.before + n) = ap₂ (λ (p k : ℕ). entry_by p k) at turn in
        let behind : base.shape.start + items_of base.shape m.queue + m.before + 1 ≡ core.shape.start + items_of core.shape m.queue + m.before + 1 =
        ap (λ (s : Shape). s.start + items_of s m.queue + m.before + 1) (sym over.shape) in
        let behind_on : core.shape.start + items_of core.shape m.queue + m.before + 1 ≡ core.shape.start + items_of core.shape m.queue + (m.before + 1) = omega arith in
        let next : base.shape.start + m.before + 1 ≡ core.shape.start + m.before + 1 = ap (λ (s : Shape). s.start + m.before + 1) (sym over.shape) in
        let next_on : core.shape.start + m.before + 1 ≡ core.shape.start + (m.before + 1) = omega arith in
        record {
          items = λ j inside. elim (cases_eq j i) [
            | inl same ↦ ap (λ (k : ℕ). (item_of core q k).whereabouts) same ∙ ap (λ (k : Item). k.whereabouts) over.has.item
            | inr other ↦ ap (λ (k : Item). k.whereabouts) (over.has.beside j other) ∙ can.passed.items j (omega (arith, inside, over.has.count))
          ];
          untagged = λ j. elim (cases_eq j i) [
            | inl same ↦ ap (λ (k : ℕ). (item_of core q k).tag) same ∙ ap (λ (k : Item). k.tag) over.has.item
            | inr other ↦ ap (λ (k : Item). k.tag) (over.has.beside j other) ∙ can.passed.untagged j
          ];
          free = over.has.free
              ∙ ap (λ (e : Entry). rest ++ e ∷ []) last_is
              ∙ turned (turn_of base.shape m.queue) m.before n some_items
              ∙ ap (λ (s : Shape). free_list s m.queue (m.before + 1)) (sym over.shape);
          next_free = over.has.next_free ∙ behind ∙ behind_on;
          line = over.has.line;
          next_line = over.has.next_line ∙ next ∙ next_on;
        }

    pub passed_beside : (seat : ℕ) (core : Core) → IsOver seat core → (p before : ℕ) → p ≢ m.queue → HasPassed base p before → HasPassed core p before
    passed_beside seat core over p before other old =
        let same = over.has.elsewhere p other in
        record {
          items = λ j inside. ap (λ (k : Queue). (get_or k.items j blank).whereabouts) same ∙ old.items j (omega (arith, inside, ap (λ (k : Queue). length k.items) same));
          untagged = λ j. ap (λ (k : Queue). (get_or k.items j blank).tag) same ∙ old.untagged j;
          free = ap (λ (k : Queue). k.free) same ∙ old.free ∙ ap (λ (s : Shape). free_list s p before) (sym over.shape);
          next_free = ap (λ (k : Queue). k.next_free) same ∙ old.next_free ∙ ap (λ (s : Shape). s.start + items_of s p + before) (sym over.shape);
          line = ap (λ (k : Queue). k.line) same ∙ old.line;
          next_line = ap (λ (k : Queue). k.next_line) same ∙ old.next_line ∙ ap (λ (s : Shape). s.start + before) (sym over.shape);
        }

    pub all_free : (seat : ℕ) (core : Core) → IsOver seat core → (number : ℕ) → owner_of core number ≡ Free
    all_free seat core over number = over.chunks.off number (elim (cases_lt number high) [
      | inl less ↦ inl less
      | inr more ↦ inr more
    ])
