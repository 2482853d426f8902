-- The machine begins at rest, and any requests lead it from rest to rest.
use Rattle.std.proofs.Common.{◌≡◌, ℕ, zero, suc, ◌+◌, ◌*◌, ◌%◌, ◌^◌, ◌≤◌, List, [], ◌∷◌, ◌++◌, length, map, get_or, replicate, refl, sym, ap, ap₂, subst, ◌∙◌, arith}
use Rattle.std.proofs.Math.Nat.{mod-eq_of_lt}
use Rattle.std.specs.List.{range_with_len}
use Rattle.unit_model.proofs.HeldOpening.{all_the_same}
use Rattle.unit_model.proofs.Presence.{shape_stays}
use Rattle.unit_model.proofs.SoundRuns.{sound_at_first}
use Rattle.unit_model.specs.Core.{blank, no_queue, no_seat, queue_of, item_of, seat_of}
use Rattle.unit_model.specs.Effects.{after_step}
use Rattle.unit_model.specs.Holding.{items_of}
use Rattle.unit_model.specs.Limits.{segment_chunks}
use Rattle.unit_model.specs.Opening.{first_entries, fresh_queue, opened_core}
use Rattle.unit_model.specs.Running.{after_steps}
use Rattle.unit_model.specs.declared.machine.Core.{Core}
use Rattle.unit_model.specs.declared.machine.Entry.{Entry}
use Rattle.unit_model.specs.declared.machine.Item.{Item}
use Rattle.unit_model.specs.declared.machine.Owner.TheVariants.{Free}
use Rattle.unit_model.specs.declared.machine.Queue.{Queue}
use Rattle.unit_model.specs.declared.machine.Step.{Step}
use Rattle.unit_model.specs.declared.shape.Shape.{Shape}
use Rattle.plain_fabric.proofs.Passing.{one_turn_more}
use Rattle.plain_fabric.proofs.Runs.{Leads, done, joined}
use Rattle.plain_fabric.proofs.Visits.{answered, hung_up}
use Rattle.plain_fabric.specs.AtRest.{HasPassed, HasNothingOpen, IsAtRest, turn_of}
use Rattle.plain_fabric.specs.Laws.{AllCanPass, CanPass, IsEarly, OpenedLaw, TraceLaw, parts_of_all}
use Rattle.plain_fabric.specs.Schedule.{Passed, Answered, HungUp, parts_in, steps_of, trace_from}

-- ---- at first

-- the first entries of a free list are the first turns of its items
first_turns : (shape : Shape) (queue n : ℕ) → n ≤ items_of shape queue → first_entries shape.start n ≡ map (turn_of shape queue) (range_with_len 0 n)
first_turns shape queue zero within = refl
first_turns shape queue (suc n) within =
    let small : n % items_of shape queue ≡ n = mod-eq_of_lt (omega arith) in
    let zero_n : n ≡ 0 + n = omega arith in
    ap₂ (λ (es : List Entry) (k : ℕ). es ++ (record { place = shape.start + n; item = k }) ∷ []) (first_turns shape queue n (omega (arith, within))) (sym small)
    ∙ ap (λ (k : ℕ). map (turn_of shape queue) (range_with_len 0 n) ++ turn_of shape queue k ∷ []) zero_n
    ∙ one_turn_more (turn_of shape queue) 0 n

fresh_has_passed : (core : Core) (queue : ℕ) → queue_of core queue ≡ fresh_queue core.shape.start (items_of core.shape queue) → HasPassed core queue 0
fresh_has_passed core queue is =
    let behind : core.shape.start + items_of core.shape queue ≡ core.shape.start + items_of core.shape queue + 0 = omega arith in
    let next : core.shape.start ≡ core.shape.start + 0 = omega arith in
    let blank_is : (item : ℕ) → item_of core queue item ≡ blank = λ item. ap (λ (q : Queue). get_or q.items item blank) is ∙ all_the_same (items_of core.shape queue) item blank in
    record {
      items = λ item inside. ap (λ (k : Item). k.whereabouts) (blank_is item);
      untagged = λ item. ap (λ (k : Item). k.tag) (blank_is item);
      free = ap (λ (q : Queue). q.free) is ∙ first_turns core.shape queue (items_of core.shape queue) (omega arith);
      next_free = ap (λ (q : Queue). q.next_free) is ∙ behind;
      line = ap (λ (q : Queue). q.line) is;
      next_line = ap (λ (q : Queue). q.next_line) is ∙ next;
    }

pub opened : OpenedLaw
opened shape plain =
    let seat : seat_of (opened_core shape) 0 ≡ no_seat = all_the_same (shape.engines + shape.workers) 0 no_seat in
    record {
      sound = sound_at_first shape plain.valid;
      engines = plain.engines;
      workers = plain.workers;
      next = refl;
      line = fresh_has_passed (opened_core shape) 0 refl;
      back = fresh_has_passed (opened_core shape) 1 (ap (λ (n : ℕ). get_or (replicate n (fresh_queue shape.start shape.back_items)) 0 no_queue) plain.engines);
      chunks = λ number. all_the_same (segment_chunks * (shape.out_segments + shape.back_segments)) number Free;
      nothing_open = subst HasNothingOpen (sym seat) (record {
        abandoned = refl;
        posted = λ stream is. absurd (cc is);
        ended = λ stream is. absurd (cc is);
      });
    }

-- ---- requests one after another

shape_stays_behind : (core : Core) (steps : List Step) → (after_steps core steps).shape ≡ core.shape
shape_stays_behind core [] = refl
shape_stays_behind core (step ∷ steps) = shape_stays_behind (after_step core step) steps ∙ shape_stays core step

one_leads : (core : Core) (drawn sent : ℕ) (passed : Passed) → IsAtRest core drawn sent → IsEarly drawn sent → CanPass passed
    → Leads core (steps_of core.shape drawn sent passed) (λ c. IsAtRest c (drawn + 1) (sent + parts_in passed))
one_leads core drawn sent (Answered size sizes) rest early can = answered core drawn sent size sizes rest early can
one_leads core drawn sent (HungUp size) rest early can =
    let none : sent ≡ sent + 0 = omega arith in
    subst (λ (k : ℕ). Leads core (steps_of core.shape drawn sent (HungUp size)) (λ c. IsAtRest c (drawn + 1) k)) none (hung_up core drawn sent size rest early can)

parts_few : (passed : Passed) → CanPass passed → parts_in passed ≤ 4096
parts_few (Answered size sizes) can = omega (arith, can.3)
parts_few (HungUp size) can = omega arith

all_lead : (shape : Shape) (requests : List Passed) (core : Core) (drawn sent : ℕ) → core.shape ≡ shape → IsAtRest core drawn sent → sent ≤ 4096 * drawn → drawn + length requests ≤ 2 ^ 48 → AllCanPass requests
    → Leads core (trace_from shape drawn sent requests) (λ c. IsAtRest c (drawn + length requests) (sent + parts_of_all requests))
all_lead shape [] core drawn sent is rest few room can =
    let none : drawn ≡ drawn + 0 = omega arith in
    let no_part : sent ≡ sent + 0 = omega arith in
    done (λ c. IsAtRest c (drawn + 0) (sent + 0)) core (subst (λ (k : ℕ). IsAtRest core k (sent + 0)) none (subst (λ (k : ℕ). IsAtRest core drawn k) no_part rest))
all_lead shape (passed ∷ more) core drawn sent is rest few room can =
    let early : IsEarly drawn sent = record { few_drawn = omega (arith, room); few_sent = few } in
    let one : Leads core (steps_of shape drawn sent passed) (λ c. IsAtRest c (drawn + 1) (sent + parts_in passed)) =
    subst (λ (s : Shape). Leads core (steps_of s drawn sent passed) (λ c. IsAtRest c (drawn + 1) (sent + parts_in passed))) is (one_leads core drawn sent passed rest early can.0) in
    let kept : Leads core (steps_of shape drawn sent passed) (λ c. IsAtRest c (drawn + 1) (sent + parts_in passed) × (c.shape ≡ shape)) =
    (one.0, (one.1, shape_stays_behind core (steps_of shape drawn sent passed) ∙ is)) in
    let on : drawn + 1 + length more ≡ drawn + length (passed ∷ more) = omega arith in
    let parts_on : sent + parts_in passed + parts_of_all more ≡ sent + parts_of_all (passed ∷ more) = omega arith in
    joined (λ c. IsAtRest c (drawn + 1) (sent + parts_in passed) × (c.shape ≡ shape)) (λ c. IsAtRest c (drawn + length (passed ∷ more)) (sent + parts_of_all (passed ∷ more))) core (steps_of shape drawn sent passed) (trace_from shape (drawn + 1) (sent + parts_in passed) more) kept
    (λ c now. subst (λ (k : ℕ). Leads c (trace_from shape (drawn + 1) (sent + parts_in passed) more) (λ e. IsAtRest e k (sent + parts_of_all (passed ∷ more)))) on
    (subst (λ (k : ℕ). Leads c (trace_from shape (drawn + 1) (sent + parts_in passed) more) (λ e. IsAtRest e (drawn + 1 + length more) k)) parts_on
    (all_lead shape more c (drawn + 1) (sent + parts_in passed) now.1 now.0 (omega (arith, few, parts_few passed can.0)) (omega (arith, room)) can.1)))

pub traced : TraceLaw
traced shape requests plain can room =
    let all : 0 + length requests ≡ length requests = omega arith in
    let parts : 0 + parts_of_all requests ≡ parts_of_all requests = omega arith in
    let run : Leads (opened_core shape) (trace_from shape 0 0 requests) (λ c. IsAtRest c (0 + length requests) (0 + parts_of_all requests)) =
    all_lead shape requests (opened_core shape) 0 0 refl (opened shape plain) (omega arith) (omega (arith, room)) can in
    subst (λ (k : ℕ). Leads (opened_core shape) (trace_from shape 0 0 requests) (λ c. IsAtRest c k (parts_of_all requests))) all
    (subst (λ (k : ℕ). Leads (opened_core shape) (trace_from shape 0 0 requests) (λ c. IsAtRest c (0 + length requests) k)) parts run)
