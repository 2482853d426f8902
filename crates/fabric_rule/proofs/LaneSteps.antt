-- What the exchanges of entries and heads tell, as steps at a ring.
use Rattle.std.proofs.Common.{ℕ, ◌+◌, ◌/◌, ◌%◌, ◌≡◌, ◌≢◌, ◌≤◌, ◌<◌, ◌∙◌, ◌^◌, inl, inr, true, List, refl, sym, subst, arith}
use Rattle.std.specs.Prelude.{None, Option, Some}
use Rattle.std.proofs.lemmas.Bool.{cases_eq, false≢true}
use mathlib.Core.Option.{some}
use lib.ListN.{get_elem?}
use Rattle.app_queue.specs.declared.side.Side.{Side}
use Rattle.app_queue.specs.declared.side.Side.TheVariants.{Free, Line}
use Rattle.nncq_ring.specs.Moments.{PutLast, TookFirst}
use Rattle.nncq_ring.specs.Shown.{ShowsFilled}
use Rattle.nncq_ring.specs.declared.view.RingEvent.{RingEvent}
use Rattle.nncq_ring.specs.declared.view.RingEvent.TheVariants.{Popped, Pushed, SawEntry, SawHead, SawTail}
use Rattle.unit_model.specs.Holding.{items_of}
use Rattle.unit_model.specs.declared.shape.Shape.{Shape}
use Rattle.unit_types.specs.declared.message.Reply.{Reply}
use Rattle.unit_types.specs.declared.message.Request.{Request}
use Rattle.fabric_words.specs.Places.{HasItem, queues_of}
use Rattle.fabric_rule.specs.Sending.{PutsEntry, SawVacant, queue_to}
use Rattle.fabric_rule.specs.Steps.{IsEndAbove}
use Rattle.fabric_rule.specs.Told.{Gets, Helps, Pops, SawFirst}
use Rattle.fabric_rule.specs.Turns.{IsPartOf, Known, MayAnswer, MayGet, MayGive, MayPop, MayPost, MayPutAt, MayPutItem, MayTakeAt, RingStep, put_at, put_step}
use Rattle.fabric_rule.specs.Views.{is_side, log_at}
use Rattle.fabric_rule.specs.declared.sending.PartOut.{PartOut}
use Rattle.fabric_rule.specs.declared.view.FabricView.{FabricView}
use Rattle.fabric_rule.proofs.RingMoments.{placed_last, taken_first}

module _ {H : Type 0} (reply_of : List ℕ → Request → Reply) (shape : Shape) (k k' : Known H) (same : k'.0 ≡ k.0) (slots : k'.1.1 ≡ k.1.1) where
  abbrev v : FabricView
  v = k.1.0

  -- an exchange of an entry, at a ring that is this one
  module _ (own_queue : ℕ) (own_side : Side) (own_part : Option PartOut) (queue : ℕ) (side : Side) (part : Option PartOut) (is_queue : queue ≡ own_queue) (is_side : side ≡ own_side) (is_part : part ≡ own_part)
      (item place entry found : ℕ) (told : PutsEntry H reply_of shape k.0 own_queue own_side item place entry (put_step own_queue own_side v.seat place item) (put_at own_queue own_side own_part place item v) v found k'.1.0) where
    -- what holds at the ring by its own name
    at_ring : (Holds : ℕ → Side → Option PartOut → Type 0) → Holds own_queue own_side own_part → Holds queue side part
    at_ring Holds it =
        subst (λ (q : ℕ). Holds q side part) (sym is_queue) (subst (λ (s : Side). Holds own_queue s part) (sym is_side) (subst (Holds own_queue own_side) (sym is_part) it))

    pub put_won : HasItem shape own_queue item → SawVacant (items_of shape own_queue) (log_at own_queue own_side v) place entry → found ≡ entry
        → RingStep H reply_of shape queue side part (Pushed place item) k k' × PutLast (items_of shape queue) place item (log_at queue side v)
    put_won has saw won =
        at_ring (λ q s p. RingStep H reply_of shape q s p (Pushed place item) k k' × PutLast (items_of shape q) place item (log_at q s v)) (
          record { same = same; slots = slots; moment = told.moment; becomes = told.won won; made = told.made won },
          placed_last reply_of shape k.0 own_queue own_side item place entry (put_step own_queue own_side v.seat place item) (put_at own_queue own_side own_part place item v) v found k'.1.0 has saw told won,
        )

    pub put_missed : found ≢ entry → RingStep H reply_of shape queue side part (SawEntry place found) k k' × (place / items_of shape queue ≤ found / items_of shape queue)
    put_missed ne =
        at_ring (λ q s p. RingStep H reply_of shape q s p (SawEntry place found) k k' × (place / items_of shape q ≤ found / items_of shape q))
        (record { same = same; slots = slots; moment = told.moment; becomes = told.missed ne; made = told.none ne }, told.later ne)

  -- an exchange of a head
  module _ (queue : ℕ) (side : Side) where
    abbrev n : ℕ
    n = items_of shape queue

    -- what holds of a won exchange, and of one that was lost, at this side
    abbrev Won : Option PartOut → ℕ → ℕ → Side → Type 0
    Won part place entry s = RingStep H reply_of shape queue s part (Popped place (entry % n)) k k' × TookFirst n place (entry % n) (log_at queue s v)

    abbrev Missed : Option PartOut → ℕ → ℕ → Side → Type 0
    Missed part place found s = RingStep H reply_of shape queue s part (SawHead found) k k' × (place < found)

    module _ (is : side ≡ Free) (part : Option PartOut) (there : queue < queues_of shape) (place entry found : ℕ) (told : Gets H reply_of shape k.0 queue place (entry % n) v found k'.1.0) where
      pub got_won : get_elem? (log_at queue side v) 0 ≡ some (SawEntry place entry) → entry / n ≡ place / n → found ≡ place → Won part place entry side
      got_won saw full won = subst (Won part place entry) (sym is) (
        record { same = same; slots = slots; moment = told.moment; becomes = told.won won; made = told.step won },
        taken_first reply_of shape k.0 v k'.1.0 told.moment queue Free there place entry (subst (λ (s : Side). get_elem? (log_at queue s v) 0 ≡ some (SawEntry place entry)) is saw) full (told.was ∙ won),
      )

      pub got_missed : found ≢ place → Missed part place found side
      got_missed ne = subst (Missed part place found) (sym is) (record { same = same; slots = slots; moment = told.moment; becomes = told.missed ne; made = told.none ne }, told.later ne)

    module _ (is : side ≡ Line) (part : Option PartOut) (there : queue < queues_of shape) (place entry found : ℕ) (told : Pops H reply_of shape k.0 queue place (entry % n) v found k'.1.0) where
      pub popped_won : get_elem? (log_at queue side v) 0 ≡ some (SawEntry place entry) → entry / n ≡ place / n → found ≡ place → Won part place entry side
      popped_won saw full won = subst (Won part place entry) (sym is) (
        record { same = same; slots = slots; moment = told.moment; becomes = told.won won; made = told.step won },
        taken_first reply_of shape k.0 v k'.1.0 told.moment queue Line there place entry (subst (λ (s : Side). get_elem? (log_at queue s v) 0 ≡ some (SawEntry place entry)) is saw) full (told.was ∙ won),
      )

      pub popped_missed : found ≢ place → Missed part place found side
      popped_missed ne = subst (Missed part place found) (sym is) (record { same = same; slots = slots; moment = told.moment; becomes = told.missed ne; made = told.none ne }, told.later ne)

  pub tail_moved : (queue : ℕ) (side : Side) (part : Option PartOut) (place found : ℕ) → Helps H reply_of shape k.0 queue side place k.1 found k'.1 → (tail : ℕ) × (place < tail) × RingStep H reply_of shape queue side part (SawTail tail) k k'
  tail_moved queue side part place found told =
      elim (cases_eq found place) [
        | inl won ↦ (place + 1, omega arith, record { same = same; slots = slots; moment = told.moment; becomes = told.won won; made = told.none })
        | inr ne ↦ (found, told.later ne, record { same = same; slots = slots; moment = told.moment; becomes = told.missed ne; made = told.none })
      ]

-- ---- what a seat may do, by what the ring is

pub may_answer : (shape : Shape) (queue : ℕ) (side : Side) (part : Option PartOut) (own : PartOut) (item : ℕ) (v : FabricView) → part ≡ Some own → MayPutAt shape queue side part item v → MayAnswer shape own item v
may_answer shape queue side part own item v is may = subst (λ (p : Option PartOut). MayPutAt shape queue side p item v) is may

may_put : (shape : Shape) (queue : ℕ) (side own : Side) (part : Option PartOut) (item : ℕ) (v : FabricView) → part ≡ None → side ≡ own → MayPutAt shape queue side part item v → MayPutItem shape queue own item v
may_put shape queue side own part item v none is may = subst (λ (s : Side). MayPutItem shape queue s item v) is (subst (λ (p : Option PartOut). MayPutAt shape queue side p item v) none may)

pub may_give : (shape : Shape) (queue : ℕ) (side : Side) (part : Option PartOut) (item : ℕ) (v : FabricView) → part ≡ None → side ≡ Free → MayPutAt shape queue side part item v → MayGive shape queue item v
may_give shape queue side part item v none is may = may_put shape queue side Free part item v none is may

pub may_post : (shape : Shape) (queue : ℕ) (side : Side) (part : Option PartOut) (item : ℕ) (v : FabricView) → part ≡ None → side ≡ Line → MayPutAt shape queue side part item v → MayPost shape queue item v
may_post shape queue side part item v none is may = may_put shape queue side Line part item v none is may

pub may_get : (shape : Shape) (queue : ℕ) (side : Side) (v : FabricView) → side ≡ Free → MayTakeAt shape queue side v → MayGet shape queue v
may_get shape queue side v is may = subst (λ (s : Side). MayTakeAt shape queue s v) is may

pub may_pop : (shape : Shape) (queue : ℕ) (side : Side) (v : FabricView) → side ≡ Line → MayTakeAt shape queue side v → MayPop shape queue v
may_pop shape queue side v is may = subst (λ (s : Side). MayTakeAt shape queue s v) is may

-- ---- what a seat saw

pub saw_vacant : (shape : Shape) (queue own_queue : ℕ) (side own_side : Side) (v : FabricView) (place entry : ℕ) → queue ≡ own_queue → side ≡ own_side → get_elem? (log_at queue side v) 0 ≡ some (SawEntry place entry) → get_elem? (log_at queue side v) 1 ≡ some (SawTail place)
    → entry / items_of shape queue + 1 ≡ place / items_of shape queue → place < 2 ^ 62 → SawVacant (items_of shape own_queue) (log_at own_queue own_side v) place entry
saw_vacant shape queue own_queue side own_side v place entry is_queue is_side looked seen before low =
    subst (λ (q : ℕ). SawVacant (items_of shape q) (log_at q own_side v) place entry) is_queue
    (subst (λ (s : Side). SawVacant (items_of shape queue) (log_at queue s v) place entry) is_side (record { saw = looked; tail = seen; before = before; low = low }))

pub saw_first : (shape : Shape) (queue : ℕ) (side own_side : Side) (v : FabricView) (place entry : ℕ) → side ≡ own_side → get_elem? (log_at queue side v) 0 ≡ some (SawEntry place entry) → get_elem? (log_at queue side v) 1 ≡ some (SawHead place)
    → entry / items_of shape queue ≡ place / items_of shape queue → SawFirst (items_of shape queue) (log_at queue own_side v) place entry
saw_first shape queue side own_side v place entry is_side looked seen full =
    subst (λ (s : Side). SawFirst (items_of shape queue) (log_at queue s v) place entry) is_side (record { saw = looked; head = seen; full = full })

-- a place that was seen to be filled
pub filled_end : (n place : ℕ) (log : List RingEvent) → ShowsFilled n place log → (at : ℕ) × (e : RingEvent) × (get_elem? log at ≡ some e) × IsEndAbove n place e
filled_end n place log (inl pushed) = (0, Pushed place pushed.0, pushed.1, refl)
filled_end n place log (inr saw) = (0, SawEntry place saw.0, saw.1, (refl, saw.2))

-- a part goes into the line of its queue
line_by : (side : Side) → is_side side Line ≡ true → side ≡ Line
line_by Line is = refl
line_by Free is = absurd (false≢true is)

pub line_of_part : (queue : ℕ) (side : Side) (part : PartOut) → IsPartOf queue side (Some part) → (queue ≡ queue_to part) × (side ≡ Line)
line_of_part queue side part is = (sym is.0, line_by side is.1)
