-- The steps at one ring of a fabric's table, as turns are made of them: what a seat needs to put an
-- item last or to take the first, what each event makes of its view, and which step of the machine
-- it is. `part` is the part of a reply that is put in the line, where one is.
use Rattle.std.specs.Prelude.{ℕ, ◌≡◌, ◌≢◌, ◌≤◌, ◌==◌, Bool, true, [], ◌∷◌, List, Option, Some, None}
use mathlib.Core.Path.{ap, refl, sym, subst, ◌∙◌}
use Rattle.std.proofs.lemmas.Bool.{false≢true}
use Rattle.atomic_table.specs.Table.{Me, State}
use Rattle.app_queue.specs.Views.{last_tag}
use Rattle.app_queue.specs.declared.side.Side.{Side}
use Rattle.app_queue.specs.declared.side.Side.TheVariants.{Free, Line}
use Rattle.app_queue.specs.declared.view.ItemEvent.{ItemEvent}
use Rattle.nncq_ring.specs.Turns.{IsDone, IsEmpty, IsGot, IsLook, IsPopLost, IsPushLost, IsWorn, Tells}
use Rattle.nncq_ring.specs.declared.turns.PopTurn.{PopTurn}
use Rattle.nncq_ring.specs.declared.turns.PopTurn.TheVariants as pop
use Rattle.nncq_ring.specs.declared.turns.PushTurn.{PushTurn}
use Rattle.nncq_ring.specs.declared.turns.PushTurn.TheVariants as push
use Rattle.nncq_ring.specs.declared.view.RingEvent.{RingEvent}
use Rattle.nncq_ring.specs.declared.view.RingEvent.TheVariants.{SawTail, SawHead, SawEntry, Pushed, Popped}
use Rattle.request_context.specs.declared.piece.Parcel.{Parcel}
use Rattle.unit_model.specs.Holding.{items_of}
use Rattle.unit_model.specs.Shapes.{role_in}
use Rattle.unit_model.specs.Sharing.{Holds}
use Rattle.unit_model.specs.declared.machine.Step.{Step}
use Rattle.unit_model.specs.declared.machine.Step.TheVariants.{GetItem, GiveItem, Pop, Push}
use Rattle.unit_model.specs.declared.shape.Shape.{Shape}
use Rattle.unit_types.specs.declared.message.Reply.{Reply}
use Rattle.unit_types.specs.declared.message.Request.{Request}
use Rattle.fabric_words.specs.Places.{HasItem}
use Rattle.fabric_rule.specs.Logs.{looked_log, own_log}
use Rattle.fabric_rule.specs.Opening.{ledger_of}
use Rattle.fabric_rule.specs.Rule.{FabricHolds}
use Rattle.fabric_rule.specs.Sending.{queue_to, with_part_put, work_armed}
use Rattle.fabric_rule.specs.Steps.{IsMachineStep, IsMain, IsNoStep, with_got, with_popped, with_put}
use Rattle.fabric_rule.specs.Told.{Moment}
use Rattle.fabric_rule.specs.Views.{emptied_by, held_at, is_side, log_at, logged, posts_of, tag_said}
use Rattle.fabric_rule.specs.declared.event.FabricEvent.TheVariants.{AtRing}
use Rattle.fabric_rule.specs.declared.sending.PartOut.{PartOut}
use Rattle.fabric_rule.specs.declared.view.FabricView.{FabricView}

-- a seat's number in the table, with what it knows and carries
abbrev pub Known : Type 0 → Type 0
Known H = ℕ × Me (Option (Parcel H)) FabricView

-- ---- what a seat needs

-- an item without a tag goes back into the free ring
pub record MayGive (shape : Shape) (queue item : ℕ) (v : FabricView) : Type 0 where
  pub there : HasItem shape queue item
  pub busy : v.works ≢ []
  pub holds : Holds (held_at queue) item v
  pub untagged : tag_said queue v item 0

-- an engine's armed item goes into the line of queue 0
pub record MayPost (shape : Shape) (queue item : ℕ) (v : FabricView) : Type 0 where
  pub line : queue ≡ 0
  pub there : HasItem shape 0 item
  pub busy : v.works ≢ []
  pub engine : role_in shape v.seat ≡ 0
  pub holds : Holds (held_at 0) item v
  pub armed : (stream : ℕ) × tag_said 0 v item stream × (stream ≢ 0) × (1 ≤ posts_of stream item v.arms)

-- a part that a worker armed with the item goes into the line of its engine's queue
pub record MayAnswer (shape : Shape) (part : PartOut) (item : ℕ) (v : FabricView) : Type 0 where
  pub there : HasItem shape (queue_to part) item
  pub work : v.works ≡ work_armed part item ∷ []
  pub worker : role_in shape v.seat ≡ 1
  pub holds : Holds (held_at (queue_to part)) item v
  pub armed : tag_said (queue_to part) v item part.stream

abbrev pub MayPutItem : Shape → ℕ → Side → ℕ → FabricView → Type 0
MayPutItem shape queue Free item v = MayGive shape queue item v
MayPutItem shape queue Line item v = MayPost shape queue item v

abbrev pub MayPutAt : Shape → ℕ → Side → Option PartOut → ℕ → FabricView → Type 0
MayPutAt shape queue side None item v = MayPutItem shape queue side item v
MayPutAt shape queue side (Some part) item v = MayAnswer shape part item v

-- a seat with a work gets items of a queue that it fills
pub record MayGet (shape : Shape) (queue : ℕ) (v : FabricView) : Type 0 where
  pub busy : v.works ≢ []
  pub fills : (role_in shape v.seat == 0) ≡ (queue == 0)

-- a main seat pops the line that it empties
pub record MayPop (shape : Shape) (queue : ℕ) (v : FabricView) : Type 0 where
  pub main : IsMain v (ledger_of v)
  pub role : role_in shape v.seat ≤ 1
  pub empties : queue ≡ emptied_by shape v.seat

abbrev pub MayTakeAt : Shape → ℕ → Side → FabricView → Type 0
MayTakeAt shape queue Free v = MayGet shape queue v
MayTakeAt shape queue Line v = MayPop shape queue v

-- ---- what an event makes of a view

abbrev pub put_at : ℕ → Side → Option PartOut → ℕ → ℕ → FabricView → FabricView
put_at queue side None place item v = with_put queue side item place v
put_at queue side (Some part) place item v = with_part_put part item place v

abbrev pub taken_at : ℕ → Side → ℕ → ℕ → FabricView → FabricView
taken_at queue Free place item v = with_got queue item place v
taken_at queue Line place item v = with_popped queue item place (ledger_of v) v

abbrev pub view_after : ℕ → Side → Option PartOut → RingEvent → FabricView → FabricView
view_after queue side part (SawTail tail) v = logged (AtRing queue side (SawTail tail)) v
view_after queue side part (SawHead head) v = logged (AtRing queue side (SawHead head)) v
view_after queue side part (SawEntry place entry) v = logged (AtRing queue side (SawEntry place entry)) v
view_after queue side part (Pushed place item) v = put_at queue side part place item v
view_after queue side part (Popped place item) v = taken_at queue side place item v

-- ---- which step of the machine it is

abbrev pub put_step : ℕ → Side → ℕ → ℕ → ℕ → Step
put_step queue Free seat place item = GiveItem seat queue item place
put_step queue Line seat place item = Push seat queue item place

abbrev pub take_step : ℕ → Side → ℕ → ℕ → ℕ → Step
take_step queue Free seat place item = GetItem seat queue item place
take_step queue Line seat place item = Pop seat queue item place

-- a look is none
abbrev pub IsStepOf : {H : Type 0} (reply_of : List ℕ → Request → Reply) (shape : Shape) (s : State (Option (Parcel H)) FabricView) (holds : FabricHolds reply_of shape s) → ℕ → Side → ℕ → RingEvent → State (Option (Parcel H)) FabricView → Type 0
IsStepOf reply_of shape s holds queue side seat (SawTail tail) s' = IsNoStep reply_of shape s holds s'
IsStepOf reply_of shape s holds queue side seat (SawHead head) s' = IsNoStep reply_of shape s holds s'
IsStepOf reply_of shape s holds queue side seat (SawEntry place entry) s' = IsNoStep reply_of shape s holds s'
IsStepOf reply_of shape s holds queue side seat (Pushed place item) s' =
    IsMachineStep reply_of shape s holds (put_step queue side seat place item) s'
IsStepOf reply_of shape s holds queue side seat (Popped place item) s' =
    IsMachineStep reply_of shape s holds (take_step queue side seat place item) s'

-- A step with this event at the ring: an atomic step of the table, which makes this of the seat's
-- view, moves no slots, and is this step of the machine or none.
pub record RingStep (H : Type 0) (reply_of : List ℕ → Request → Reply) (shape : Shape) (queue : ℕ) (side : Side) (part : Option PartOut) (e : RingEvent) (k k' : Known H) : Type 0 where
  pub same : k'.0 ≡ k.0
  pub slots : k'.1.1 ≡ k.1.1
  pub moment : Moment H reply_of shape k.0 k.1.0 k'.1.0
  pub becomes : k'.1.0 ≡ view_after queue side part e k.1.0
  pub made : IsStepOf reply_of shape moment.before moment.holds queue side k.1.0.seat e moment.after

-- ---- what a turn tells

-- the works of the same seat
abbrev pub SameWorks : FabricView → FabricView → Type 0
SameWorks v u = (u.seat ≡ v.seat) × (u.works ≡ v.works)

-- for each answer the events of the turn, with what was so at each
pub record TakeTold (H : Type 0) (reply_of : List ℕ → Request → Reply) (shape : Shape) (queue : ℕ) (side : Side) (k : Known H) (turn : PopTurn) (k' : Known H) : Type 0 where
  pub slots : k'.1.1 ≡ k.1.1
  pub works : SameWorks k.1.0 k'.1.0
  pub got : (place item : ℕ) → turn ≡ pop.Got place item
      → Tells (RingStep H reply_of shape queue side None) k k' (IsGot (items_of shape queue) (log_at queue side k.1.0) place item)
  pub empty : (place entry : ℕ) → turn ≡ pop.Empty place entry
      → Tells (RingStep H reply_of shape queue side None) k k' (IsEmpty (items_of shape queue) (log_at queue side k.1.0) place entry)
  pub lost : (head entry : ℕ) → turn ≡ pop.Lost head entry
      → Tells (RingStep H reply_of shape queue side None) k k' (IsPopLost (items_of shape queue) (log_at queue side k.1.0) head entry)
  -- a turn that was lost may be tried again
  pub again : (head entry : ℕ) → turn ≡ pop.Lost head entry → MayTakeAt shape queue side k'.1.0

pub record PutTold (H : Type 0) (reply_of : List ℕ → Request → Reply) (shape : Shape) (queue : ℕ) (side : Side) (part : Option PartOut) (item : ℕ) (k : Known H) (turn : PushTurn) (k' : Known H) : Type 0 where
  pub slots : k'.1.1 ≡ k.1.1
  pub works : part ≡ None → SameWorks k.1.0 k'.1.0
  pub done : (place : ℕ) → turn ≡ push.Done place
      → Tells (RingStep H reply_of shape queue side part) k k' (IsDone (items_of shape queue) item (log_at queue side k.1.0) place)
  pub lost : (tail entry : ℕ) → turn ≡ push.Lost tail entry
      → Tells (RingStep H reply_of shape queue side part) k k' (IsPushLost (items_of shape queue) (log_at queue side k.1.0) tail entry)
  pub worn : (place : ℕ) → turn ≡ push.Worn place
      → Tells (RingStep H reply_of shape queue side part) k k' (IsWorn (items_of shape queue) (log_at queue side k.1.0) place)
  pub again : (tail entry : ℕ) → turn ≡ push.Lost tail entry → MayPutAt shape queue side part item k'.1.0

-- ---- each event stands in the log of its ring, and a look leaves what a seat may do

-- a part is put in the line of its own queue
abbrev pub queue_of_part : ℕ → Option PartOut → ℕ
queue_of_part queue None = queue
queue_of_part queue (Some part) = queue_to part

abbrev pub is_side_of_part : Side → Option PartOut → Bool
is_side_of_part side None = true
is_side_of_part side (Some part) = is_side side Line

abbrev pub IsPartOf : ℕ → Side → Option PartOut → Type 0
IsPartOf queue side part = (queue_of_part queue part ≡ queue) × (is_side_of_part side part ≡ true)

put_logs : (queue : ℕ) (side : Side) (part : Option PartOut) → IsPartOf queue side part → (place item : ℕ) (v : FabricView)
    → log_at queue side (put_at queue side part place item v) ≡ Pushed place item ∷ log_at queue side v
put_logs queue side None is place item v = own_log queue side (Pushed place item) v.log
put_logs queue Line (Some part) is place item v =
    subst (λ (q : ℕ). log_at q Line (with_part_put part item place v) ≡ Pushed place item ∷ log_at q Line v) is.0 (own_log (queue_to part) Line (Pushed place item) v.log)
put_logs queue Free (Some part) is place item v = absurd (false≢true is.1)

taken_logs : (queue : ℕ) (side : Side) (place item : ℕ) (v : FabricView) → log_at queue side (taken_at queue side place item v) ≡ Popped place item ∷ log_at queue side v
taken_logs queue Free place item v = own_log queue Free (Popped place item) v.log
taken_logs queue Line place item v = own_log queue Line (Popped place item) v.log

after_logs : (queue : ℕ) (side : Side) (part : Option PartOut) → IsPartOf queue side part → (e : RingEvent) (v : FabricView)
    → log_at queue side (view_after queue side part e v) ≡ e ∷ log_at queue side v
after_logs queue side part is (SawTail tail) v = own_log queue side (SawTail tail) v.log
after_logs queue side part is (SawHead head) v = own_log queue side (SawHead head) v.log
after_logs queue side part is (SawEntry place entry) v = own_log queue side (SawEntry place entry) v.log
after_logs queue side part is (Pushed place item) v = put_logs queue side part is place item v
after_logs queue side part is (Popped place item) v = taken_logs queue side place item v

pub step_logs : (H : Type 0) (reply_of : List ℕ → Request → Reply) (shape : Shape) (queue : ℕ) (side : Side) (part : Option PartOut) → IsPartOf queue side part
    → (e : RingEvent) (k k' : Known H) → RingStep H reply_of shape queue side part e k k' → log_at queue side k'.1.0 ≡ e ∷ log_at queue side k.1.0
step_logs H reply_of shape queue side part is e k k' step = ap (log_at queue side) step.becomes ∙ after_logs queue side part is e k.1.0

look_after : (queue : ℕ) (side : Side) (part : Option PartOut) (e : RingEvent) (v : FabricView) → IsLook e → view_after queue side part e v ≡ logged (AtRing queue side e) v
look_after queue side part (SawTail tail) v look = refl
look_after queue side part (SawHead head) v look = refl
look_after queue side part (SawEntry place entry) v look = refl
look_after queue side part (Pushed place item) v look = absurd (look tt)
look_after queue side part (Popped place item) v look = absurd (look tt)

still_said : (queue : ℕ) (side : Side) (e : RingEvent) (v : FabricView) (r item x : ℕ) → IsLook e → tag_said r v item x → tag_said r (logged (AtRing queue side e) v) item x
still_said queue side e v r item x look said = ap (λ (es : List ItemEvent). last_tag item es) (looked_log queue side e v.log r look) ∙ said

still_put : (shape : Shape) (queue : ℕ) (side : Side) (part : Option PartOut) (item : ℕ) (e : RingEvent) (v : FabricView) → IsLook e → MayPutAt shape queue side part item v → MayPutAt shape queue side part item (logged (AtRing queue side e) v)
still_put shape queue side (Some part) item e v look may =
    record { there = may.there; work = may.work; worker = may.worker; holds = may.holds; armed = still_said queue side e v (queue_to part) item part.stream look may.armed }
still_put shape queue Free None item e v look may =
    record { there = may.there; busy = may.busy; holds = may.holds; untagged = still_said queue Free e v queue item 0 look may.untagged }
still_put shape queue Line None item e v look may = record {
  line = may.line;
  there = may.there;
  busy = may.busy;
  engine = may.engine;
  holds = may.holds;
  armed = (may.armed.0, still_said queue Line e v 0 item may.armed.0 look may.armed.1, may.armed.2, may.armed.3);
}

still_take : (shape : Shape) (queue : ℕ) (side : Side) (e : RingEvent) (v : FabricView) → MayTakeAt shape queue side v → MayTakeAt shape queue side (logged (AtRing queue side e) v)
still_take shape queue Free e v may = record { busy = may.busy; fills = may.fills }
still_take shape queue Line e v may = record { main = record { only = may.main.only; number = may.main.number; nothing = may.main.nothing }; role = may.role; empties = may.empties }

pub looks_keep_put : (H : Type 0) (reply_of : List ℕ → Request → Reply) (shape : Shape) (queue : ℕ) (side : Side) (part : Option PartOut) (item : ℕ)
    → (e : RingEvent) (k k' : Known H) → IsLook e → RingStep H reply_of shape queue side part e k k' → MayPutAt shape queue side part item k.1.0 → MayPutAt shape queue side part item k'.1.0
looks_keep_put H reply_of shape queue side part item e k k' look step may =
    subst (MayPutAt shape queue side part item) (sym (step.becomes ∙ look_after queue side part e k.1.0 look)) (still_put shape queue side part item e k.1.0 look may)

pub looks_keep_take : (H : Type 0) (reply_of : List ℕ → Request → Reply) (shape : Shape) (queue : ℕ) (side : Side) (part : Option PartOut)
    → (e : RingEvent) (k k' : Known H) → IsLook e → RingStep H reply_of shape queue side part e k k' → MayTakeAt shape queue side k.1.0 → MayTakeAt shape queue side k'.1.0
looks_keep_take H reply_of shape queue side part e k k' look step may =
    subst (MayTakeAt shape queue side) (sym (step.becomes ∙ look_after queue side part e k.1.0 look)) (still_take shape queue side e k.1.0 may)
