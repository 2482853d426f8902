-- What turns leave as it was, and what an item that was got is good for.
use Rattle.std.proofs.Common.{ℕ, ◌≡◌, ◌≢◌, ◌<◌, ◌==◌, ◌∙◌, Bool, cond, if◌then◌else◌, List, [], ◌∷◌, refl, sym, ap, subst, arith, mod-lt}
use Rattle.std.specs.Prelude.{Option, None}
use Rattle.std.proofs.lemmas.Bool.{eq-eqb}
use Rattle.nncq_ring.specs.Turns.{Chain, IsDone, IsEmpty, IsGot, IsPopLost, IsPushLost, IsWorn, Tells, head_looks}
use Rattle.nncq_ring.specs.declared.turns.PopTurn.{PopTurn}
use Rattle.nncq_ring.specs.declared.turns.PopTurn.TheVariants as pop
use Rattle.nncq_ring.specs.declared.turns.PushTurn.{PushTurn}
use Rattle.nncq_ring.specs.declared.turns.PushTurn.TheVariants as push
use Rattle.nncq_ring.specs.declared.view.RingEvent.{RingEvent}
use Rattle.nncq_ring.specs.declared.view.RingEvent.TheVariants.{SawTail, SawHead, SawEntry, Pushed, Popped}
use Rattle.nncq_ring.proofs.Looking.{looks_keep, pop_lost_looks, push_lost_looks}
use Rattle.app_queue.specs.Views.{items_after, last_tag, tag_got}
use Rattle.app_queue.specs.declared.side.Side.{Side}
use Rattle.app_queue.specs.declared.side.Side.TheVariants.{Free, Line}
use Rattle.unit_model.specs.Holding.{items_of}
use Rattle.unit_model.specs.Shapes.{role_in}
use Rattle.unit_model.specs.Sharing.{Holds}
use Rattle.unit_model.specs.Weights.{is_number}
use Rattle.unit_model.proofs.Weights.{is_number_same}
use Rattle.unit_model.specs.declared.shape.Shape.{Shape}
use Rattle.unit_types.specs.declared.message.Reply.{Reply}
use Rattle.unit_types.specs.declared.message.Request.{Request}
use Rattle.fabric_words.specs.Places.{queues_of}
use Rattle.fabric_rule.specs.Claiming.{own_segments}
use Rattle.fabric_rule.specs.Drawing.{with_drawn}
use Rattle.fabric_rule.specs.SegmentMaps.{MayTakeChunks, OnlyChunks}
use Rattle.fabric_rule.specs.Steps.{with_got}
use Rattle.fabric_rule.specs.Turns.{Known, MayGet, MayGive, MayPutAt, MayTakeAt, RingStep, SameWorks, TakeTold, looks_keep_put, looks_keep_take, view_after}
use Rattle.fabric_rule.specs.Views.{held_at, item_log, log_at, tag_said}
use Rattle.fabric_rule.specs.declared.event.Segments.{Segments}
use Rattle.fabric_rule.specs.declared.event.Segments.TheVariants.{Back, Out}
use Rattle.fabric_rule.specs.declared.sending.PartOut.{PartOut}
use Rattle.fabric_rule.specs.declared.view.FabricView.{FabricView}
use Rattle.fabric_rule.specs.declared.view.Ledger.{Ledger}

-- ---- what stays

event_works : (queue : ℕ) (side : Side) (e : RingEvent) (v : FabricView) → SameWorks v (view_after queue side None e v)
event_works queue side (SawTail tail) v = (refl, refl)
event_works queue side (SawHead head) v = (refl, refl)
event_works queue side (SawEntry place entry) v = (refl, refl)
event_works queue side (Pushed place item) v = (refl, refl)
event_works queue Free (Popped place item) v = (refl, refl)
event_works queue Line (Popped place item) v = (refl, refl)

pub works_on : (v w u : FabricView) → SameWorks v w → SameWorks w u → SameWorks v u
works_on v w u one two = (two.0 ∙ one.0, two.1 ∙ one.1)

module _ {H : Type 0} (reply_of : List ℕ → Request → Reply) (shape : Shape) (queue : ℕ) (side : Side) (part : Option PartOut) where
  chain_slots : (es : List RingEvent) (k k' : Known H) → Chain (RingStep H reply_of shape queue side part) es k k' → k'.1.1 ≡ k.1.1
  chain_slots [] k k' same = ap (λ (m : Known H). m.1.1) same
  chain_slots (e ∷ es) k k' chain = chain.2.slots ∙ chain_slots es k chain.0 chain.1

  chain_works : part ≡ None → (es : List RingEvent) (k k' : Known H) → Chain (RingStep H reply_of shape queue side part) es k k' → SameWorks k.1.0 k'.1.0
  chain_works none [] k k' same = (ap (λ (m : Known H). m.1.0.seat) same, ap (λ (m : Known H). m.1.0.works) same)
  chain_works none (e ∷ es) k k' chain =
      works_on k.1.0 chain.0.1.0 k'.1.0 (chain_works none es k chain.0 chain.1)
      (subst (SameWorks chain.0.1.0) (sym (chain.2.becomes ∙ ap (λ (p : Option PartOut). view_after queue side p e chain.0.1.0) none)) (event_works queue side e chain.0.1.0))

  -- what every answer leaves
  module _ (Left : Type 0) (k k' : Known H) (leaves : (es : List RingEvent) → Chain (RingStep H reply_of shape queue side part) es k k' → Left) where
    pub take_leaves : (turn : PopTurn) → ((place item : ℕ) → turn ≡ pop.Got place item → Tells (RingStep H reply_of shape queue side part) k k' (IsGot (items_of shape queue) (log_at queue side k.1.0) place item))
        → ((place entry : ℕ) → turn ≡ pop.Empty place entry → Tells (RingStep H reply_of shape queue side part) k k' (IsEmpty (items_of shape queue) (log_at queue side k.1.0) place entry))
        → ((head entry : ℕ) → turn ≡ pop.Lost head entry → Tells (RingStep H reply_of shape queue side part) k k' (IsPopLost (items_of shape queue) (log_at queue side k.1.0) head entry)) → Left
    take_leaves (pop.Got place item) got empty lost = let told = got place item refl in leaves told.0 told.2
    take_leaves (pop.Empty place entry) got empty lost = let told = empty place entry refl in leaves told.0 told.2
    take_leaves (pop.Lost head entry) got empty lost = let told = lost head entry refl in leaves told.0 told.2

    pub put_leaves : (item : ℕ) (turn : PushTurn) → ((place : ℕ) → turn ≡ push.Done place → Tells (RingStep H reply_of shape queue side part) k k' (IsDone (items_of shape queue) item (log_at queue side k.1.0) place))
        → ((tail entry : ℕ) → turn ≡ push.Lost tail entry → Tells (RingStep H reply_of shape queue side part) k k' (IsPushLost (items_of shape queue) (log_at queue side k.1.0) tail entry))
        → ((place : ℕ) → turn ≡ push.Worn place → Tells (RingStep H reply_of shape queue side part) k k' (IsWorn (items_of shape queue) (log_at queue side k.1.0) place)) → Left
    put_leaves item (push.Done place) done lost worn = let told = done place refl in leaves told.0 told.2
    put_leaves item (push.Lost tail entry) done lost worn = let told = lost tail entry refl in leaves told.0 told.2
    put_leaves item (push.Worn place) done lost worn = let told = worn place refl in leaves told.0 told.2

  pub slots_stay : (k k' : Known H) (es : List RingEvent) → Chain (RingStep H reply_of shape queue side part) es k k' → k'.1.1 ≡ k.1.1
  slots_stay k k' es chain = chain_slots es k k' chain

  pub works_stay : (k k' : Known H) → part ≡ None → (es : List RingEvent) → Chain (RingStep H reply_of shape queue side part) es k k' → SameWorks k.1.0 k'.1.0
  works_stay k k' none es chain = chain_works none es k k' chain

  -- ---- a turn that was lost

  pub take_again : (k k' : Known H) (head entry : ℕ) → MayTakeAt shape queue side k.1.0 → Tells (RingStep H reply_of shape queue side part) k k' (IsPopLost (items_of shape queue) (log_at queue side k.1.0) head entry) → MayTakeAt shape queue side k'.1.0
  take_again k k' head entry may lost =
      looks_keep (Known H) (RingStep H reply_of shape queue side part) (λ m. MayTakeAt shape queue side m.1.0) (looks_keep_take H reply_of shape queue side part) k k'
      (lost.0, pop_lost_looks (items_of shape queue) (log_at queue side k.1.0) head entry lost.0 lost.1, lost.2) may

  pub put_again : (item : ℕ) (k k' : Known H) (tail entry : ℕ) → MayPutAt shape queue side part item k.1.0 → Tells (RingStep H reply_of shape queue side part) k k' (IsPushLost (items_of shape queue) (log_at queue side k.1.0) tail entry) → MayPutAt shape queue side part item k'.1.0
  put_again item k k' tail entry may lost =
      looks_keep (Known H) (RingStep H reply_of shape queue side part) (λ m. MayPutAt shape queue side part item m.1.0) (looks_keep_put H reply_of shape queue side part item) k k'
      (lost.0, push_lost_looks (items_of shape queue) (log_at queue side k.1.0) tail entry lost.0 lost.1, lost.2) may

-- ---- an item that was got

got_holds : (queue item place : ℕ) (v : FabricView) → Holds (held_at queue) item (with_got queue item place v)
got_holds queue item place v =
    omega (arith, ap (λ (b : Bool). cond b (is_number item item) 0) (eq-eqb queue queue refl), is_number_same item)

got_untagged : (queue item place : ℕ) (v : FabricView) → tag_said queue (with_got queue item place v) item 0
got_untagged queue item place v =
    ap (λ (b : Bool). last_tag item (cond b (items_after Free (Popped place item) (item_log queue v.log)) (item_log queue v.log))) (eq-eqb queue queue refl)
    ∙ ap (λ (b : Bool). cond b (tag_got Free) (last_tag item (item_log queue v.log))) (eq-eqb item item refl)

pub got_may_give : {H : Type 0} (reply_of : List ℕ → Request → Reply) (shape : Shape) (queue : ℕ) (k : Known H) (turn : PopTurn) (k' : Known H) → queue < queues_of shape → k.1.0.works ≢ [] → TakeTold H reply_of shape queue Free k turn k'
    → (place item : ℕ) → turn ≡ pop.Got place item → MayGive shape queue item k'.1.0
got_may_give {H} reply_of shape queue k turn k' there busy told place item is =
    let got = told.got place item is in
    let n : ℕ = items_of shape queue in
    let chain : Chain (RingStep H reply_of shape queue Free None) (Popped place item ∷ head_looks place got.1.entry) k k' = subst (λ (es : List RingEvent). Chain (RingStep H reply_of shape queue Free None) es k k') got.1.told got.2 in
    let before : FabricView = chain.0.1.0 in
    let view : k'.1.0 ≡ with_got queue item place before = chain.2.becomes in
    let inside : item < n = omega (arith, got.1.carried, mod-lt got.1.entry got.1.first.met.fine.size) in
    record {
      there = record { in_queues = there; in_items = inside };
      busy = λ none. busy (sym told.works.1 ∙ none);
      holds = subst (Holds (held_at queue) item) (sym view) (got_holds queue item place before);
      untagged = subst (λ (u : FabricView). tag_said queue u item 0) (sym view) (got_untagged queue item place before);
    }

-- ---- what a seat with these works may do

pub works_get : (shape : Shape) (queue : ℕ) (v u : FabricView) → SameWorks v u → MayGet shape queue v → MayGet shape queue u
works_get shape queue v u same may = record {
  busy = λ none. may.busy (sym same.1 ∙ none);
  fills = ap (λ (k : ℕ). role_in shape k == 0) same.0 ∙ may.fills;
}

pub works_take : (shape : Shape) (segments : Segments) (v u : FabricView) → SameWorks v u → MayTakeChunks shape segments v → MayTakeChunks shape segments u
works_take shape segments v u same may = record {
  busy = λ none. may.busy (sym same.1 ∙ none);
  own = may.own ∙ ap (own_segments shape) (sym same.0);
}

pub only_works : (v u : FabricView) → OnlyChunks v u → SameWorks v u
only_works v u is = (ap (λ (w : FabricView). w.seat) is, ap (λ (w : FabricView). w.works) is)

-- an engine that drew a stream
pub drawn_may : (shape : Shape) (stream : ℕ) (c : Ledger) (v : FabricView) → role_in shape v.seat ≡ 0 → MayGet shape 0 (with_drawn stream c v) × MayTakeChunks shape Out (with_drawn stream c v)
drawn_may shape stream c v engine = (
  record { busy = λ none. absurd (cc none); fills = ap (λ (role : ℕ). role == 0) engine },
  record { busy = λ none. absurd (cc none); own = sym (ap (λ (role : ℕ). if role == 0 then Out else Back) engine) },
)
