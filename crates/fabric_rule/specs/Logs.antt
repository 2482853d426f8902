-- What one event more at a ring makes of a log.
use Rattle.std.specs.Prelude.{ℕ, ◌≡◌, ◌==◌, ◌&&◌, Bool, true, false, cond, List, ◌∷◌}
use mathlib.Core.Path.{ap, refl, ◌∙◌}
use Rattle.std.proofs.lemmas.Bool.{eq-eqb}
use Rattle.nncq_ring.specs.Turns.{IsLook}
use Rattle.nncq_ring.specs.declared.view.RingEvent.{RingEvent}
use Rattle.nncq_ring.specs.declared.view.RingEvent.TheVariants.{SawTail, SawHead, SawEntry, Pushed, Popped}
use Rattle.app_queue.specs.Views.{items_after}
use Rattle.app_queue.specs.declared.side.Side.{Side}
use Rattle.app_queue.specs.declared.side.Side.TheVariants.{Free, Line}
use Rattle.app_queue.specs.declared.view.ItemEvent.{ItemEvent}
use Rattle.fabric_rule.specs.Views.{item_log, ring_log}
use Rattle.fabric_rule.specs.declared.event.FabricEvent.{FabricEvent}
use Rattle.fabric_rule.specs.declared.event.FabricEvent.TheVariants.{AtRing}

-- the event stands in front of what the seat noted of its ring
pub own_log : (queue : ℕ) (side : Side) (e : RingEvent) (es : List FabricEvent) → ring_log queue side (AtRing queue side e ∷ es) ≡ e ∷ ring_log queue side es
own_log queue Free e es = ap (λ (b : Bool). cond (b && true) (e ∷ ring_log queue Free es) (ring_log queue Free es)) (eq-eqb queue queue refl)
own_log queue Line e es = ap (λ (b : Bool). cond (b && true) (e ∷ ring_log queue Line es) (ring_log queue Line es)) (eq-eqb queue queue refl)

looked_items : (side : Side) (e : RingEvent) (items : List ItemEvent) → IsLook e → items_after side e items ≡ items
looked_items side (SawTail tail) items look = refl
looked_items side (SawHead head) items look = refl
looked_items side (SawEntry place entry) items look = refl
looked_items side (Pushed place value) items look = absurd (look tt)
looked_items side (Popped place value) items look = absurd (look tt)

same_both : (b : Bool) (xs : List ItemEvent) → cond b xs xs ≡ xs
same_both true xs = refl
same_both false xs = refl

-- a look is of no item
pub looked_log : (queue : ℕ) (side : Side) (e : RingEvent) (es : List FabricEvent) (r : ℕ) → IsLook e → item_log r (AtRing queue side e ∷ es) ≡ item_log r es
looked_log queue side e es r look = ap (λ (xs : List ItemEvent). cond (queue == r) xs (item_log r es)) (looked_items side e (item_log r es) look) ∙ same_both (queue == r) (item_log r es)
