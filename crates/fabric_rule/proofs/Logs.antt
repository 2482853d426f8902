-- What one event more at a ring makes of what was noted of other rings.
use Rattle.std.proofs.Common.{ℕ, ◌≡◌, ◌==◌, ◌&&◌, inl, inr, ⊎_elim, Bool, true, false, cond, List, ◌∷◌, refl, sym, ap}
use Rattle.std.proofs.lemmas.Bool.{ne_eqb}
use Rattle.nncq_ring.specs.declared.view.RingEvent.{RingEvent}
use Rattle.app_queue.specs.Queues.{IsOther}
use Rattle.app_queue.specs.declared.side.Side.{Side}
use Rattle.app_queue.specs.declared.side.Side.TheVariants.{Free, Line}
use Rattle.fabric_words.specs.Places.{is_same_side}
use Rattle.fabric_words.specs.declared.place.Side.TheVariants.{FreeSide, LineSide}
use Rattle.fabric_words.proofs.Frames.{other_queue, other_side}
use Rattle.fabric_rule.specs.Views.{is_side, ring_log, word_side}
use Rattle.fabric_rule.specs.declared.event.FabricEvent.{FabricEvent}
use Rattle.fabric_rule.specs.declared.event.FabricEvent.TheVariants.{AtRing}

off_side : (b : Bool) (xs ys : List RingEvent) → cond (b && false) xs ys ≡ ys
off_side true xs ys = refl
off_side false xs ys = refl

-- it is of no other ring
pub other_log : (queue : ℕ) (side : Side) (e : RingEvent) (es : List FabricEvent) (r : ℕ) (other : Side) → IsOther queue side r other → ring_log r other (AtRing queue side e ∷ es) ≡ ring_log r other es
other_log queue side e es r other (inl ne) = ap (λ (b : Bool). cond (b && is_side side other) (e ∷ ring_log r other es) (ring_log r other es)) (ne_eqb queue r (λ is. ne (sym is)))
other_log queue Free e es r Free (inr ne) = absurd (ne refl)
other_log queue Free e es r Line (inr ne) = off_side (queue == r) (e ∷ ring_log r Line es) (ring_log r Line es)
other_log queue Line e es r Free (inr ne) = off_side (queue == r) (e ∷ ring_log r Free es) (ring_log r Free es)
other_log queue Line e es r Line (inr ne) = absurd (ne refl)

-- a place of another ring is none of this one
pub off_ring : (queue : ℕ) (side : Side) (r : ℕ) (other : Side) → IsOther queue side r other → (r == queue && is_same_side (word_side other) (word_side side)) ≡ false
off_ring queue Free r Free apart = ⊎_elim (λ ne. other_queue r queue FreeSide FreeSide ne) (λ ne. absurd (ne refl)) apart
off_ring queue Free r Line apart = other_side r queue LineSide FreeSide refl
off_ring queue Line r Free apart = other_side r queue FreeSide LineSide refl
off_ring queue Line r Line apart = ⊎_elim (λ ne. other_queue r queue LineSide LineSide ne) (λ ne. absurd (ne refl)) apart
