-- What a seat holds and knows of an item after a call, for callers.
use Rattle.std.proofs.Common.{ℕ, ◌≡◌, ◌<◌, Bool, true, cond, List, ◌∷◌, Some, refl, sym, ap, ◌∙◌, subst, arith}
use Rattle.std.proofs.lemmas.Bool.{eq-eqb}
use Rattle.unit_model.specs.Sharing.{Holds}
use Rattle.unit_model.specs.Weights.{weigh, is_number}
use Rattle.unit_model.proofs.Weights.{is_number_same}
use Rattle.app_queue.specs.declared.side.Side.{Side}
use Rattle.app_queue.specs.declared.view.ItemEvent.{ItemEvent}
use Rattle.app_queue.specs.declared.view.ItemEvent.TheVariants.{Taken, RunNoted, PartNoted, TagNoted, Armed}
use Rattle.app_queue.specs.declared.view.QueueView.{QueueView}
use Rattle.app_queue.specs.Views.{tag_got, last_tag, is_armed, held_by}

-- an item that was got
pub got_holds : (item : ℕ) (v u : QueueView) → u.held ≡ item ∷ v.held → Holds held_by item u
got_holds item v u is = subst (λ (xs : List ℕ). 0 < weigh (is_number item) xs) (sym is) (omega (arith, is_number_same item))

pub got_tag : (side : Side) (item place : ℕ) (v u : QueueView) → u.items ≡ Taken side item place ∷ v.items → last_tag item u.items ≡ tag_got side
got_tag side item place v u is = ap (last_tag item) is ∙ ap (λ (b : Bool). cond b (tag_got side) (last_tag item v.items)) (eq-eqb item item refl)

-- an item that is held stays held where the hand is the same
pub same_holds : (item : ℕ) (v u : QueueView) → u.held ≡ v.held → Holds held_by item v → Holds held_by item u
same_holds item v u is = subst (λ (xs : List ℕ). 0 < weigh (is_number item) xs) (sym is)

-- an item that was armed
pub armed_is : (item stream : ℕ) (items : List ItemEvent) → is_armed item (Armed item stream ∷ items) ≡ true
armed_is item stream items = ap (λ (b : Bool). cond b true (is_armed item items)) (eq-eqb item item refl)

-- an item that was looked at
pub looked_tag : (item tag run part : ℕ) (items : List ItemEvent) → last_tag item (PartNoted item part ∷ RunNoted item run ∷ TagNoted item tag ∷ items) ≡ Some tag
looked_tag item tag run part items = ap (λ (b : Bool). cond b (Some tag) (last_tag item items)) (eq-eqb item item refl)
