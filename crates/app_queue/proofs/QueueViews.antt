-- What events make of a view.
use Rattle.std.proofs.Common.{ℕ, ◌+◌, ◌*◌, ◌≡◌, ◌≢◌, ◌<◌, ◌≤◌, ◌==◌, ◌⊎◌, inl, inr, Bool, cond, List, ◌∷◌, Option, Some, refl, sym, ap, ◌∙◌, subst, arith}
use Rattle.std.proofs.lemmas.Bool.{eq-eqb, ne_eqb, cases_eq, eqb-true}
use Rattle.unit_model.specs.Sharing.{Holds}
use Rattle.unit_model.specs.Weights.{weigh, is_number, without_first}
use Rattle.unit_model.proofs.Weights.{weigh-without_first, weigh_le, is_number_same, is_number_other}
use Rattle.nncq_ring.specs.declared.view.RingEvent.{RingEvent}
use Rattle.nncq_ring.specs.declared.view.RingEvent.TheVariants.{SawTail, SawHead, SawEntry, Pushed, Popped}
use Rattle.app_queue.specs.declared.side.Side.{Side}
use Rattle.app_queue.specs.declared.side.Side.TheVariants.{Free, Line}
use Rattle.app_queue.specs.declared.view.ItemEvent.{ItemEvent}
use Rattle.app_queue.specs.declared.view.ItemEvent.TheVariants.{Taken, Won, Gone}
use Rattle.app_queue.specs.declared.view.QueueView.{QueueView}
use Rattle.app_queue.specs.FrameLaws.{SaysNoMore}
use Rattle.app_queue.specs.Views.{held_by, held_of, log_at, tag_said, run_said, part_said, HoldsBelow, does, items_after, settling}

-- ---- one event's word

-- what is said of an item after an event of the item j, by which it is `here`
pub told_at : (j i : ℕ) (here before : Option ℕ) (x : ℕ) → cond (j == i) here before ≡ Some x → ((i ≡ j) × (here ≡ Some x)) ⊎ ((i ≢ j) × (before ≡ Some x))
told_at j i here before x told =
    elim (cases_eq j i) [
      | inl same ↦ inl (sym same, sym (ap (λ (b : Bool). cond b here before) (eq-eqb j i same)) ∙ told)
      | inr other ↦ inr ((λ is. other (sym is)), sym (ap (λ (b : Bool). cond b here before) (ne_eqb j i other)) ∙ told)
    ]

-- of another item the same is said
pub told_else : (j i : ℕ) (here before : Option ℕ) (x : ℕ) → i ≢ j → cond (j == i) here before ≡ Some x → before ≡ Some x
told_else j i here before x ne told = sym (ap (λ (b : Bool). cond b here before) (ne_eqb j i (λ is. ne (sym is)))) ∙ told

-- of this item the event is
pub told_here : (i : ℕ) (here before : Option ℕ) (x : ℕ) → cond (i == i) here before ≡ Some x → here ≡ Some x
told_here i here before x told = sym (ap (λ (b : Bool). cond b here before) (eq-eqb i i refl)) ∙ told

-- ---- an event at a ring

-- the other ring's log is the same
pub other_log : (side other : Side) (e : RingEvent) (v : QueueView) → other ≢ side → log_at other (does side e v) ≡ log_at other v
other_log Free Free e v ne = absurd (ne refl)
other_log Free Line e v ne = refl
other_log Line Free e v ne = refl
other_log Line Line e v ne = absurd (ne refl)

-- an item that is got weighs nothing
pub items_weigh : (g : ItemEvent → ℕ) → ((side : Side) (item place : ℕ) → g (Taken side item place) ≡ 0) → (side : Side) (e : RingEvent) (items : List ItemEvent) → weigh g (items_after side e items) ≡ weigh g items
items_weigh g none side (SawTail tail) items = refl
items_weigh g none side (SawHead head) items = refl
items_weigh g none side (SawEntry place entry) items = refl
items_weigh g none side (Pushed place item) items = refl
items_weigh g none side (Popped place item) items = omega (arith, none side item place)

is_at_most_one : (number x : ℕ) → is_number number x ≤ 1
is_at_most_one number x = elim (cases_eq x number) [ inl same ↦ omega (arith, ap (is_number number) same, is_number_same number) | inr other ↦ omega (arith, is_number_other number x other) ]

pub holds_some : (item : ℕ) (v : QueueView) → Holds held_by item v → 0 < held_by (λ x. 1) v
holds_some item v mine = omega (arith, mine, weigh_le (is_number item) (λ x. 1) v.held (is_at_most_one item))

-- what is held without one item that is held
pub without_weighs : (f : ℕ → ℕ) (item : ℕ) (held : List ℕ) → 0 < weigh (is_number item) held → weigh f (without_first (λ x. x == item) held) + f item ≡ weigh f held
without_weighs f item held mine = weigh-without_first f (λ x. x == item) (f item) (λ x is. ap f (eqb-true x item is)) held mine

pub still_held : (item i : ℕ) (held : List ℕ) → 0 < weigh (is_number item) held → 0 < weigh (is_number i) (without_first (λ x. x == item) held) → 0 < weigh (is_number i) held
still_held item i held mine holds = omega (arith, holds, without_weighs (is_number i) item held mine)

-- an item that is put is said no more of
put_item : (side : Side) (place item : ℕ) (v : QueueView) (i : ℕ) → Holds held_by item v → Holds held_by i (does side (Pushed place item) v) → Holds held_by i v
put_item side place item v i mine holds = still_held item i v.held mine holds

pub put_tag : (side : Side) (place item : ℕ) (v : QueueView) → Holds held_by item v → SaysNoMore held_of tag_said v (does side (Pushed place item) v)
put_tag side place item v mine q i holds = (put_item side place item v i mine holds, λ x told. told)

pub put_run : (side : Side) (place item : ℕ) (v : QueueView) → Holds held_by item v → SaysNoMore held_of run_said v (does side (Pushed place item) v)
put_run side place item v mine q i holds = (put_item side place item v i mine holds, λ x told. told)

pub put_part : (side : Side) (place item : ℕ) (v : QueueView) → Holds held_by item v → SaysNoMore held_of part_said v (does side (Pushed place item) v)
put_part side place item v mine q i holds = (put_item side place item v i mine holds, λ x told. told)

-- another item than the one that is taken was held before
pub took_other : (item i : ℕ) (held : List ℕ) → i ≢ item → 0 < weigh (is_number i) (item ∷ held) → 0 < weigh (is_number i) held
took_other item i held ne holds = omega (arith, holds, is_number_other i item (λ is. ne (sym is)))

-- ---- how far the items held reach

pub below_same : (words : ℕ) (v u : QueueView) → u.held ≡ v.held → HoldsBelow words v → HoldsBelow words u
below_same words v u same old item holds = old item (subst (λ (xs : List ℕ). 0 < weigh (is_number item) xs) same holds)

pub below_put : (words item : ℕ) (v u : QueueView) → u.held ≡ without_first (λ x. x == item) v.held → Holds held_by item v → HoldsBelow words v → HoldsBelow words u
below_put words item v u is mine old i holds = old i (still_held item i v.held mine (subst (λ (xs : List ℕ). 0 < weigh (is_number i) xs) is holds))

pub below_took : (words item : ℕ) (v u : QueueView) → u.held ≡ item ∷ v.held → 112 + 5 * item < words → HoldsBelow words v → HoldsBelow words u
below_took words item v u is lt old i holds =
    elim (cases_eq i item) [
      | inl same ↦ omega (arith, ap (λ (m : ℕ). 112 + 5 * m) same, lt)
      | inr other ↦ old i (took_other item i v.held other (subst (λ (xs : List ℕ). 0 < weigh (is_number i) xs) is holds))
    ]

-- ---- a settle

pub won_told : (item stream found : ℕ) → found ≡ stream → settling item stream found ≡ Won item stream
won_told item stream found is = ap (λ (b : Bool). cond b (Won item stream) (Gone item stream found)) (eq-eqb found stream is)

pub gone_told : (item stream found : ℕ) → found ≢ stream → settling item stream found ≡ Gone item stream found
gone_told item stream found ne = ap (λ (b : Bool). cond b (Won item stream) (Gone item stream found)) (ne_eqb found stream ne)
