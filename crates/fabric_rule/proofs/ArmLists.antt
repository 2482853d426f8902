-- The latest arm of an item, where one more was made.
use Rattle.std.proofs.Common.{ℕ, zero, suc, ◌≡◌, ◌≢◌, ◌<◌, ◌⊎◌, ◌==◌, ◌&&◌, inl, inr, ⊎_elim, Bool, false, cond, if◌then◌else◌, nat_lt, List, [], ◌∷◌, ◌++◌, set, refl, sym, ap, ◌∙◌, subst, arith, Some, None}
use Rattle.std.specs.Prelude.{Option}
use Rattle.std.proofs.lemmas.Bool.{and_from, and_left, and_parts, and_right, cases_Bool, cases_eq, eq-eqb, eqb-true, le-ltb, lt-ltb, ne_eqb}
use Rattle.std.proofs.lemmas.List.{append_assoc}
use mathlib.Core.Option.{some, some-injective, some-ne-none}
use lib.ListN.{get_elem?}
use Rattle.app_queue.specs.Arms.{Arm, WasArmed}
use Rattle.unit_model.specs.Core.{item_of}
use Rattle.unit_model.specs.PartOrder.{Each}
use Rattle.unit_model.specs.declared.shape.Shape.{Shape}
use Rattle.fabric_words.specs.Places.{HasItem}
use Rattle.fabric_rule.specs.FrameLaws.{IsBefore, StreamsArmLaw}
use Rattle.fabric_rule.specs.Views.{all_arms, arm_from, arms_among, arms_at, later_arm, latest_arm, stream_of_arm}
use Rattle.fabric_rule.specs.declared.view.ArmNote.{ArmNote}
use Rattle.fabric_rule.specs.declared.view.FabricView.{FabricView}

-- ---- lists

pub each_append : {X : Type 0} (P : X → Type 0) (xs ys : List X) → Each P xs → Each P ys → Each P (xs ++ ys)
each_append P [] ys one two = two
each_append P (x ∷ xs) ys one two = (one.0, each_append P xs ys one.1 two)

each_left : {X : Type 0} (P : X → Type 0) (xs ys : List X) → Each P (xs ++ ys) → Each P xs
each_left P [] ys both = tt
each_left P (x ∷ xs) ys both = (both.0, each_left P xs ys both.1)

each_right : {X : Type 0} (P : X → Type 0) (xs ys : List X) → Each P (xs ++ ys) → Each P ys
each_right P [] ys both = both
each_right P (x ∷ xs) ys both = each_right P xs ys both.1

-- what stands before the arms of one view, and behind them
record Around (views : List FabricView) (id : ℕ) (v : FabricView) : Type 0 where
  before : List ArmNote
  behind : List ArmNote
  is : all_arms views ≡ before ++ (v.arms ++ behind)
  set_is : (u : FabricView) → all_arms (set views id u) ≡ before ++ (u.arms ++ behind)

around : (views : List FabricView) (id : ℕ) (v : FabricView) → get_elem? views id ≡ some v → Around views id v
around [] id v at = absurd (some-ne-none v (sym at))
around (x ∷ xs) zero v at = record { before = []; behind = all_arms xs; is = ap (λ (y : FabricView). y.arms ++ all_arms xs) (some-injective x v at); set_is = λ u. refl }
around (x ∷ xs) (suc id) v at =
    let rest = around xs id v at in
    record {
      before = x.arms ++ rest.before;
      behind = rest.behind;
      is = ap (λ (l : List ArmNote). x.arms ++ l) rest.is ∙ sym (append_assoc x.arms rest.before (v.arms ++ rest.behind));
      set_is = λ u. ap (λ (l : List ArmNote). x.arms ++ l) (rest.set_is u) ∙ sym (append_assoc x.arms rest.before (u.arms ++ rest.behind));
    }

-- ---- the later one

later_before : (place : ℕ) (x : ArmNote) (o : Option ArmNote) → x.place < place → ((b : ArmNote) → o ≡ Some b → b.place < place) → (b : ArmNote) → later_arm x o ≡ Some b → b.place < place
later_before place x None lt old b is = let same : x ≡ b = cc is in subst (λ (y : ArmNote). y.place < place) same lt
later_before place x (Some y) lt old b is =
    elim (cases_Bool (nat_lt x.place y.place)) [
      | inl less ↦ old b (subst (λ (t : Bool). (if t then Some y else Some x) ≡ Some b) less is)
      | inr more ↦
          let this : Some x ≡ Some b = subst (λ (t : Bool). (if t then Some y else Some x) ≡ Some b) more is in
          let same : x ≡ b = cc this in
          subst (λ (z : ArmNote). z.place < place) same lt
    ]

later_top : (a : ArmNote) (o : Option ArmNote) → ((b : ArmNote) → o ≡ Some b → b.place < a.place) → later_arm a o ≡ Some a
later_top a None before = refl
later_top a (Some b) before = ap (λ (t : Bool). if t then Some b else Some a) (le-ltb a.place b.place (omega (arith, before b refl)))

-- ---- the latest one

-- an arm of another item is of no concern
skips : (queue item : ℕ) (a : ArmNote) → (a.queue == queue && a.item == item) ≡ false → (before rest : List ArmNote) → latest_arm queue item (before ++ a ∷ rest) ≡ latest_arm queue item (before ++ rest)
skips queue item a off [] rest = ap (λ (t : Bool). if t then later_arm a (latest_arm queue item rest) else latest_arm queue item rest) off
skips queue item a off (b ∷ before) rest = ap (λ (o : Option ArmNote). if b.queue == queue && b.item == item then later_arm b o else o) (skips queue item a off before rest)

latest_before : (queue item place : ℕ) (arms : List ArmNote) → Each (IsBefore queue item place) arms → (b : ArmNote) → latest_arm queue item arms ≡ Some b → b.place < place
latest_before queue item place [] before b is = absurd (cc is)
latest_before queue item place (x ∷ xs) before b is =
    elim (cases_Bool (x.queue == queue && x.item == item)) [
      | inl here ↦ later_before place x (latest_arm queue item xs) (before.0 here) (latest_before queue item place xs before.1) b
          (subst (λ (t : Bool). (if t then later_arm x (latest_arm queue item xs) else latest_arm queue item xs) ≡ Some b) here is)
      | inr off ↦ latest_before queue item place xs before.1 b
          (subst (λ (t : Bool). (if t then later_arm x (latest_arm queue item xs) else latest_arm queue item xs) ≡ Some b) off is)
    ]

-- and one that has the greatest place is the latest
tops : (a : ArmNote) (before rest : List ArmNote) → Each (IsBefore a.queue a.item a.place) before → Each (IsBefore a.queue a.item a.place) rest → latest_arm a.queue a.item (before ++ a ∷ rest) ≡ Some a
tops a [] rest none lower =
    ap (λ (t : Bool). if t then later_arm a (latest_arm a.queue a.item rest) else latest_arm a.queue a.item rest) (and_from (a.queue == a.queue) (a.item == a.item) (eq-eqb a.queue a.queue refl) (eq-eqb a.item a.item refl))
    ∙ later_top a (latest_arm a.queue a.item rest) (latest_before a.queue a.item a.place rest lower)
tops a (b ∷ before) rest low lower =
    ap (λ (o : Option ArmNote). if b.queue == a.queue && b.item == a.item then later_arm b o else o) (tops a before rest low.1 lower)
    ∙ (elim (cases_Bool (b.queue == a.queue && b.item == a.item)) [
      | inl here ↦ ap (λ (t : Bool). if t then later_arm b (Some a) else Some a) here ∙ ap (λ (t : Bool). if t then Some a else Some b) (lt-ltb b.place a.place (low.0 here))
      | inr off ↦ ap (λ (t : Bool). if t then later_arm b (Some a) else Some a) off
    ])

all_before : (P : ArmNote → Type 0) (views : List FabricView) → ((k : ℕ) (y : FabricView) → get_elem? views k ≡ some y → Each P y.arms) → Each P (all_arms views)
all_before P [] each = tt
all_before P (x ∷ xs) each = each_append P x.arms (all_arms xs) (each 0 x refl) (all_before P xs (λ k y there. each (suc k) y there))

is_this_or_not : (a : ArmNote) (queue item : ℕ) → ((queue ≡ a.queue) × (item ≡ a.item)) ⊎ ((queue ≢ a.queue) ⊎ (item ≢ a.item))
is_this_or_not a queue item =
    elim (cases_eq queue a.queue) [
      | inl same ↦ elim (cases_eq item a.item) [
        | inl is ↦ inl (same, is)
        | inr ne ↦ inr (inr ne)
      ]
      | inr ne ↦ inr (inl ne)
    ]

off_item : (a : ArmNote) (queue item : ℕ) → (queue ≢ a.queue) ⊎ (item ≢ a.item) → (a.queue == queue && a.item == item) ≡ false
off_item a queue item (inl ne) = and_left (a.queue == queue) (a.item == item) (ne_eqb a.queue queue (λ is. ne (sym is)))
off_item a queue item (inr ne) = and_right (a.queue == queue) (a.item == item) (ne_eqb a.item item (λ is. ne (sym is)))

pub streams_arm : StreamsArmLaw
streams_arm core core' views id v u a at shape more before here others old queue item there =
    let arms = around views id v at in
    let now : all_arms (set views id u) ≡ arms.before ++ (a ∷ (v.arms ++ arms.behind)) = arms.set_is u ∙ ap (λ (l : List ArmNote). arms.before ++ (l ++ arms.behind)) more in
    let lower : Each (IsBefore a.queue a.item a.place) (arms.before ++ (v.arms ++ arms.behind)) = subst (Each (IsBefore a.queue a.item a.place)) arms.is (all_before (IsBefore a.queue a.item a.place) views before) in
    ⊎_elim
    (λ this.
    let top : stream_of_arm (latest_arm a.queue a.item (all_arms (set views id u))) ≡ a.stream =
    ap (λ (l : List ArmNote). stream_of_arm (latest_arm a.queue a.item l)) now
    ∙ ap stream_of_arm (tops a arms.before (v.arms ++ arms.behind) (each_left (IsBefore a.queue a.item a.place) arms.before (v.arms ++ arms.behind) lower) (each_right (IsBefore a.queue a.item a.place) arms.before (v.arms ++ arms.behind) lower)) in
    subst (λ (q : ℕ). (item_of core' q item).stream ≡ stream_of_arm (latest_arm q item (all_arms (set views id u)))) (sym this.0)
    (subst (λ (i : ℕ). (item_of core' a.queue i).stream ≡ stream_of_arm (latest_arm a.queue i (all_arms (set views id u)))) (sym this.1) (here ∙ sym top)))
    (λ other.
    others queue item other ∙ old queue item (subst (λ (s : Shape). HasItem s queue item) shape there)
    ∙ ap (λ (l : List ArmNote). stream_of_arm (latest_arm queue item l)) arms.is
    ∙ sym (ap stream_of_arm (skips queue item a (off_item a queue item other) arms.before (v.arms ++ arms.behind)))
    ∙ sym (ap (λ (l : List ArmNote). stream_of_arm (latest_arm queue item l)) now))
    (is_this_or_not a queue item)

-- ---- the arms of one queue

notes_before : (queue item place : ℕ) (arms : List ArmNote) → ((j : ℕ) (b : Arm) → get_elem? (arms_among queue arms) j ≡ some b → b.item ≡ item → b.place < place) → Each (IsBefore queue item place) arms
notes_before queue item place [] above = tt
notes_before queue item place (x ∷ xs) above =
    elim (cases_Bool (x.queue == queue)) [
      | inl here ↦
          let own : (j : ℕ) (b : Arm) → get_elem? (arm_from x ∷ arms_among queue xs) j ≡ some b → b.item ≡ item → b.place < place = λ j b there.
          above j b (subst (λ (t : Bool). get_elem? (cond t (arm_from x ∷ arms_among queue xs) (arms_among queue xs)) j ≡ some b) (sym here) there) in
          ((λ is. own 0 (arm_from x) refl (eqb-true x.item item (and_parts (x.queue == queue) (x.item == item) is).1)), notes_before queue item place xs (λ j b there. own (suc j) b there))
      | inr off ↦ (
        (λ is. absurd (cc (off, (and_parts (x.queue == queue) (x.item == item) is).0))),
        notes_before queue item place xs (λ j b there.
            above j b (subst (λ (t : Bool). get_elem? (cond t (arm_from x ∷ arms_among queue xs) (arms_among queue xs)) j ≡ some b) (sym off) there)),
      )
    ]

-- where all arms of the item are below the place
pub arms_before : (views : List FabricView) (queue item place : ℕ) → ((b : Arm) → WasArmed (arms_at queue) views b → b.item ≡ item → b.place < place) → (k : ℕ) (y : FabricView) → get_elem? views k ≡ some y → Each (IsBefore queue item place) y.arms
arms_before views queue item place above k y at = notes_before queue item place y.arms (λ j b there. above b (k, y, at, j, there))
