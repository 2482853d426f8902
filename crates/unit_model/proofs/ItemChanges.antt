-- The items of the queues after one of them has changed.
use Rattle.std.proofs.Common.{◌≡◌, ◌≢◌, ℕ, suc, ◌+◌, ◌<◌, ◌≤◌, List, [], ◌∷◌, length, get_or, set, drop, refl, sym, ap, ◌∙◌, arith, inl, inr, ◌⊎◌, subst}
use Rattle.std.proofs.lemmas.List.{get_or_past, get_or-set_same, get_or-set_other}
use Rattle.std.proofs.lemmas.Bool.{cases_eq, cases_lt}
use Rattle.unit_model.specs.Core.{blank, no_queue, queue_of, item_of}
use Rattle.unit_model.specs.Lists.{change_at}
use Rattle.unit_model.specs.PartCounts.{over_back_items}
use Rattle.unit_model.specs.Weights.{weigh}
use Rattle.unit_model.specs.declared.machine.Core.{Core}
use Rattle.unit_model.specs.declared.machine.Item.{Item}
use Rattle.unit_model.specs.declared.machine.Queue.{Queue}
use Rattle.unit_model.proofs.Changes.{changed_at, unchanged_at, weigh_changed}
use Rattle.unit_model.proofs.Weights.{weigh-set, weigh_at, weigh_some}

-- the item of the queue is this one now, and no other item has changed
pub record SetsItem (core new : Core) (queue item : ℕ) (now : Item) : Type 0 where
  pub inside : item < length (queue_of core queue).items
  pub change : Queue → Queue
  pub queues : new.queues ≡ change_at queue change core.queues
  pub items : (q : Queue) → (change q).items ≡ set q.items item now

-- a queue that has an item is there
pub queue_there : (core : Core) (queue item : ℕ) → item < length (queue_of core queue).items → queue < length core.queues
queue_there core queue item inside =
    elim (cases_lt queue (length core.queues)) [
      | inl there ↦ there
      | inr past ↦ absurd (omega (arith, inside, ap (λ (q : Queue). length q.items) (get_or_past core.queues queue no_queue past)))
    ]

-- ---- the items one by one

pub items_here : (core new : Core) (queue item : ℕ) (now : Item) → SetsItem core new queue item now → (queue_of new queue).items ≡ set (queue_of core queue).items item now
items_here core new queue item now s =
    ap (λ (qs : List Queue). (get_or qs queue no_queue).items) s.queues
    ∙ ap (λ (q : Queue). q.items) (changed_at queue s.change core.queues no_queue (queue_there core queue item s.inside))
    ∙ s.items (queue_of core queue)

pub items_elsewhere : (core new : Core) (queue item : ℕ) (now : Item) → SetsItem core new queue item now → (other : ℕ) → other ≢ queue → (queue_of new other).items ≡ (queue_of core other).items
items_elsewhere core new queue item now s other away =
    ap (λ (qs : List Queue). (get_or qs other no_queue).items) s.queues
    ∙ ap (λ (q : Queue). q.items) (unchanged_at queue s.change core.queues other no_queue away)

pub item_here : (core new : Core) (queue item : ℕ) (now : Item) → SetsItem core new queue item now → item_of new queue item ≡ now
item_here core new queue item now s =
    ap (λ (is : List Item). get_or is item blank) (items_here core new queue item now s)
    ∙ get_or-set_same (queue_of core queue).items item now blank s.inside

pub item_beside : (core new : Core) (queue item : ℕ) (now : Item) → SetsItem core new queue item now → (other : ℕ) → other ≢ item → item_of new queue other ≡ item_of core queue other
item_beside core new queue item now s other away =
    ap (λ (is : List Item). get_or is other blank) (items_here core new queue item now s)
    ∙ get_or-set_other (queue_of core queue).items item other now blank away

pub item_elsewhere : (core new : Core) (queue item : ℕ) (now : Item) → SetsItem core new queue item now → (other i : ℕ) → other ≢ queue → item_of new other i ≡ item_of core other i
item_elsewhere core new queue item now s other i away = ap (λ (is : List Item). get_or is i blank) (items_elsewhere core new queue item now s other away)

-- what holds of the changed item and of each other one holds of all
pub each_item : (P : Item → Type 0) (core new : Core) (queue item : ℕ) (now : Item) → SetsItem core new queue item now → (q i : ℕ) → ((q ≡ queue) → (i ≡ item) → P now) → ((q ≢ queue) ⊎ (i ≢ item) → P (item_of core q i)) → P (item_of new q i)
each_item P core new queue item now s q i changed kept =
    elim (cases_eq q queue) [
      | inr away ↦ subst P (sym (item_elsewhere core new queue item now s q i away)) (kept (inl away))
      | inl this ↦ elim (cases_eq i item) [
        | inl same ↦ subst P (sym (item_here core new queue item now s) ∙ ap (λ n. item_of new n item) (sym this) ∙ ap (item_of new q) (sym same)) (changed this same)
        | inr beside ↦ subst P (sym (ap (λ n. item_of new n i) this ∙ item_beside core new queue item now s i beside ∙ ap (λ n. item_of core n i) (sym this))) (kept (inr beside))
      ]
    ]

-- ---- sums over the items

pub weigh_items : (f : Item → ℕ) (core new : Core) (queue item : ℕ) (now : Item) → SetsItem core new queue item now → weigh f (queue_of new queue).items + f (item_of core queue item) ≡ weigh f (queue_of core queue).items + f now
weigh_items f core new queue item now s =
    omega (arith, ap (weigh f) (items_here core new queue item now s), weigh-set f (queue_of core queue).items item now blank s.inside)

drop_first : {X : Type 0} (change : X → X) (xs : List X) → drop 1 (change_at 0 change xs) ≡ drop 1 xs
drop_first change [] = refl
drop_first change (x ∷ xs) = refl

drop_later : {X : Type 0} (n : ℕ) (change : X → X) (xs : List X) → drop 1 (change_at (suc n) change xs) ≡ change_at n change (drop 1 xs)
drop_later n change [] = refl
drop_later n change (x ∷ xs) = refl

get_later : {X : Type 0} (n : ℕ) (xs : List X) (d : X) → get_or (drop 1 xs) n d ≡ get_or xs (suc n) d
get_later n [] d = refl
get_later n (x ∷ xs) d = refl

length_later : {X : Type 0} (n : ℕ) (xs : List X) → suc n < length xs → n < length (drop 1 xs)
length_later n [] lt = absurd (omega arith)
length_later n (x ∷ xs) lt = omega arith

-- an item of the line's queue is none of them
pub backs_stay : (f : Item → ℕ) (core new : Core) (item : ℕ) (now : Item) → SetsItem core new 0 item now → over_back_items f new ≡ over_back_items f core
backs_stay f core new item now s =
    let weight : Queue → ℕ = λ q. weigh f q.items in
    ap (λ (qs : List Queue). weigh weight (drop 1 qs)) s.queues ∙ ap (weigh weight) (drop_first s.change core.queues)

behind_change : (f : Item → ℕ) (core new : Core) (engine item : ℕ) (now : Item) → SetsItem core new (suc engine) item now → over_back_items f new + f (item_of core (suc engine) item) ≡ over_back_items f core + f now
behind_change f core new engine item now s =
    let weight : Queue → ℕ = λ q. weigh f q.items in
    let backs = drop 1 core.queues in
    let at = ap (λ (qs : List Queue). weigh weight (drop 1 qs)) s.queues ∙ ap (weigh weight) (drop_later engine s.change core.queues) in
    let there : engine < length backs = length_later engine core.queues (queue_there core (suc engine) item s.inside) in
    let old : Queue = get_or backs engine no_queue in
    let is : old ≡ queue_of core (suc engine) = get_later engine core.queues no_queue in
    let inside : item < length old.items = rw is s.inside in
    omega (arith, at, weigh_changed weight engine s.change backs no_queue there, ap (weigh f) (s.items old), weigh-set f old.items item now blank inside, ap (λ (q : Queue). f (get_or q.items item blank)) is)

pub backs_change : (f : Item → ℕ) (core new : Core) (engine item : ℕ) (now : Item) → SetsItem core new (1 + engine) item now → over_back_items f new + f (item_of core (1 + engine) item) ≡ over_back_items f core + f now
backs_change f core new engine item now s =
    let one : 1 + engine ≡ suc engine = omega arith in
    rw one (behind_change f core new engine item now (rw one at s))

behind_in_all : (f : Item → ℕ) (core : Core) (engine item : ℕ) → f blank ≡ 0 → f (item_of core (suc engine) item) ≤ over_back_items f core
behind_in_all f core engine item none =
    let weight : Queue → ℕ = λ q. weigh f q.items in
    let backs = drop 1 core.queues in
    let is : get_or backs engine no_queue ≡ queue_of core (suc engine) = get_later engine core.queues no_queue in
    elim (cases_lt item (length (queue_of core (suc engine)).items)) [
      | inl inside ↦
          let there = length_later engine core.queues (queue_there core (suc engine) item inside) in
          omega (arith, weigh_at weight backs engine no_queue there, ap weight is, weigh_at f (queue_of core (suc engine)).items item blank inside)
      | inr past ↦ omega (arith, ap f (get_or_past (queue_of core (suc engine)).items item blank past), none)
    ]

-- one item of a back queue is a part of them all
pub back_item_in_all : (f : Item → ℕ) (core : Core) (engine item : ℕ) → f blank ≡ 0 → f (item_of core (1 + engine) item) ≤ over_back_items f core
back_item_in_all f core engine item none =
    let one : 1 + engine ≡ suc engine = omega arith in
    rw one (behind_in_all f core engine item none)

behind_queue_in_all : (f : Item → ℕ) (core : Core) (engine : ℕ) → weigh f (queue_of core (suc engine)).items ≤ over_back_items f core
behind_queue_in_all f core engine =
    let weight : Queue → ℕ = λ q. weigh f q.items in
    let backs = drop 1 core.queues in
    let is : get_or backs engine no_queue ≡ queue_of core (suc engine) = get_later engine core.queues no_queue in
    elim (cases_lt (suc engine) (length core.queues)) [
      | inl there ↦ omega (arith, weigh_at weight backs engine no_queue (length_later engine core.queues there), ap weight is)
      | inr past ↦ omega (arith, ap weight (get_or_past core.queues (suc engine) no_queue past))
    ]

-- the items of one back queue are a part of them all
pub back_queue_in_all : (f : Item → ℕ) (core : Core) (engine : ℕ) → weigh f (queue_of core (1 + engine)).items ≤ over_back_items f core
back_queue_in_all f core engine =
    let one : 1 + engine ≡ suc engine = omega arith in
    rw one (behind_queue_in_all f core engine)

-- what weighs in the back queues is an item of one of them
pub back_item_of_weight : (f : Item → ℕ) (core : Core) → 1 ≤ over_back_items f core → (engine : ℕ) × (item : ℕ) × (1 ≤ f (item_of core (1 + engine) item))
back_item_of_weight f core some =
    let weight : Queue → ℕ = λ q. weigh f q.items in
    let queue = weigh_some weight (drop 1 core.queues) no_queue (omega (arith, some)) in
    let engine : ℕ = queue.0 in
    let one : 1 + engine ≡ suc engine = omega arith in
    let is : get_or (drop 1 core.queues) engine no_queue ≡ queue_of core (1 + engine) = rw one (get_later engine core.queues no_queue) in
    let item = weigh_some f (queue_of core (1 + engine)).items blank (rw is at queue.2) in
    (engine, item.0, omega (arith, item.2))
