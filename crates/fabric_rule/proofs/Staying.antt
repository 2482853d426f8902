-- What views show, where no stream is posted and none is an item's last one that wasn't.
use Rattle.std.proofs.Common.{ℕ, ◌+◌, ◌≡◌, ◌≤◌, ◌<◌, inl, inr, ⊎_elim, List, set, refl, sym, ◌∙◌, subst, ap, arith}
use Rattle.std.proofs.lemmas.Bool.{cases_eq}
use mathlib.Core.Option.{some}
use lib.ListN.{get_elem?}
use Rattle.app_queue.specs.declared.side.Side.TheVariants.{Free}
use Rattle.unit_model.specs.Core.{item_of}
use Rattle.unit_model.specs.PartOrder.{Each}
use Rattle.unit_model.specs.declared.machine.Core.{Core}
use Rattle.unit_model.specs.declared.machine.Item.{Item}
use Rattle.unit_model.specs.declared.machine.Whereabouts.{Whereabouts}
use Rattle.unit_model.specs.declared.shape.Shape.{Shape}
use Rattle.unit_model.proofs.ItemChanges.{SetsItem, each_item, item_beside, item_elsewhere}
use Rattle.fabric_words.specs.Places.{queues_of}
use Rattle.fabric_words.specs.declared.place.Place.{Place}
use Rattle.fabric_rule.specs.FrameLaws.{SameLists, SamePosts, StaysUntagged}
use Rattle.fabric_rule.specs.Parts.{ChunksHeld, ItemsHeld, IsIdle, KeptAreWorn, ListsShown, OfEach, OpensNoted, PostsInWork, RecordsKnown, WorksShown}
use Rattle.fabric_rule.specs.Passing.{OthersStay}
use Rattle.fabric_rule.specs.Rule.{ViewsShow}
use Rattle.fabric_rule.specs.Views.{lists_at, opens_at, ring_in, works_at}
use Rattle.fabric_rule.specs.declared.view.FabricView.{FabricView}
use Rattle.fabric_rule.proofs.Contents.{kept_stay, kept_untagged}
use Rattle.fabric_rule.proofs.Frames.{of_each, of_fabric}
use Rattle.fabric_rule.proofs.ListFrames.{counted_stay, lists_there, posts_stay, records_stay, same_posted, streams_stay, records_there}
use Rattle.unit_model.specs.Weights.{weigh, is_number}
use Rattle.fabric_rule.specs.declared.view.Posting.{Posting}

-- of an item all stays but where it is
pub record SaysTheSame (old new : Item) : Type 0 where
  pub tag : new.tag ≡ old.tag
  pub run : new.run ≡ old.run
  pub part : new.part ≡ old.part
  pub last : new.stream ≡ old.stream

-- where one item has changed, the other ones are as they were
pub unchanged : (core core' : Core) (queue item : ℕ) (now : Item) → SetsItem core core' queue item now → OthersStay core core' queue item
unchanged core core' queue item now sets q i apart =
    elim (cases_eq q queue) [
      | inl is ↦ ⊎_elim (λ ne. absurd (ne is)) (λ ne. subst (λ (r : ℕ). item_of core' r i ≡ item_of core r i) (sym is) (item_beside core core' queue item now sets i ne)) apart
      | inr ne ↦ item_elsewhere core core' queue item now sets q i ne
    ]

-- all say the same where one alone has moved
pub moved_alone : (core core' : Core) (queue item : ℕ) (to : Whereabouts) → SetsItem core core' queue item (record (item_of core queue item) { whereabouts = to }) → (q i : ℕ) → SaysTheSame (item_of core q i) (item_of core' q i)
moved_alone core core' queue item to sets q i =
    let now : Item = record (item_of core queue item) { whereabouts = to } in
    each_item (SaysTheSame (item_of core q i)) core core' queue item now sets q i
    (λ this_queue this. subst (λ (r : ℕ). SaysTheSame (item_of core r i) now) (sym this_queue) (subst (λ (j : ℕ). SaysTheSame (item_of core queue j) now) (sym this) (record { tag = refl; run = refl; part = refl; last = refl })))
    (λ other. record { tag = refl; run = refl; part = refl; last = refl })

-- of an item the last stream stays, and that it has no tag
pub record KeepsStream (old new : Item) : Type 0 where
  pub last : new.stream ≡ old.stream
  pub untagged : old.tag ≡ 0 → new.tag ≡ 0

-- the same streams are posted, and each item's last one stays
pub record LeavesStreams (core core' : Core) : Type 0 where
  pub shape : core'.shape ≡ core.shape
  pub posts : SamePosts core core'
  pub items : (queue item : ℕ) → KeepsStream (item_of core queue item) (item_of core' queue item)

-- where lists stay, and items' tags
pub streams_left : (core core' : Core) → SameLists core core' → ((queue item : ℕ) → SaysTheSame (item_of core queue item) (item_of core' queue item)) → LeavesStreams core core'
streams_left core core' same items = record {
  shape = same.shape;
  posts = same_posted core core' same;
  items = λ q i. record { last = (items q i).last; untagged = λ none. (items q i).tag ∙ none };
}

-- the seat is the same, with the same arms and records, and what it keeps
pub record HasTheSame (v u : FabricView) : Type 0 where
  pub shape : u.shape ≡ v.shape
  pub number : u.seat ≡ v.seat
  pub arms : u.arms ≡ v.arms
  pub records : u.records ≡ v.records
  pub kept : u.kept ≡ v.kept

-- of what is in hand, of lists and works it is to be shown
pub record ShowsTheRest (shape : Shape) (popped armed : ℕ → List ℕ) (core : Core) (v u : FabricView) (views : List FabricView) : Type 0 where
  pub items : ItemsHeld core views
  pub chunks : ChunksHeld core views
  pub opens : OfEach (OpensNoted core) views
  pub lists : ListsShown core popped views
  pub numbers : (number : ℕ) → lists_at number u ≡ lists_at number v
  pub works : WorksShown core armed views
  pub counted : (number : ℕ) → opens_at number u + works_at number v ≡ opens_at number v + works_at number u
  pub idle : IsIdle shape u
  pub in_work : PostsInWork core views

-- no tail of a free ring falls
abbrev pub TailsRise : Shape → (Place → ℕ) → (Place → ℕ) → Type 0
TailsRise shape word word' =
    (q : ℕ) → q < queues_of shape → (ring_in word q Free).tail ≤ (ring_in word' q Free).tail

module _ (shape : Shape) (word word' : Place → ℕ) (popped armed popped' armed' records : ℕ → List ℕ) (core core' : Core) (leaves : LeavesStreams core core') (views : List FabricView) (id : ℕ) (v u : FabricView) (at : get_elem? views id ≡ some v) (same : HasTheSame v u) where
  pub views_stay : TailsRise core.shape word word' → ShowsTheRest shape popped' armed' core' v u (set views id u)
      → ViewsShow shape word popped armed records core views → ViewsShow shape word' popped' armed' records core' (set views id u)
  views_stay tails rest old =
      let untagged : (y : FabricView) → Each (StaysUntagged core core') y.kept = kept_untagged core core' (λ q i. (leaves.items q i).untagged) in
      record {
        there = of_fabric core core' views id v u at leaves.shape same.shape same.number old.there;
        items = rest.items;
        chunks = rest.chunks;
        opens = rest.opens;
        posts = posts_stay core core' views id v u at leaves.posts same.arms old.posts;
        streams = streams_stay core core' views id v u at leaves.shape (λ q i. (leaves.items q i).last) same.arms old.streams;
        records_known = of_each (RecordsKnown core records) (RecordsKnown core' records) views id u (records_stay core core' records v u leaves.posts same.records (old.records_known id v at))
            (λ y. records_stay core core' records y y leaves.posts refl) old.records_known;
        records_there = records_there core core' views id v u at (λ k. omega (arith, leaves.posts k)) (λ k. omega (arith, ap (weigh (λ (p : Posting). is_number k p.stream)) same.records)) old.records_there;
        lists = rest.lists;
        lists_there = lists_there core core' views id v u at leaves.shape rest.numbers old.lists_there;
        works = rest.works;
        counted = counted_stay views id v u at rest.counted old.counted;
        idle = of_each (IsIdle shape) (IsIdle shape) views id u rest.idle (λ y is. is) old.idle;
        in_work = rest.in_work;
        kept = of_each (KeptAreWorn core (ring_in word)) (KeptAreWorn core' (ring_in word')) views id u
            (kept_stay core core' (ring_in word) (ring_in word') v u leaves.shape tails (untagged v) same.kept (old.kept id v at))
            (λ y. kept_stay core core' (ring_in word) (ring_in word') y y leaves.shape tails (untagged y) refl) old.kept;
      }
