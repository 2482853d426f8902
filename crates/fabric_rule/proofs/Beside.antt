-- What a step leaves that changes no seat's lists, moves no item, and changes no word of a ring.
use Rattle.std.proofs.Common.{ℕ, ◌≡◌, ◌≢◌, ◌<◌, true, false, List, [], ◌∷◌, set, refl, ◌∙◌, subst, arith}
use mathlib.Core.Option.{some}
use lib.ListN.{get_elem?}
use Rattle.app_queue.specs.Queues.{RingsStay}
use Rattle.app_queue.specs.declared.side.Side.{Side}
use Rattle.app_queue.specs.declared.side.Side.TheVariants.{Free}
use Rattle.app_queue.proofs.RingFrames.{rings_stay}
use Rattle.unit_model.specs.Core.{item_of}
use Rattle.unit_model.specs.declared.machine.Core.{Core}
use Rattle.unit_model.specs.declared.machine.Item.{Item}
use Rattle.unit_model.specs.declared.shape.Shape.{Shape}
use Rattle.fabric_words.specs.Places.{Sets, is_of_ring, queues_of}
use Rattle.fabric_words.specs.declared.place.Place.{Place}
use Rattle.fabric_words.specs.declared.place.Place.TheVariants.{Head, PartWord, RunWord, Tag}
use Rattle.fabric_words.specs.declared.place.Side.{Side as WordSide}
use Rattle.fabric_words.specs.declared.place.Side.TheVariants.{FreeSide}
use Rattle.fabric_words.proofs.Frames.{apart, ring_stays}
use Rattle.fabric_words.proofs.OtherSteps.{is_of_queues}
use Rattle.fabric_rule.specs.FrameLaws.{SameLists}
use Rattle.fabric_rule.specs.Parts.{ChunksHeld, OfEach, OpensNoted}
use Rattle.fabric_rule.specs.Rule.{NotesAreTrue, ViewsShow}
use Rattle.fabric_rule.specs.Views.{item_log, log_at, queues_in, ring_in, word_side}
use Rattle.fabric_rule.specs.declared.event.FabricEvent.{FabricEvent}
use Rattle.fabric_rule.specs.declared.view.FabricView.{FabricView}
use Rattle.fabric_rule.specs.declared.view.Ledger.{Ledger}
use Rattle.fabric_rule.specs.declared.view.Work.{Work}
use Rattle.fabric_rule.proofs.Frames.{items_stay}
use Rattle.fabric_rule.proofs.ItemNotes.{ItemsStill, items_noted, still_beside}
use Rattle.fabric_rule.proofs.ListFrames.{in_work_stay, lists_stay, same_posted, works_stay}
use Rattle.fabric_rule.proofs.Staying.{LeavesStreams, TailsRise, views_stay}

-- the item is where it was, with its tag and its last stream
pub record IsWhereItWas (old new : Item) : Type 0 where
  pub tag : new.tag ≡ old.tag
  pub place : new.whereabouts ≡ old.whereabouts
  pub last : new.stream ≡ old.stream

pub tails_same : (core : Core) (shape : Shape) (word word' : Place → ℕ) → core.shape ≡ shape → RingsStay (queues_in shape) (ring_in word) (ring_in word') → TailsRise core.shape word word'
tails_same core shape word word' shaped rings q lt =
    let stays = rings q (subst (λ (sh : Shape). q < queues_of sh) shaped lt) Free in omega (arith, stays.tail)

-- The seat has other chunks, and an event more.
module _ (shape : Shape) (word word' : Place → ℕ) (popped armed records : ℕ → List ℕ) (core core' : Core) (views : List FabricView) (id : ℕ) (v : FabricView) (at : get_elem? views id ≡ some v) (chunks : List ℕ) (e : FabricEvent) where
  abbrev u : FabricView
  u = record v { chunks = chunks; log = e ∷ v.log }

  pub views_beside : SameLists core core' → ((q i : ℕ) → IsWhereItWas (item_of core q i) (item_of core' q i)) → TailsRise core.shape word word'
      → ChunksHeld core' (set views id u) → OfEach (OpensNoted core') (set views id u) → (v.works ≡ [] → chunks ≡ [])
      → ViewsShow shape word popped armed records core views → ViewsShow shape word' popped armed records core' (set views id u)
  views_beside same items tails chunks' opens' idle old =
      let leaves : LeavesStreams core core' = record { shape = same.shape; posts = same_posted core core' same; items = λ q i. record { last = (items q i).last; untagged = λ none. (items q i).tag ∙ none } } in
      views_stay shape word word' popped armed popped armed records core core' leaves views id v u at (record { shape = refl; number = refl; arms = refl; records = refl; kept = refl }) tails
      (record {
        items = items_stay core core' views id v u at same.shape (λ q i lt. (items q i).place) (λ q f. refl) old.items;
        chunks = chunks';
        opens = opens';
        lists = lists_stay core core' popped views id v u at same refl old.lists;
        numbers = λ k. refl;
        works = works_stay core core' armed views id v u at same refl refl refl old.works;
        counted = λ k. refl;
        idle = λ none. record { chunks = idle none; items = (old.idle id v at none).items };
        in_work = in_work_stay core core' views id v u at same refl old.in_work;
      })
      old

-- ---- notes

-- A word of no queue is set, and the seat notes something else than what it saw or did at a queue.
module _ (shape : Shape) (word word' : Place → ℕ) (place : Place) (x : ℕ) (sets : Sets shape word word' place x) (off : is_of_queues place ≡ false) (off_rings : (q : ℕ) (side : WordSide) → is_of_ring q side place ≡ false) where
  -- such a word is none of this one
  away : (other : Place) → is_of_queues other ≡ true → other ≢ place
  away other passes = apart is_of_queues other place passes off

  pub rings_beside : RingsStay (queues_in shape) (ring_in word) (ring_in word')
  rings_beside q lt side = ring_stays shape word word' place x sets q (word_side side) lt (off_rings q (word_side side))

  items_beside : ItemsStill shape word word'
  items_beside = still_beside shape word word' place x sets (λ q i. (away (Tag q i) refl, away (RunWord q i) refl, away (PartWord q i) refl))

  module _ (views : List FabricView) (id : ℕ) (v : FabricView) (at : get_elem? views id ≡ some v) (ledgers : List Ledger) (works : List Work) (chunks : List ℕ) (e : FabricEvent) where
    abbrev noter : FabricView
    noter = record v { ledgers = ledgers; works = works; chunks = chunks; log = e ∷ v.log }

    pub notes_beside : ((q : ℕ) (side : Side) → log_at q side noter ≡ log_at q side v) → ((q : ℕ) → item_log q noter.log ≡ item_log q v.log) → NotesAreTrue shape word views → NotesAreTrue shape word' (set views id noter)
    notes_beside same_rings same_items old =
        items_noted shape word word' items_beside (λ q lt. omega (arith, sets.others (Head q FreeSide) lt (away (Head q FreeSide) refl))) views id v at ledgers works chunks v.items v.kept (e ∷ v.log) (λ q i mine. mine) (λ q i p got. got) same_items
        (rings_stay FabricView log_at (queues_in shape) (ring_in word) (ring_in word') views id v noter at rings_beside same_rings old.rings) old
