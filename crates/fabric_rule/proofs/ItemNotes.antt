-- What is noted of items stays, where no tag, run or part changes, and where the seat noted nothing of an item and took none.
use Rattle.std.proofs.Common.{ℕ, ◌≡◌, ◌≤◌, ◌<◌, inr, false, List, set, Some, refl, subst, arith, ◌≢◌}
use mathlib.Core.Option.{some}
use lib.ListN.{get_elem?}
use Rattle.app_queue.specs.Parts.{RingParts}
use Rattle.app_queue.specs.Queues.{WordsStay}
use Rattle.app_queue.specs.Views.{last_tag, last_run, last_part, is_armed}
use Rattle.app_queue.specs.declared.view.ItemEvent.{ItemEvent}
use Rattle.app_queue.proofs.ArmFrames.{arms_stay}
use Rattle.app_queue.proofs.KnownFrames.{tags_known, words_known}
use Rattle.unit_model.specs.Holding.{items_of}
use Rattle.unit_model.specs.Sharing.{Holds}
use Rattle.unit_model.specs.Weights.{weigh}
use Rattle.unit_model.specs.declared.shape.Shape.{Shape}
use Rattle.fabric_words.specs.Places.{queues_of, Sets}
use Rattle.fabric_words.specs.declared.place.Place.{Place}
use Rattle.fabric_words.specs.declared.place.Place.TheVariants.{Head, Tag, RunWord, PartWord}
use Rattle.fabric_words.specs.declared.place.Side.TheVariants.{FreeSide}
use Rattle.fabric_rule.specs.Rule.{NotesAreTrue}
use Rattle.fabric_rule.specs.Views.{arms_at, got_at, held_at, is_got, item_log, log_at, part_in, part_said, queues_in, ring_in, run_in, run_said, tag_in, tag_kept, tag_said}
use Rattle.fabric_rule.specs.declared.event.FabricEvent.{FabricEvent}
use Rattle.fabric_rule.specs.declared.view.FabricView.{FabricView}
use Rattle.fabric_rule.specs.declared.view.HeldItem.{HeldItem}
use Rattle.fabric_rule.specs.declared.view.KeptItem.{KeptItem}
use Rattle.fabric_rule.specs.declared.view.Ledger.{Ledger}
use Rattle.fabric_rule.specs.declared.view.Work.{Work}
use Rattle.app_queue.specs.declared.side.Side.{Side}
use Rattle.app_queue.proofs.RingFrames.{rings_stay}

-- the words of items are the same
pub record ItemsStill (shape : Shape) (word word' : Place → ℕ) : Type 0 where
  pub tags : WordsStay (queues_in shape) (tag_in word) (tag_in word')
  pub runs : WordsStay (queues_in shape) (run_in word) (run_in word')
  pub parts : WordsStay (queues_in shape) (part_in word) (part_in word')

-- no free ring's head falls
abbrev pub HeadsRise : Shape → (Place → ℕ) → (Place → ℕ) → Type 0
HeadsRise shape word word' =
    (q : ℕ) → q < queues_of shape → word (Head q FreeSide) ≤ word' (Head q FreeSide)

-- where no word changes
pub all_still : (shape : Shape) (word : Place → ℕ) → ItemsStill shape word word
all_still shape word = record { tags = λ q lt i below_n. refl; runs = λ q lt i below_n. refl; parts = λ q lt i below_n. refl }

pub heads_still : (shape : Shape) (word : Place → ℕ) → HeadsRise shape word word
heads_still shape word q lt = omega arith

-- no ring's words change, and the seat noted nothing of one
pub rings_kept : (shape : Shape) (word : Place → ℕ) (views : List FabricView) (id : ℕ) (v u : FabricView) → get_elem? views id ≡ some v → ((q : ℕ) (side : Side) → log_at q side u ≡ log_at q side v)
    → RingParts log_at (queues_in shape) (ring_in word) views → RingParts log_at (queues_in shape) (ring_in word) (set views id u)
rings_kept shape word views id v u at same old =
    rings_stay FabricView log_at (queues_in shape) (ring_in word) (ring_in word) views id v u at (λ q lt side. record { head = refl; tail = refl; entries = λ j below_n. refl }) same old

-- where a word is set that is none of them
pub still_beside : (shape : Shape) (word word' : Place → ℕ) (place : Place) (x : ℕ) → Sets shape word word' place x → ((q i : ℕ) → (Tag q i ≢ place) × (RunWord q i ≢ place) × (PartWord q i ≢ place)) → ItemsStill shape word word'
still_beside shape word word' place x sets off = record {
  tags = λ q lt i below_n. sets.others (Tag q i) (record { in_queues = lt; in_items = below_n }) (off q i).0;
  runs = λ q lt i below_n. sets.others (RunWord q i) (record { in_queues = lt; in_items = below_n }) (off q i).1;
  parts = λ q lt i below_n. sets.others (PartWord q i) (record { in_queues = lt; in_items = below_n }) (off q i).2;
}

module _ (shape : Shape) (word word' : Place → ℕ) (still : ItemsStill shape word word') (heads : HeadsRise shape word word') (views : List FabricView) (id : ℕ) (v : FabricView) (at : get_elem? views id ≡ some v)
    (ledgers : List Ledger) (works : List Work) (chunks : List ℕ) (items : List HeldItem) (kept : List KeptItem) (log : List FabricEvent) where
  abbrev u : FabricView
  u = record v { ledgers = ledgers; works = works; chunks = chunks; items = items; kept = kept; log = log }

  pub items_noted : ((q i : ℕ) → Holds (held_at q) i u → Holds (held_at q) i v) → ((q i p : ℕ) → 1 ≤ weigh (is_got q i p) items → 1 ≤ weigh (is_got q i p) v.items) → ((q : ℕ) → item_log q log ≡ item_log q v.log)
      → RingParts log_at (queues_in shape) (ring_in word') (set views id u) → NotesAreTrue shape word views → NotesAreTrue shape word' (set views id u)
  items_noted held got same rings old = record {
    rings = rings;
    tags = tags_known FabricView tag_said held_at (queues_in shape) (tag_in word) (tag_in word') views id v u at still.tags
        (λ q i mine. (held q i mine, λ x told. subst (λ (es : List ItemEvent). last_tag i es ≡ Some x) (same q) told)) old.tags;
    kept_tags = words_known FabricView (tag_kept shape) held_at (queues_in shape) (tag_in word) (tag_in word') views id v u at still.tags
        (λ q i mine. (held q i mine, λ x told. (subst (λ (es : List ItemEvent). last_tag i es ≡ Some x) (same q) told.0, told.1))) old.kept_tags;
    runs = words_known FabricView run_said held_at (queues_in shape) (run_in word) (run_in word') views id v u at still.runs
        (λ q i mine. (held q i mine, λ x told. subst (λ (es : List ItemEvent). last_run i es ≡ Some x) (same q) told)) old.runs;
    parts = words_known FabricView part_said held_at (queues_in shape) (part_in word) (part_in word') views id v u at still.parts
        (λ q i mine. (held q i mine, λ x told. subst (λ (es : List ItemEvent). last_part i es ≡ Some x) (same q) told)) old.parts;
    arms = λ q lt. arms_stay FabricView (got_at q) (arms_at q) (held_at q) (items_of shape q) (word (Head q FreeSide)) (word' (Head q FreeSide)) (tag_in word q) (tag_in word' q) (run_in word q) (run_in word' q) (part_in word q) (part_in word' q) views id v u at
        (heads q lt) (λ i below_n. inr (still.tags q lt i below_n, still.runs q lt i below_n, still.parts q lt i below_n)) refl
        (λ i mine p is_got_at. (held q i mine, (got q i p is_got_at.0, subst (λ (es : List ItemEvent). is_armed i es ≡ false) (same q) is_got_at.1))) (old.arms q lt);
  }
