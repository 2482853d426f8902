-- The joined rule. What a fabric shows between any two atomic steps of all its seats: the machine's core is a part of it, which
-- the words show, and each step of a seat makes of it what the machine's step makes of it, or leaves it.
use Rattle.std.specs.Prelude.{ℕ, ◌*◌, ◌≤◌, ◌≡◌, List, Option, length}
use Rattle.atomic_table.specs.Table.{State}
use Rattle.app_queue.specs.Arms.{ArmsPlaced}
use Rattle.app_queue.specs.Parts.{RingParts, TagsKnown, WordsKnown}
use Rattle.request_context.specs.declared.piece.Parcel.{Parcel}
use Rattle.unit_model.specs.ByRole.{ItemsByRole, SeatsByRole}
use Rattle.unit_model.specs.Limits.{segment_chunks}
use Rattle.unit_model.specs.PartOrder.{PartsInOrder}
use Rattle.unit_model.specs.Soundness.{IsSound}
use Rattle.unit_model.specs.declared.machine.Core.{Core}
use Rattle.unit_model.specs.declared.shape.Shape.{Shape}
use Rattle.unit_types.specs.declared.message.Reply.{Reply}
use Rattle.unit_types.specs.declared.message.Request.{Request}
use Rattle.fabric_words.specs.Offsets.{width_of, word_in}
use Rattle.fabric_words.specs.Places.{map_of, segments_of}
use Rattle.fabric_words.specs.Shown.{Shows}
use Rattle.fabric_words.specs.declared.place.Place.{Place}
use Rattle.carried_slots.specs.FreeSlots.{FreeSlots}
use Rattle.fabric_rule.specs.Contents.{ArmedFilled}
use Rattle.fabric_rule.specs.Parts.{OfEach, ItemsHeld, ChunksHeld, IsOfFabric, OpensNoted, PostsArmed, StreamsLatest, RecordsKnown, RecordsThere, KeptAreWorn, ListsShown, ListsThere, WorksShown, WorksCounted, IsIdle, PostsInWork}
use Rattle.fabric_rule.specs.Views.{queues_in, ring_in, tag_in, run_in, part_in, log_at, held_at, got_at, arms_at, words_in, tag_said, tag_kept, run_said, part_said}
use Rattle.fabric_rule.specs.declared.view.FabricView.{FabricView}

-- what the machine keeps beside a sound core: which role holds which items and has which lists, and that parts come in order
pub record MachineKeeps (popped armed : ℕ → List ℕ) (core : Core) : Type 0 where
  pub sound : IsSound core
  pub items : ItemsByRole core
  pub seats : SeatsByRole core
  pub order : PartsInOrder popped armed core

-- ---- what the words, the core and the views say of each other

-- what the views noted of rings, and what each knows of the words of items in its hand
pub record NotesAreTrue (shape : Shape) (word : Place → ℕ) (views : List FabricView) : Type 0 where
  -- a noted tail or head is at most the word, and a noted entry is there or was passed
  pub rings : RingParts log_at (queues_in shape) (ring_in word) views
  -- the tag of an item in hand is what the seat last noted, or 0
  pub tags : TagsKnown held_at tag_said (queues_in shape) (tag_in word) views
  -- and it isn't 0 instead, but for a line item that a worker holds
  pub kept_tags : WordsKnown held_at (tag_kept shape) (queues_in shape) (tag_in word) views
  pub runs : WordsKnown held_at run_said (queues_in shape) (run_in word) views
  pub parts : WordsKnown held_at part_said (queues_in shape) (part_in word) views
  -- an item's arms have places below its free ring's head, no two one; the latest one has the run and the part of a tag
  pub arms : ArmsPlaced arms_at held_at got_at (queues_in shape) (words_in word) views

-- what views hold and have done, against the core
pub record ViewsShow (shape : Shape) (word : Place → ℕ) (popped armed records : ℕ → List ℕ) (core : Core) (views : List FabricView) : Type 0 where
  pub there : OfEach (IsOfFabric core) views
  pub items : ItemsHeld core views
  pub chunks : ChunksHeld core views
  pub opens : OfEach (OpensNoted core) views
  pub posts : PostsArmed core views
  pub streams : StreamsLatest core views
  pub records_known : OfEach (RecordsKnown core records) views
  pub records_there : RecordsThere core views
  pub lists : ListsShown core popped views
  pub lists_there : ListsThere core views
  pub works : WorksShown core armed views
  pub counted : WorksCounted views
  pub idle : OfEach (IsIdle shape) views
  pub in_work : PostsInWork core views
  pub kept : OfEach (KeptAreWorn core (ring_in word)) views

-- ---- the rule

pub record FabricHolds {H : Type 0} (reply_of : List ℕ → Request → Reply) (shape : Shape) (s : State (Option (Parcel H)) FabricView) : Type 0 where
  pub wide : width_of shape ≤ length s.words
  -- the machine, what engines popped and haven't settled, what is armed for each stream and not pushed, and under which record each
  -- stream was posted
  pub core : Core
  pub popped : ℕ → List ℕ
  pub armed : ℕ → List ℕ
  pub records : ℕ → List ℕ
  pub shaped : core.shape ≡ shape
  pub keeps : MachineKeeps popped armed core
  pub shows : Shows (word_in shape s.words) core
  pub notes : NotesAreTrue shape (word_in shape s.words) s.views
  pub views : ViewsShow shape (word_in shape s.words) popped armed records core s.views
  pub free : FreeSlots (segment_chunks * segments_of shape) (map_of (word_in shape s.words)) s.homes
  pub filled : ArmedFilled reply_of records core s.homes
