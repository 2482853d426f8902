-- What steps do to the parts of the rule, as statements. A step changes the view of one seat, from v to u; what of it and of the
-- core has changed is a premise, and what isn't named may have changed.
use Rattle.std.specs.Prelude.{ℕ, ◌+◌, ◌*◌, ◌≡◌, ◌≢◌, ◌≤◌, ◌<◌, ◌⊎◌, ◌==◌, ◌&&◌, true, List, [], ◌∷◌, length, set, Option}
use Rattle.std.specs.List.{range_with_len}
use mathlib.Core.Option.{some}
use lib.ListN.{get_elem?}
use Rattle.nncq_ring.specs.Words.{Words}
use Rattle.app_queue.specs.declared.side.Side.{Side}
use Rattle.app_queue.specs.declared.side.Side.TheVariants.{Free}
use Rattle.request_context.specs.declared.piece.Parcel.{Parcel}
use Rattle.unit_model.specs.Core.{item_of, owner_of, role_of}
use Rattle.unit_model.specs.Effects.{noted}
use Rattle.unit_model.specs.Holding.{items_of, IsInRun}
use Rattle.unit_model.specs.Limits.{segment_chunks}
use Rattle.unit_model.specs.Lists.{change_at}
use Rattle.unit_model.specs.PartCounts.{of_stream}
use Rattle.unit_model.specs.PartOrder.{Each}
use Rattle.unit_model.specs.StreamCounts.{by_all, posted}
use Rattle.unit_model.specs.Weights.{weigh, times}
use Rattle.unit_model.specs.declared.machine.Core.{Core}
use Rattle.unit_model.specs.declared.machine.Note.{Note}
use Rattle.unit_model.specs.declared.machine.Note.TheVariants.{Drawn, Posted, Cancelled, Abandoned, Received, Taken, Sent, Closed}
use Rattle.unit_model.specs.declared.machine.Seat.{Seat as SeatLists}
use Rattle.unit_types.specs.declared.message.Reply.{Reply}
use Rattle.unit_types.specs.declared.message.Request.{Request}
use Rattle.fabric_words.specs.Places.{HasItem, queues_of, segments_of}
use Rattle.fabric_rule.specs.Contents.{ArmedFilled}
use Rattle.fabric_rule.specs.Parts.{OfEach, ItemsHeld, ChunksHeld, IsOfFabric, PostsArmed, StreamsLatest, RecordsKnown, RecordsThere, KeptAreWorn, ListsShown, ListsThere, WorksShown, WorksCounted, PostsInWork, hand_weight, has_last, owner_weight}
use Rattle.fabric_rule.specs.Views.{hand_at, chunks_at, lists_at, opens_at, records_at, works_at}
use Rattle.fabric_rule.specs.declared.view.ArmNote.{ArmNote}
use Rattle.fabric_rule.specs.declared.view.Ledger.{Ledger}
use Rattle.fabric_rule.specs.declared.view.FabricView.{FabricView}
use Rattle.fabric_rule.specs.declared.view.KeptItem.{KeptItem}

-- ---- who holds what

-- no item goes to a seat or from it, and the seat has the same ones
abbrev pub ItemsStayLaw : Type 0
ItemsStayLaw = (core core' : Core) (views : List FabricView) (id : ℕ) (v u : FabricView)
    → get_elem? views id ≡ some v → core'.shape ≡ core.shape
    → ((queue item : ℕ) → queue < queues_of core.shape → (item_of core' queue item).whereabouts ≡ (item_of core queue item).whereabouts)
    → ((queue : ℕ) (f : ℕ → ℕ → ℕ) → hand_at queue f u ≡ hand_at queue f v)
    → ItemsHeld core views
    → ItemsHeld core' (set views id u)

-- one item moves: what it weighs where it is has changed by as much as what the seat has
abbrev pub ItemMovesLaw : Type 0
ItemMovesLaw = (core core' : Core) (views : List FabricView) (id : ℕ) (v u : FabricView)
    → get_elem? views id ≡ some v → core'.shape ≡ core.shape
    → (one item : ℕ) → item < items_of core.shape one
    → ((queue other : ℕ) → (queue ≢ one) ⊎ (other ≢ item) → (item_of core' queue other).whereabouts ≡ (item_of core queue other).whereabouts)
    → ((f : ℕ → ℕ → ℕ) → hand_at one f u + hand_weight f (item_of core one item).whereabouts item ≡ hand_at one f v + hand_weight f (item_of core' one item).whereabouts item)
    → ((queue : ℕ) (f : ℕ → ℕ → ℕ) → queue ≢ one → hand_at queue f u ≡ hand_at queue f v)
    → ItemsHeld core views
    → ItemsHeld core' (set views id u)

-- no chunk goes to a seat or from it
abbrev pub ChunksStayLaw : Type 0
ChunksStayLaw = (core core' : Core) (views : List FabricView) (id : ℕ) (v u : FabricView)
    → get_elem? views id ≡ some v → core'.shape ≡ core.shape
    → ((chunk : ℕ) → owner_of core' chunk ≡ owner_of core chunk)
    → ((f : ℕ → ℕ → ℕ) → chunks_at f u ≡ chunks_at f v)
    → ChunksHeld core views
    → ChunksHeld core' (set views id u)

-- the n chunks from one on change their owner: what they weigh has changed by as much as what the seat has
abbrev pub ChunksMoveLaw : Type 0
ChunksMoveLaw = (core core' : Core) (views : List FabricView) (id : ℕ) (v u : FabricView)
    → get_elem? views id ≡ some v → core'.shape ≡ core.shape
    → (first n : ℕ) → first + n ≤ segment_chunks * segments_of core.shape
    → ((chunk : ℕ) → (chunk < first) ⊎ (first + n ≤ chunk) → owner_of core' chunk ≡ owner_of core chunk)
    → ((f : ℕ → ℕ → ℕ) → chunks_at f u + weigh (λ chunk. owner_weight f (owner_of core chunk) chunk) (range_with_len first n)
    ≡ chunks_at f v + weigh (λ chunk. owner_weight f (owner_of core' chunk) chunk) (range_with_len first n))
    → ChunksHeld core views
    → ChunksHeld core' (set views id u)

-- ---- what each view says

-- a step leaves the shape, and the seat is the same one
abbrev pub OfFabricStayLaw : Type 0
OfFabricStayLaw = (core core' : Core) (views : List FabricView) (id : ℕ) (v u : FabricView)
    → get_elem? views id ≡ some v → core'.shape ≡ core.shape
    → u.shape ≡ v.shape → u.seat ≡ v.seat
    → OfEach (IsOfFabric core) views
    → OfEach (IsOfFabric core') (set views id u)

-- a view's part, where it is so of the new view, and what was so of the others still is
abbrev pub OfEachLaw : (P P' : FabricView → Type 0) → Type 0
OfEachLaw P P' = (views : List FabricView) (id : ℕ) (u : FabricView)
    → P' u → ((y : FabricView) → P y → P' y)
    → OfEach P views
    → OfEach P' (set views id u)

-- ---- lists and works, where no seat's lists change

-- the seats' lists and the shape are the same
pub record SameLists (core core' : Core) : Type 0 where
  pub shape : core'.shape ≡ core.shape
  pub seats : core'.seats ≡ core.seats

-- the same streams are posted
abbrev pub SamePosts : Core → Core → Type 0
SamePosts core core' = (stream : ℕ) → by_all posted core' stream ≡ by_all posted core stream

abbrev pub PostsStayLaw : Type 0
PostsStayLaw = (core core' : Core) (views : List FabricView) (id : ℕ) (v u : FabricView)
    → get_elem? views id ≡ some v → SamePosts core core' → u.arms ≡ v.arms
    → PostsArmed core views
    → PostsArmed core' (set views id u)

abbrev pub StreamsStayLaw : Type 0
StreamsStayLaw = (core core' : Core) (views : List FabricView) (id : ℕ) (v u : FabricView)
    → get_elem? views id ≡ some v → core'.shape ≡ core.shape
    → ((queue item : ℕ) → (item_of core' queue item).stream ≡ (item_of core queue item).stream)
    → u.arms ≡ v.arms
    → StreamsLatest core views
    → StreamsLatest core' (set views id u)

abbrev pub RecordsStayLaw : Type 0
RecordsStayLaw = (core core' : Core) (records : ℕ → List ℕ) (v u : FabricView)
    → SamePosts core core' → u.records ≡ v.records
    → RecordsKnown core records v
    → RecordsKnown core' records u

-- a stream that is posted was, or the seat has its record; and the seat has all that it had
abbrev pub RecordsThereLaw : Type 0
RecordsThereLaw = (core core' : Core) (views : List FabricView) (id : ℕ) (v u : FabricView)
    → get_elem? views id ≡ some v
    → ((stream : ℕ) → by_all posted core' stream ≤ by_all posted core stream + records_at stream u)
    → ((stream : ℕ) → records_at stream v ≤ records_at stream u)
    → RecordsThere core views
    → RecordsThere core' (set views id u)

abbrev pub ListsStayLaw : Type 0
ListsStayLaw = (core core' : Core) (popped : ℕ → List ℕ) (views : List FabricView) (id : ℕ) (v u : FabricView)
    → get_elem? views id ≡ some v → SameLists core core' → u.ledgers ≡ v.ledgers
    → ListsShown core popped views
    → ListsShown core' popped (set views id u)

abbrev pub ListsThereLaw : Type 0
ListsThereLaw = (core core' : Core) (views : List FabricView) (id : ℕ) (v u : FabricView)
    → get_elem? views id ≡ some v → core'.shape ≡ core.shape
    → ((number : ℕ) → lists_at number u ≡ lists_at number v)
    → ListsThere core views
    → ListsThere core' (set views id u)

abbrev pub WorksStayLaw : Type 0
WorksStayLaw = (core core' : Core) (armed : ℕ → List ℕ) (views : List FabricView) (id : ℕ) (v u : FabricView)
    → get_elem? views id ≡ some v → SameLists core core'
    → u.seat ≡ v.seat → u.works ≡ v.works → u.arms ≡ v.arms
    → WorksShown core armed views
    → WorksShown core' armed (set views id u)

abbrev pub CountedStayLaw : Type 0
CountedStayLaw = (views : List FabricView) (id : ℕ) (v u : FabricView)
    → get_elem? views id ≡ some v
    → ((number : ℕ) → opens_at number u + works_at number v ≡ opens_at number v + works_at number u)
    → WorksCounted views
    → WorksCounted (set views id u)

abbrev pub InWorkStayLaw : Type 0
InWorkStayLaw = (core core' : Core) (views : List FabricView) (id : ℕ) (v u : FabricView)
    → get_elem? views id ≡ some v → SameLists core core' → u.works ≡ v.works
    → PostsInWork core views
    → PostsInWork core' (set views id u)

-- ---- what is kept

abbrev pub StaysUntagged : Core → Core → KeptItem → Type 0
StaysUntagged core core' kept =
    (item_of core kept.queue kept.item).tag ≡ 0 → (item_of core' kept.queue kept.item).tag ≡ 0

-- tails don't fall, and what is kept gets no tag
abbrev pub KeptStayLaw : Type 0
KeptStayLaw = (core core' : Core) (ring ring' : ℕ → Side → Words) (v u : FabricView)
    → core'.shape ≡ core.shape
    → ((queue : ℕ) → queue < queues_of core.shape → (ring queue Free).tail ≤ (ring' queue Free).tail)
    → Each (StaysUntagged core core') v.kept
    → u.kept ≡ v.kept
    → KeptAreWorn core ring v
    → KeptAreWorn core' ring' u

-- ---- the parcels of messages

-- Each armed item was armed as it is, and the slots of its run are where they were.
abbrev pub FilledStayLaw : (H : Type 0) → Type 0
FilledStayLaw H = (reply_of : List ℕ → Request → Reply) (records records' : ℕ → List ℕ) (core core' : Core) (homes homes' : List (mathlib.Core.Option.Option (Option (Parcel H))))
    → core'.shape ≡ core.shape
    → ((queue item : ℕ) → HasItem core.shape queue item → (item_of core' queue item).tag ≢ 0
    → ((item_of core' queue item).tag ≡ (item_of core queue item).tag)
    × ((item_of core' queue item).run ≡ (item_of core queue item).run)
    × ((item_of core' queue item).part ≡ (item_of core queue item).part)
    × (records' (item_of core queue item).tag ≡ records (item_of core queue item).tag)
    × ((chunk : ℕ) → IsInRun (item_of core queue item).run chunk → get_elem? homes' chunk ≡ get_elem? homes chunk))
    → ArmedFilled reply_of records core homes
    → ArmedFilled reply_of records' core' homes'

-- ---- where a seat's lists get a note more

-- the stream that a note is about
abbrev pub note_stream : Note → ℕ
note_stream (Drawn stream) = stream
note_stream (Posted stream) = stream
note_stream (Cancelled stream) = stream
note_stream (Abandoned stream) = stream
note_stream (Received part) = part.stream
note_stream (Taken stream) = stream
note_stream (Sent part) = part.stream
note_stream (Closed stream) = stream

-- one seat's lists have the note, and the other ones are as they were
pub record NotesOne (core core' : Core) (seat : ℕ) (note : Note) : Type 0 where
  pub shape : core'.shape ≡ core.shape
  pub inside : seat < length core.seats
  pub seats : core'.seats ≡ change_at seat (noted note) core.seats

-- ---- where an item is armed

abbrev pub IsBefore : ℕ → ℕ → ℕ → ArmNote → Type 0
IsBefore queue item place a = (a.queue == queue && a.item == item) ≡ true → a.place < place

-- The stream of an item that is armed is that of its new arm, which has the greatest get place.
abbrev pub StreamsArmLaw : Type 0
StreamsArmLaw = (core core' : Core) (views : List FabricView) (id : ℕ) (v u : FabricView) (a : ArmNote)
    → get_elem? views id ≡ some v → core'.shape ≡ core.shape → u.arms ≡ a ∷ v.arms
    → ((k : ℕ) (y : FabricView) → get_elem? views k ≡ some y → Each (IsBefore a.queue a.item a.place) y.arms)
    → (item_of core' a.queue a.item).stream ≡ a.stream
    → ((queue item : ℕ) → (queue ≢ a.queue) ⊎ (item ≢ a.item) → (item_of core' queue item).stream ≡ (item_of core queue item).stream)
    → StreamsLatest core views
    → StreamsLatest core' (set views id u)

-- ---- where one seat's lists have a note more

-- The main view of that number has the note too.
abbrev pub ListsNotedLaw : Type 0
ListsNotedLaw = (core core' : Core) (note : Note) (popped popped' : ℕ → List ℕ) (views : List FabricView) (id : ℕ) (v u : FabricView) (c c' : Ledger)
    → get_elem? views id ≡ some v → NotesOne core core' v.seat note
    → v.ledgers ≡ c ∷ [] → c.seat ≡ v.seat → u.ledgers ≡ c' ∷ []
    → c'.seat ≡ c.seat → c'.lists ≡ noted note c.lists → c'.refusals ≡ c.refusals
    → (role_of core v.seat ≡ 0 → popped' v.seat ≡ c'.popped)
    → ((number : ℕ) → number ≢ v.seat → popped' number ≡ popped number)
    → ListsShown core popped views
    → ListsShown core' popped' (set views id u)

-- of the lists of a seat, what is said of one stream
pub record SameOf (stream : ℕ) (lists lists' : SeatLists) : Type 0 where
  pub drawn_as : times stream lists'.drawn ≡ times stream lists.drawn
  pub posted_as : times stream lists'.posted ≡ times stream lists.posted
  pub cancelled_as : times stream lists'.cancelled ≡ times stream lists.cancelled
  pub abandoned_as : times stream lists'.abandoned ≡ times stream lists.abandoned
  pub taken_as : times stream lists'.taken ≡ times stream lists.taken
  pub closed_as : times stream lists'.closed ≡ times stream lists.closed
  pub sent_as : weigh (of_stream stream) lists'.sent ≡ weigh (of_stream stream) lists.sent
  pub finished_as : has_last stream lists'.sent ≡ has_last stream lists.sent
  pub received_as : has_last stream lists'.received ≡ has_last stream lists.received

-- A note is of one stream: what lists say of another one stays.
abbrev pub NotedSameLaw : Type 0
NotedSameLaw = (note : Note) (lists : SeatLists) (stream : ℕ) → stream ≢ note_stream note
    → SameOf stream lists (noted note lists)
