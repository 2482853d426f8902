-- The parts of the rule: each is one sentence on words, on the machine's core, on slots and on views. Who holds what is said against
-- the core and not against words; the words are those that show the core.
use Rattle.std.specs.Prelude.{ℕ, ◌+◌, ◌*◌, ◌/◌, ◌^◌, ◌≡◌, ◌≤◌, ◌<◌, ◌⊎◌, ◌==◌, ◌&&◌, Bool, false, cond, List, [], ◌∷◌}
use Rattle.std.specs.List.{list_any}
use mathlib.Core.Option.{some}
use lib.ListN.{get_elem?}
use Rattle.nncq_ring.specs.Words.{Words}
use Rattle.app_queue.specs.declared.side.Side.{Side}
use Rattle.app_queue.specs.declared.side.Side.TheVariants.{Free}
use Rattle.unit_model.specs.Core.{item_of, owner_of, role_of, seat_of}
use Rattle.unit_model.specs.Holding.{items_of}
use Rattle.unit_model.specs.Limits.{segment_chunks}
use Rattle.unit_model.specs.PartCounts.{of_stream}
use Rattle.unit_model.specs.PartOrder.{Each}
use Rattle.unit_model.specs.Runs.{HasNoRun, chunks_for}
use Rattle.unit_model.specs.Shapes.{role_in}
use Rattle.unit_model.specs.StreamCounts.{by_all, posted}
use Rattle.unit_model.specs.Weights.{weigh, below, times}
use Rattle.unit_model.specs.declared.machine.Core.{Core}
use Rattle.unit_model.specs.declared.machine.Owner.{Owner}
use Rattle.unit_model.specs.declared.machine.Owner.TheVariants.{Free as Unowned, Seat as OfSeat, Message as OfMessage}
use Rattle.unit_model.specs.declared.machine.Part.{Part}
use Rattle.unit_model.specs.declared.machine.Seat.{Seat as SeatLists}
use Rattle.unit_model.specs.declared.machine.Whereabouts.{Whereabouts}
use Rattle.unit_model.specs.declared.machine.Whereabouts.TheVariants.{InFreeList, InLine, WithSeat}
use Rattle.unit_model.specs.declared.shape.Shape.{Shape}
use Rattle.fabric_words.specs.Places.{HasItem, queues_of, segments_of}
use Rattle.fabric_rule.specs.Keyed.{Keyed}
use Rattle.fabric_rule.specs.Views.{hand_at, chunks_at, held_at, last_stream, open_noted, posts_at, posts_of, lists_at, opens_at, records_at, works_at, draw_at, draw_weight, take_at, take_weight, popped_at}
use Rattle.fabric_rule.specs.declared.cause.Cause.{Cause}
use Rattle.fabric_rule.specs.declared.cause.Cause.TheVariants.{NoChunks, NoItem, Worn}
use Rattle.fabric_rule.specs.declared.cause.Refusal.{Refusal}
use Rattle.fabric_rule.specs.declared.event.Segments.TheVariants.{Out, Back}
use Rattle.fabric_rule.specs.declared.view.ArmNote.{ArmNote}
use Rattle.fabric_rule.specs.declared.view.Ledger.{Ledger}
use Rattle.fabric_rule.specs.declared.view.FabricView.{FabricView}
use Rattle.fabric_rule.specs.declared.view.KeptItem.{KeptItem}
use Rattle.fabric_rule.specs.declared.view.Posting.{Posting}
use Rattle.fabric_rule.specs.declared.view.Work.{Work}
use Rattle.fabric_rule.specs.declared.view.Work.TheVariants.{Drawn, Posted, Taken, Sending, Holding}

-- so of each view
abbrev pub OfEach : (FabricView → Type 0) → List FabricView → Type 0
OfEach says views = (id : ℕ) (v : FabricView) → get_elem? views id ≡ some v → says v

-- ---- who holds what

-- an item weighs where it is with a seat, by that seat
abbrev pub hand_weight : (ℕ → ℕ → ℕ) → Whereabouts → ℕ → ℕ
hand_weight f InFreeList item = 0
hand_weight f InLine item = 0
hand_weight f (WithSeat seat) item = f seat item

-- The items that the machine has with seats are those that views have, each once, in a view of that seat's number.
abbrev pub ItemsHeld : Core → List FabricView → Type 0
ItemsHeld core views =
    (queue : ℕ) → queue < queues_of core.shape
    → (f : ℕ → ℕ → ℕ) → weigh (hand_at queue f) views
    ≡ below (λ item. hand_weight f (item_of core queue item).whereabouts item) (items_of core.shape queue)

-- a chunk weighs where a seat owns it, by that seat
abbrev pub owner_weight : (ℕ → ℕ → ℕ) → Owner → ℕ → ℕ
owner_weight f Unowned chunk = 0
owner_weight f (OfSeat seat) chunk = f seat chunk
owner_weight f (OfMessage queue item) chunk = 0

-- The chunks that the machine has with seats are those that views have, each once, in a view of that seat's number.
abbrev pub ChunksHeld : Core → List FabricView → Type 0
ChunksHeld core views =
    (f : ℕ → ℕ → ℕ) → weigh (chunks_at f) views
    ≡ below (λ chunk. owner_weight f (owner_of core chunk) chunk) (segment_chunks * segments_of core.shape)

-- ---- notes

-- the view is of this fabric, and of a seat that is there
pub record IsOfFabric (core : Core) (v : FabricView) : Type 0 where
  pub shape : v.shape ≡ core.shape
  pub role : role_of core v.seat ≤ 1

-- no view has seen more segments open than are
pub record OpensNoted (core : Core) (v : FabricView) : Type 0 where
  pub out : open_noted Out v ≤ core.opened.out
  pub back : open_noted Back v ≤ core.opened.back

-- the arms on queue 0 are one for each posted stream
abbrev pub PostsArmed : Core → List FabricView → Type 0
PostsArmed core views = (stream : ℕ) → weigh (posts_at stream) views ≡ by_all posted core stream

-- an item's stream is that of its latest arm, 0 without one
abbrev pub StreamsLatest : Core → List FabricView → Type 0
StreamsLatest core views =
    (queue item : ℕ) → HasItem core.shape queue item
    → (item_of core queue item).stream ≡ last_stream views queue item

-- a record that a view has is that of its stream, which was posted
pub record IsPosting (core : Core) (records : ℕ → List ℕ) (p : Posting) : Type 0 where
  pub same : records p.stream ≡ p.bytes
  pub was : 1 ≤ by_all posted core p.stream

abbrev pub RecordsKnown : Core → (ℕ → List ℕ) → FabricView → Type 0
RecordsKnown core records v = Each (IsPosting core records) v.records

-- and of each posted stream some view has the record
abbrev pub RecordsThere : Core → List FabricView → Type 0
RecordsThere core views =
    (stream : ℕ) → 1 ≤ by_all posted core stream → 1 ≤ weigh (records_at stream) views

-- An item is kept only where the tail of the free ring that it should go to, that of its own queue, has come to 2^62. It has no
-- tag, so it holds no chunks.
pub record IsWornOut (core : Core) (ring : ℕ → Side → Words) (kept : KeptItem) : Type 0 where
  pub there : kept.queue < queues_of core.shape
  pub worn : 2 ^ 62 ≤ (ring kept.queue Free).tail
  pub untagged : (item_of core kept.queue kept.item).tag ≡ 0

abbrev pub KeptAreWorn : Core → (ℕ → Side → Words) → FabricView → Type 0
KeptAreWorn core ring v = Each (IsWornOut core ring) v.kept

-- ---- the lists of a seat number

-- the seat that has these lists drew or took the stream
abbrev pub IsOwnStream : SeatLists → ℕ → Type 0
IsOwnStream lists stream = 1 ≤ times stream lists.drawn + times stream lists.taken

abbrev pub IsOwn : Core → ℕ → ℕ → Type 0
IsOwn core seat stream = IsOwnStream (seat_of core seat) stream

-- how many items has a queue that a seat of this number fills
abbrev pub filled_in : Shape → ℕ → ℕ
filled_in shape seat = cond (role_in shape seat == 0) shape.items shape.back_items

-- why a seat of this number, with these lists, was refused
abbrev pub IsCauseOf : Shape → ℕ → SeatLists → ℕ → Cause → Type 0
IsCauseOf shape seat lists stream (NoChunks size seen) =
    HasNoRun seen (chunks_for size) × IsOwnStream lists stream
IsCauseOf shape seat lists stream (NoItem place entry) =
    (entry / filled_in shape seat + 1 ≡ place / filled_in shape seat) × IsOwnStream lists stream
IsCauseOf shape seat lists stream (Worn place) =
    (2 ^ 62 ≤ place) × ((stream ≡ 0) ⊎ IsOwnStream lists stream)

abbrev pub IsCause : Core → ℕ → ℕ → Cause → Type 0
IsCause core seat stream cause = IsCauseOf core.shape seat (seat_of core seat) stream cause

abbrev pub IsRefused : Core → ℕ → Refusal → Type 0
IsRefused core seat refusal = IsCause core seat refusal.stream refusal.cause

-- A seat's lists are those of the machine, its refusals have their causes, and what an engine's seat popped is what the rule says
-- of it.
pub record IsTrueLedger (core : Core) (popped : ℕ → List ℕ) (c : Ledger) : Type 0 where
  pub lists : c.lists ≡ seat_of core c.seat
  pub refused : Each (IsRefused core c.seat) c.refusals
  pub popped_item : role_of core c.seat ≡ 0 → popped c.seat ≡ c.popped

-- of those of a number, where the view has them
abbrev pub ShowsLists : Core → (ℕ → List ℕ) → ℕ → FabricView → Type 0
ShowsLists core popped number v = Each (λ (c : Ledger). c.seat ≡ number → IsTrueLedger core popped c) v.ledgers

-- The lists of each number are with one view, and they are the machine's.
abbrev pub ListsShown : Core → (ℕ → List ℕ) → List FabricView → Type 0
ListsShown core popped views = Keyed lists_at (ShowsLists core popped) views

-- and there are those of each seat
abbrev pub ListsThere : Core → List FabricView → Type 0
ListsThere core views =
    (number : ℕ) → number < core.shape.engines + core.shape.workers
    → 1 ≤ weigh (lists_at number) views

-- ---- works

-- of the lists of the seat: a stream that it drew and hasn't posted
pub record KnowsDrawn (lists : SeatLists) (stream : ℕ) : Type 0 where
  pub drew : 1 ≤ times stream lists.drawn
  pub unposted : times stream lists.posted ≡ 0

-- a stream that it posted, and neither cancelled nor abandoned; its only arm is of this item, and the view has it
pub record KnowsPosted (lists : SeatLists) (arms : List ArmNote) (stream item : ℕ) : Type 0 where
  pub was_posted : 1 ≤ times stream lists.posted
  pub uncancelled : times stream lists.cancelled ≡ 0
  pub unabandoned : times stream lists.abandoned ≡ 0
  pub arm : 1 ≤ posts_of stream item arms

-- there is a last part of the stream among these
abbrev pub has_last : ℕ → List Part → Bool
has_last stream parts = list_any (λ part. part.stream == stream && part.last) parts

-- A stream that it took and didn't close, with how many of its parts it sent, none of them the last, and none of them armed and not
-- pushed. `poster` has the lists of the engine that posted it.
pub record KnowsTaken (lists poster : SeatLists) (armed : ℕ → List ℕ) (stream parts : ℕ) : Type 0 where
  pub took : 1 ≤ times stream lists.taken
  pub unclosed : times stream lists.closed ≡ 0
  pub to : 1 ≤ times stream poster.posted
  pub parts_out : weigh (of_stream stream) lists.sent ≡ parts
  pub unfinished : has_last stream lists.sent ≡ false
  pub nothing : armed stream ≡ []

-- A stream that it took and didn't close, with how many of its parts it sent, and whether the last is among them. The newest is armed
-- with this item, and not pushed. `poster` has the lists of the engine that posted it.
pub record KnowsSending (lists poster : SeatLists) (armed : ℕ → List ℕ) (stream parts : ℕ) (last : Bool) (item : ℕ) : Type 0 where
  pub took : 1 ≤ times stream lists.taken
  pub unclosed : times stream lists.closed ≡ 0
  pub to : 1 ≤ times stream poster.posted
  pub parts_out : weigh (of_stream stream) lists.sent ≡ parts
  pub finished : has_last stream lists.sent ≡ last
  pub one : armed stream ≡ item ∷ []

-- what a seat of this number, which made these arms, knows of a work
abbrev pub KnowsWork : Core → (ℕ → List ℕ) → ℕ → List ArmNote → Work → Type 0
KnowsWork core armed seat arms (Drawn stream) = KnowsDrawn (seat_of core seat) stream
KnowsWork core armed seat arms (Posted stream item) =
    KnowsPosted (seat_of core seat) arms stream item
KnowsWork core armed seat arms (Taken stream poster parts) =
    KnowsTaken (seat_of core seat) (seat_of core poster) armed stream parts
KnowsWork core armed seat arms (Sending stream poster parts last item) =
    KnowsSending (seat_of core seat) (seat_of core poster) armed stream parts last item
KnowsWork core armed seat arms Holding = Unit {0}

-- of the works that weigh by this weight
abbrev pub ShowsWorks : (ℕ → Work → ℕ) → Core → (ℕ → List ℕ) → ℕ → FabricView → Type 0
ShowsWorks weight core armed stream v =
    Each (λ (w : Work). 1 ≤ weight stream w → KnowsWork core armed v.seat v.arms w) v.works

-- The work of who drew or posted a stream is with one view, and so is that of who took it. Each knows of it what is so.
pub record WorksShown (core : Core) (armed : ℕ → List ℕ) (views : List FabricView) : Type 0 where
  pub draws : Keyed draw_at (ShowsWorks draw_weight core armed) views
  pub takes : Keyed take_at (ShowsWorks take_weight core armed) views

-- Main views count the open works: for each number, those of all views of this number.
abbrev pub WorksCounted : List FabricView → Type 0
WorksCounted views = (number : ℕ) → weigh (opens_at number) views ≡ weigh (works_at number) views

-- A view without work has no chunk, and no item but those that it keeps and the one that it just popped. So an item is got from a
-- free ring by views with works alone.
pub record IsEmptyHanded (shape : Shape) (v : FabricView) : Type 0 where
  pub chunks : v.chunks ≡ []
  pub items : (queue : ℕ) (f : ℕ → ℕ) → held_at queue f v ≡ popped_at shape queue f v

abbrev pub IsIdle : Shape → FabricView → Type 0
IsIdle shape v = v.works ≡ [] → IsEmptyHanded shape v

-- of an engine's lists: a posted stream that is neither cancelled nor abandoned, and whose last part it hasn't received
pub record AwaitsReply (lists : SeatLists) (stream : ℕ) : Type 0 where
  pub was_posted : 1 ≤ times stream lists.posted
  pub uncancelled : times stream lists.cancelled ≡ 0
  pub unabandoned : times stream lists.abandoned ≡ 0
  pub unreceived : has_last stream lists.received ≡ false

-- Each of those is in one view's works, that of its poster.
abbrev pub PostsInWork : Core → List FabricView → Type 0
PostsInWork core views =
    (engine stream : ℕ) → AwaitsReply (seat_of core engine) stream → 1 ≤ weigh (draw_at stream) views
