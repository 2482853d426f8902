-- What a view says, for the parts of the rule: its log by what it is about, and weights of what it has.
use Rattle.nncq_ring.specs.Words.{Words}
use Rattle.std.specs.Prelude.{ℕ, ◌+◌, ◌≡◌, ◌≢◌, ◌≤◌, ◌==◌, ◌&&◌, ◌⊎◌, Bool, true, false, cond, if◌then◌else◌, nat_lt, List, [], ◌∷◌, flat_map, length, Option, Some, None}
use Rattle.unit_model.specs.Shapes.{role_in}
use Rattle.unit_model.specs.Weights.{weigh, one_if, is_number}
use Rattle.unit_model.specs.declared.shape.Shape.{Shape}
use Rattle.nncq_ring.specs.declared.view.RingEvent.{RingEvent}
use Rattle.chunk_map.specs.Looks.{open_seen}
use Rattle.chunk_map.specs.declared.view.MapEvent.{MapEvent}
use Rattle.app_queue.specs.Arms.{Arm}
use Rattle.app_queue.specs.Queues.{QueueWords}
use Rattle.app_queue.specs.Queues.{Shape as QueuesShape}
use Rattle.app_queue.specs.Views.{last_tag, last_run, last_part, is_armed, items_after}
use Rattle.app_queue.specs.declared.side.Side.{Side}
use Rattle.app_queue.specs.declared.side.Side.TheVariants.{Free, Line}
use Rattle.app_queue.specs.declared.view.ItemEvent.{ItemEvent}
use Rattle.unit_model.specs.Holding.{items_of}
use Rattle.fabric_words.specs.Places.{queues_of, ring_of}
use Rattle.fabric_words.specs.declared.place.Place.{Place}
use Rattle.fabric_words.specs.declared.place.Place.TheVariants.{Tag, RunWord, PartWord}
use Rattle.fabric_words.specs.declared.place.Side.{Side as WordSide}
use Rattle.fabric_words.specs.declared.place.Side.TheVariants.{FreeSide, LineSide}
use Rattle.fabric_rule.specs.declared.event.FabricEvent.{FabricEvent}
use Rattle.fabric_rule.specs.declared.event.FabricEvent.TheVariants.{SawNext, AtRing, AtItem, AtMap}
use Rattle.fabric_rule.specs.declared.event.Segments.{Segments}
use Rattle.fabric_rule.specs.declared.event.Segments.TheVariants.{Out, Back}
use Rattle.fabric_rule.specs.declared.view.ArmNote.{ArmNote}
use Rattle.fabric_rule.specs.declared.view.Ledger.{Ledger}
use Rattle.fabric_rule.specs.declared.view.FabricView.{FabricView}
use Rattle.fabric_rule.specs.declared.view.HeldItem.{HeldItem}
use Rattle.fabric_rule.specs.declared.view.KeptItem.{KeptItem}
use Rattle.fabric_rule.specs.declared.view.Posting.{Posting}
use Rattle.fabric_rule.specs.declared.view.Work.{Work}
use Rattle.fabric_rule.specs.declared.view.Work.TheVariants.{Drawn, Posted, Taken, Sending, Holding}

-- ---- the fabric's queues, as the parts of queues name them

abbrev pub word_side : Side → WordSide
word_side Free = FreeSide
word_side Line = LineSide

abbrev pub queues_in : Shape → QueuesShape
queues_in shape = record { queues = queues_of shape; items = items_of shape }

abbrev pub ring_in : (Place → ℕ) → ℕ → Side → Words
ring_in word queue side = ring_of word queue (word_side side)

abbrev pub tag_in : (Place → ℕ) → ℕ → ℕ → ℕ
tag_in word queue item = word (Tag queue item)

abbrev pub run_in : (Place → ℕ) → ℕ → ℕ → ℕ
run_in word queue item = word (RunWord queue item)

abbrev pub part_in : (Place → ℕ) → ℕ → ℕ → ℕ
part_in word queue item = word (PartWord queue item)

abbrev pub words_in : (Place → ℕ) → QueueWords
words_in word = record {
  ring = ring_in word;
  tag = tag_in word;
  run = run_in word;
  part = part_in word;
}

-- ---- the log by what it is about, newest first

abbrev pub is_side : Side → Side → Bool
is_side Free Free = true
is_side Free Line = false
is_side Line Free = false
is_side Line Line = true

-- what the seat noted of a ring
abbrev pub ring_log : ℕ → Side → List FabricEvent → List RingEvent
ring_log queue side [] = []
ring_log queue side (SawNext stream ∷ es) = ring_log queue side es
ring_log queue side (AtRing q s e ∷ es) =
    cond (q == queue && is_side s side) (e ∷ ring_log queue side es) (ring_log queue side es)
ring_log queue side (AtItem q e ∷ es) = ring_log queue side es
ring_log queue side (AtMap m e ∷ es) = ring_log queue side es

-- what it did to the items of a queue: an item that is taken from a ring was got
abbrev pub item_log : ℕ → List FabricEvent → List ItemEvent
item_log queue [] = []
item_log queue (SawNext stream ∷ es) = item_log queue es
item_log queue (AtRing q side e ∷ es) =
    cond (q == queue) (items_after side e (item_log queue es)) (item_log queue es)
item_log queue (AtItem q e ∷ es) = cond (q == queue) (e ∷ item_log queue es) (item_log queue es)
item_log queue (AtMap m e ∷ es) = item_log queue es

abbrev pub is_same_segments : Segments → Segments → Bool
is_same_segments Out Out = true
is_same_segments Out Back = false
is_same_segments Back Out = false
is_same_segments Back Back = true

-- what it did at the map of these segments
abbrev pub map_log : Segments → List FabricEvent → List MapEvent
map_log segments [] = []
map_log segments (SawNext stream ∷ es) = map_log segments es
map_log segments (AtRing q side e ∷ es) = map_log segments es
map_log segments (AtItem q e ∷ es) = map_log segments es
map_log segments (AtMap m e ∷ es) =
    cond (is_same_segments m segments) (e ∷ map_log segments es) (map_log segments es)

abbrev pub log_at : ℕ → Side → FabricView → List RingEvent
log_at queue side v = ring_log queue side v.log

-- the newest number of open segments that it saw
abbrev pub open_noted : Segments → FabricView → ℕ
open_noted segments v = open_seen (map_log segments v.log)

-- ---- what it knows of an item's words since it got the item

abbrev pub tag_said : ℕ → FabricView → ℕ → ℕ → Type 0
tag_said queue v item x = last_tag item (item_log queue v.log) ≡ Some x

abbrev pub run_said : ℕ → FabricView → ℕ → ℕ → Type 0
run_said queue v item x = last_run item (item_log queue v.log) ≡ Some x

abbrev pub part_said : ℕ → FabricView → ℕ → ℕ → Type 0
part_said queue v item x = last_part item (item_log queue v.log) ≡ Some x

-- ---- items in hand

-- what the items of a queue weigh that the view has, but for those that it keeps for good
abbrev pub held_at : ℕ → (ℕ → ℕ) → FabricView → ℕ
held_at queue f v = weigh (λ (h : HeldItem). cond (h.queue == queue) (f h.item) 0) v.items

-- what those weigh that it keeps, each by the seat that kept it
abbrev pub kept_at : ℕ → (ℕ → ℕ → ℕ) → FabricView → ℕ
kept_at queue f v =
    weigh (λ (h : KeptItem). cond (h.queue == queue) (f h.seat h.item) 0) v.kept

-- and what all of them weigh, by seat and item
abbrev pub hand_at : ℕ → (ℕ → ℕ → ℕ) → FabricView → ℕ
hand_at queue f v = held_at queue (f v.seat) v + kept_at queue f v

-- 1 where the item was got from the free ring at this place
abbrev pub is_got : ℕ → ℕ → ℕ → HeldItem → ℕ
is_got queue item place h =
    one_if (is_side h.side Free && (h.queue == queue && (h.item == item && h.place == place)))

-- the view has the item from the free ring, at this place, and hasn't armed it since
abbrev pub got_at : ℕ → FabricView → ℕ → ℕ → Type 0
got_at queue v item place =
    (1 ≤ weigh (is_got queue item place) v.items)
    × (is_armed item (item_log queue v.log) ≡ false)

-- ---- chunks, arms

abbrev pub chunks_at : (ℕ → ℕ → ℕ) → FabricView → ℕ
chunks_at f v = weigh (f v.seat) v.chunks

abbrev pub arm_from : ArmNote → Arm
arm_from a = record {
  item = a.item;
  place = a.place;
  stream = a.stream;
  run = a.run;
  part = a.part;
}

abbrev pub arms_among : ℕ → List ArmNote → List Arm
arms_among queue [] = []
arms_among queue (a ∷ rest) =
    cond (a.queue == queue) (arm_from a ∷ arms_among queue rest) (arms_among queue rest)

-- the arms of a queue's items
abbrev pub arms_at : ℕ → FabricView → List Arm
arms_at queue v = arms_among queue v.arms

-- how often the stream was armed on the line, and how often with this item
abbrev pub posts_at : ℕ → FabricView → ℕ
posts_at stream v = weigh (λ (a : Arm). is_number stream a.stream) (arms_at 0 v)

abbrev pub posts_of : ℕ → ℕ → List ArmNote → ℕ
posts_of stream item arms =
    weigh (λ (a : Arm). one_if (a.stream == stream && a.item == item)) (arms_among 0 arms)

-- What the seat knows of an item's tag is so, but for a line item that isn't with its poster: who posted it may take its tag to 0. The
-- poster is the view that has the arm.
abbrev pub tag_kept : Shape → ℕ → FabricView → ℕ → ℕ → Type 0
tag_kept shape queue v item x =
    tag_said queue v item x
    × ((queue ≢ 0) ⊎ ((role_in shape v.seat ≡ 0) × (1 ≤ posts_of x item v.arms)))

-- the later one of two arms
abbrev pub later_arm : ArmNote → Option ArmNote → Option ArmNote
later_arm a None = Some a
later_arm a (Some b) = if nat_lt a.place b.place then Some b else Some a

-- of an item's arms the one with the greatest get place
abbrev pub latest_arm : ℕ → ℕ → List ArmNote → Option ArmNote
latest_arm queue item [] = None
latest_arm queue item (a ∷ rest) =
    if a.queue == queue && a.item == item
    then later_arm a (latest_arm queue item rest)
    else latest_arm queue item rest

abbrev pub stream_of_arm : Option ArmNote → ℕ
stream_of_arm None = 0
stream_of_arm (Some a) = a.stream

-- the arms of all views
abbrev pub all_arms : List FabricView → List ArmNote
all_arms views = flat_map (λ (v : FabricView). v.arms) views

-- the stream of an item's latest arm over all views, 0 without one
abbrev pub last_stream : List FabricView → ℕ → ℕ → ℕ
last_stream views queue item = stream_of_arm (latest_arm queue item (all_arms views))

-- ---- records

-- how many records of the stream the view has
abbrev pub records_at : ℕ → FabricView → ℕ
records_at stream v = weigh (λ (p : Posting). is_number stream p.stream) v.records

-- ---- lists and works

-- how often the view has the lists of this seat number
abbrev pub lists_at : ℕ → FabricView → ℕ
lists_at number v = weigh (λ (c : Ledger). is_number number c.seat) v.ledgers

-- how many open works its lists count for this number
abbrev pub opens_at : ℕ → FabricView → ℕ
opens_at number v = weigh (λ (c : Ledger). cond (c.seat == number) c.opened_works 0) v.ledgers

-- and how many works of this number it has
abbrev pub works_at : ℕ → FabricView → ℕ
works_at number v = cond (v.seat == number) (length v.works) 0

-- 1 for a work of who drew or posted this stream, and of who took it
abbrev pub draw_weight : ℕ → Work → ℕ
draw_weight stream (Drawn s) = is_number stream s
draw_weight stream (Posted s item) = is_number stream s
draw_weight stream (Taken s poster parts) = 0
draw_weight stream (Sending s poster parts last item) = 0
draw_weight stream Holding = 0

abbrev pub take_weight : ℕ → Work → ℕ
take_weight stream (Drawn s) = 0
take_weight stream (Posted s item) = 0
take_weight stream (Taken s poster parts) = is_number stream s
take_weight stream (Sending s poster parts last item) = is_number stream s
take_weight stream Holding = 0

abbrev pub draw_at : ℕ → FabricView → ℕ
draw_at stream v = weigh (draw_weight stream) v.works

abbrev pub take_at : ℕ → FabricView → ℕ
take_at stream v = weigh (take_weight stream) v.works

-- the queue whose line a seat of this number empties
abbrev pub emptied_by : Shape → ℕ → ℕ
emptied_by shape number = cond (role_in shape number == 0) (1 + number) 0

-- what the items of a queue weigh that main seats popped and have neither settled nor handed on
abbrev pub popped_at : Shape → ℕ → (ℕ → ℕ) → FabricView → ℕ
popped_at shape queue f v =
    weigh (λ (c : Ledger). cond (emptied_by shape c.seat == queue) (weigh f c.popped) 0) v.ledgers

-- ---- views

-- one event more
abbrev pub logged : FabricEvent → FabricView → FabricView
logged e v = record v { log = e ∷ v.log }

-- nothing held, and nothing done, in a fabric of this shape
abbrev pub empty : Shape → FabricView
empty shape = record {
  shape = shape;
  seat = 0;
  ledgers = [];
  works = [];
  chunks = [];
  items = [];
  kept = [];
  arms = [];
  records = [];
  log = [];
}
