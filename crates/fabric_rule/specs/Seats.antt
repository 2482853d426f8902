-- How a fabric's table begins, and how its seats are split and joined. None of it is a step of the
-- machine.
use Rattle.std.specs.Prelude.{ℕ, ◌+◌, ◌-◌, ◌*◌, ◌^◌, ◌≡◌, ◌≢◌, ◌≤◌, ◌<◌, ◌⊎◌, ◌++◌, List, [], ◌∷◌, Option, None, length, map, replicate, set}
use Rattle.std.specs.List.{range_with_len}
use mathlib.Core.Option.{some}
use lib.ListN.{get_elem?}
use Rattle.atomic_table.specs.Table.{State, opening}
use Rattle.app_queue.specs.SeatLaws.{halved, merged}
use Rattle.app_queue.specs.declared.side.Side.TheVariants.{Free}
use Rattle.nncq_ring.specs.declared.view.RingEvent.TheVariants.{SawTail}
use Rattle.request_context.specs.declared.piece.Parcel.{Parcel}
use Rattle.unit_model.specs.Limits.{segment_chunks}
use Rattle.unit_model.specs.Opening.{opened_core}
use Rattle.unit_model.specs.PartOrder.{Each}
use Rattle.unit_model.specs.Shapes.{IsValid, role_in}
use Rattle.unit_model.specs.Sharing.{Holds}
use Rattle.unit_model.specs.declared.machine.Seat.{Seat as SeatLists}
use Rattle.unit_model.specs.declared.shape.Shape.{Shape}
use Rattle.unit_types.specs.declared.message.Reply.{Reply}
use Rattle.unit_types.specs.declared.message.Request.{Request}
use Rattle.fabric_words.specs.Offsets.{width_of, word_in}
use Rattle.fabric_words.specs.Opened.{IsOpened}
use Rattle.fabric_words.specs.Places.{queues_of, segments_of}
use Rattle.fabric_rule.specs.Opening.{first_view, fresh_ledger, ledger_of}
use Rattle.fabric_rule.specs.Parts.{AwaitsReply, IsCauseOf, IsIdle}
use Rattle.fabric_rule.specs.Rule.{FabricHolds}
use Rattle.fabric_rule.specs.Steps.{IsNoStep}
use Rattle.fabric_rule.specs.Views.{empty, held_at, log_at, posts_of, tag_said}
use Rattle.fabric_rule.specs.declared.cause.Refusal.{Refusal}
use Rattle.fabric_rule.specs.declared.view.ArmNote.{ArmNote}
use Rattle.fabric_rule.specs.declared.view.FabricView.{FabricView}
use Rattle.fabric_rule.specs.declared.view.HeldItem.{HeldItem}
use Rattle.fabric_rule.specs.declared.view.KeptItem.{KeptItem}
use Rattle.fabric_rule.specs.declared.view.Ledger.{Ledger}
use Rattle.fabric_rule.specs.declared.view.Work.{Work}
use Rattle.fabric_rule.specs.declared.view.Work.TheVariants.{Drawn, Posted, Taken, Sending, Holding}

-- ---- at first

-- the rule holds, and the core is the one as it begins
pub record IsOpening {H : Type 0} (reply_of : List ℕ → Request → Reply) (shape : Shape) (s : State (Option (Parcel H)) FabricView) : Type 0 where
  pub holds : FabricHolds reply_of shape s
  pub is : holds.core ≡ opened_core shape

-- The words are those of a fabric that was just made, all slots are at home and empty, and one seat
-- has the lists of all numbers.
abbrev pub OpensLaw : (H : Type 0) → Type 0
OpensLaw H = (reply_of : List ℕ → Request → Reply) (shape : Shape) (words : List ℕ) → IsValid shape
    → width_of shape ≤ length words → IsOpened shape (word_in shape words)
    → IsOpening {H = H} reply_of shape (opening words (replicate (segment_chunks * segments_of shape) None) (first_view shape))

-- ---- a main seat's account

-- What changes in it: these works stay, these end, and so many are begun that hold chunks or an
-- item; the seat is refused this, has these items still, and keeps those for good; and this it
-- popped and has neither settled nor handed on.
pub record Account : Type 0 where
  pub stay : List Work
  pub ended : List Work
  pub begun : ℕ
  pub refused : List Refusal
  pub items : List HeldItem
  pub gone : List HeldItem
  pub popped : List ℕ

abbrev pub kept_by : ℕ → HeldItem → KeptItem
kept_by seat h = record { seat = seat; queue = h.queue; item = h.item }

abbrev pub ledger_after : Account → Ledger → Ledger
ledger_after a c = record c {
  refusals = a.refused ++ c.refusals;
  opened_works = c.opened_works + a.begun - length a.ended;
  popped = a.popped;
}

abbrev pub accounted : Account → Ledger → FabricView → FabricView
accounted a c v = record v {
  ledgers = ledger_after a c ∷ [];
  works = replicate a.begun Holding ++ a.stay;
  items = a.items;
  kept = map (kept_by v.seat) a.gone ++ v.kept;
}

-- Each element of the first list is in one of the two others, which have it in its order.
abbrev pub IsShared : {X : Type 0} → List X → List X → List X → Type 0
IsShared [] one other = (one ≡ []) × (other ≡ [])
IsShared {X} (x ∷ xs) one other =
    ((rest : List X) × (one ≡ x ∷ rest) × IsShared xs rest other)
    ⊎ ((rest : List X) × (other ≡ x ∷ rest) × IsShared xs one rest)

-- a work may end where it is no post that still awaits its reply
abbrev pub MayEnd : SeatLists → Work → Type 0
MayEnd lists (Drawn stream) = Unit {0}
MayEnd lists (Posted stream item) = AwaitsReply lists stream → ⊥
MayEnd lists (Taken stream poster parts) = Unit {0}
MayEnd lists (Sending stream poster parts last item) = Unit {0}
MayEnd lists Holding = Unit {0}

-- An item is kept for good where the seat noted its tag as 0, and a tail of its free ring of 2^62
-- or more.
pub record MayKeep (v : FabricView) (h : HeldItem) : Type 0 where
  pub there : h.queue < queues_of v.shape
  pub untagged : tag_said h.queue v h.item 0
  pub seen_at : ℕ
  pub place : ℕ
  pub seen : get_elem? (log_at h.queue Free v) seen_at ≡ some (SawTail place)
  pub worn : 2 ^ 62 ≤ place

-- The seat has the lists of its own number alone. Works end that may, refusals have their causes, a
-- worker may hand on what it popped, and a seat without work has nothing.
pub record MayAccount (a : Account) (c : Ledger) (v : FabricView) : Type 0 where
  pub only : v.ledgers ≡ c ∷ []
  pub number : c.seat ≡ v.seat
  pub works : IsShared v.works a.stay a.ended
  pub may_end : Each (MayEnd c.lists) a.ended
  pub causes : Each (λ (r : Refusal). IsCauseOf v.shape c.seat c.lists r.stream r.cause) a.refused
  pub items : IsShared v.items a.items a.gone
  pub may_keep : Each (MayKeep v) a.gone
  pub popped : (a.popped ≡ c.popped) ⊎ (role_in v.shape v.seat ≢ 0)
  pub idle : IsIdle v.shape (accounted a c v)

abbrev pub AccountLaw : (H : Type 0) → Type 0
AccountLaw H = (reply_of : List ℕ → Request → Reply) (shape : Shape) (s : State (Option (Parcel H)) FabricView)
    (holds : FabricHolds reply_of shape s) (id : ℕ) (v : FabricView) (a : Account) (c : Ledger)
    → get_elem? s.views id ≡ some v → MayAccount a c v
    → IsNoStep reply_of shape s holds (record s { views = set s.views id (accounted a c v) })

-- nothing changed, or an account did
abbrev pub MayBecome : FabricView → FabricView → Type 0
MayBecome v u = (u ≡ v) ⊎ ((a : Account) × (c : Ledger) × (u ≡ accounted a c v) × MayAccount a c v)

-- ---- a seat is split

-- a posted stream's arm is among these
abbrev pub HasItsArm : List ArmNote → Work → Type 0
HasItsArm arms (Drawn stream) = Unit {0}
HasItsArm arms (Posted stream item) = 1 ≤ posts_of stream item arms
HasItsArm arms (Taken stream poster parts) = Unit {0}
HasItsArm arms (Sending stream poster parts last item) = Unit {0}
HasItsArm arms Holding = Unit {0}

-- a seat of another number takes lists alone
pub record TakesListsAlone (v : FabricView) : Type 0 where
  pub role : role_in v.shape v.seat ≤ 1
  pub works : v.works ≡ []
  pub items : v.items ≡ []

-- A view is cut in two. Each of its lists, works, items, kept items and arms is with one of the
-- two; both know what it knew. Its chunks stay, as no slot goes to another seat. A posted stream's
-- work has its arm, and who has no work has nothing.
pub record IsCut (v left right : FabricView) : Type 0 where
  pub left_shape : left.shape ≡ v.shape
  pub right_shape : right.shape ≡ v.shape
  pub left_seat : left.seat ≡ v.seat
  pub right_seat : (right.seat ≡ v.seat) ⊎ TakesListsAlone right
  pub ledgers : IsShared v.ledgers left.ledgers right.ledgers
  pub works : IsShared v.works left.works right.works
  pub left_chunks : left.chunks ≡ v.chunks
  pub right_chunks : right.chunks ≡ []
  pub items : IsShared v.items left.items right.items
  pub kept : IsShared v.kept left.kept right.kept
  pub arms : IsShared v.arms left.arms right.arms
  pub left_records : left.records ≡ v.records
  pub right_records : right.records ≡ v.records
  pub left_log : left.log ≡ v.log
  pub right_log : right.log ≡ v.log
  pub left_arms : Each (HasItsArm left.arms) left.works
  pub right_arms : Each (HasItsArm right.arms) right.works
  pub left_idle : IsIdle v.shape left
  pub right_idle : IsIdle v.shape right

-- an account changes, and then the view is cut
pub record IsParted (v left right : FabricView) : Type 0 where
  pub between : FabricView
  pub becomes : MayBecome v between
  pub cut : IsCut between left right

abbrev pub SplitLaw : (H : Type 0) → Type 0
SplitLaw H = (reply_of : List ℕ → Request → Reply) (shape : Shape) (s : State (Option (Parcel H)) FabricView)
    (holds : FabricHolds reply_of shape s) (id : ℕ) (v left right : FabricView)
    → get_elem? s.views id ≡ some v → IsParted v left right
    → IsNoStep reply_of shape s holds (record s { views = halved s.views id left right })

-- ---- two seats are joined

-- The seat that stays has also what the other one had. It knows of words what it knew, so the other
-- one has no item in hand.
abbrev pub together : FabricView → FabricView → FabricView
together v w = record v {
  ledgers = v.ledgers ++ w.ledgers;
  works = v.works ++ w.works;
  kept = v.kept ++ w.kept;
  arms = v.arms ++ w.arms;
  records = v.records ++ w.records;
}

-- The other one has no chunk and no item, and works only where both are of one number. The seat
-- that stays has itself the arm of each line item that it knows as armed.
pub record MayJoin (v w : FabricView) : Type 0 where
  pub chunks : w.chunks ≡ []
  pub items : w.items ≡ []
  pub works : (w.works ≡ []) ⊎ (w.seat ≡ v.seat)
  pub posts : (item stream : ℕ) → Holds (held_at 0) item v → tag_said 0 v item stream
      → (stream ≡ 0) ⊎ (1 ≤ posts_of stream item v.arms)

-- they are joined, and then an account changes
pub record IsJoined (v w both : FabricView) : Type 0 where
  pub may : MayJoin v w
  pub becomes : MayBecome (together v w) both

abbrev pub JoinLaw : (H : Type 0) → Type 0
JoinLaw H = (reply_of : List ℕ → Request → Reply) (shape : Shape) (s : State (Option (Parcel H)) FabricView)
    (holds : FabricHolds reply_of shape s) (id other : ℕ) (v w both : FabricView)
    → get_elem? s.views id ≡ some v → other ≢ id → get_elem? s.views other ≡ some w
    → IsJoined v w both
    → IsNoStep reply_of shape s holds (record s { views = merged s.views id both other (empty shape) })

-- ---- the views of seats

-- no view: none is told
abbrev pub no_view : FabricView
no_view = empty (record {
  items = 0;
  back_items = 0;
  out_segments = 0;
  back_segments = 0;
  engines = 0;
  workers = 0;
  start = 0;
})

-- all but the first lists
abbrev pub later_ledgers : List Ledger → List Ledger
later_ledgers [] = []
later_ledgers (c ∷ cs) = cs

-- a seat that has nothing and knows what this one knows
abbrev pub knowing : ℕ → FabricView → FabricView
knowing seat v = record (empty v.shape) { seat = seat; records = v.records; log = v.log }

-- The seat has nothing in hand, no work, and nothing popped that it hasn't handed on.
pub record IsAtRest (v : FabricView) : Type 0 where
  pub works : v.works ≡ []
  pub chunks : v.chunks ≡ []
  pub items : v.items ≡ []
  pub popped : Each (λ (c : Ledger). c.popped ≡ []) v.ledgers

-- the first lists leave for a main seat of their number
abbrev pub without_first_lists : FabricView → FabricView
without_first_lists v = record v { ledgers = later_ledgers v.ledgers }

abbrev pub main_of : Ledger → FabricView → FabricView
main_of c v = record (knowing c.seat v) { ledgers = c ∷ [] }

-- the first seat, which has the lists of this number and of those above it still
abbrev pub first_from : Shape → ℕ → FabricView
first_from shape number =
    record (empty shape) { ledgers = map fresh_ledger (range_with_len number (shape.engines + shape.workers - number)) }

-- the main seat of a number that has done nothing
abbrev pub fresh_main : Shape → ℕ → FabricView
fresh_main shape number = record (empty shape) { seat = number; ledgers = fresh_ledger number ∷ [] }

-- The lists leave for a new main seat, with what is kept; what the seat works on stays.
abbrev pub without_lists : FabricView → FabricView
without_lists v = record v { ledgers = []; kept = [] }

abbrev pub lists_of : FabricView → FabricView
lists_of v = record (knowing v.seat v) { ledgers = v.ledgers; kept = v.kept }

-- The works leave for a seat of their own, with the items in hand; the lists and the arms stay.
abbrev pub without_works : FabricView → FabricView
without_works v = record v { works = []; items = [] }

abbrev pub works_of : FabricView → FabricView
works_of v = record (knowing v.seat v) { works = v.works; items = v.items }

-- no work is a post
abbrev pub HasNoPost : List Work → Type 0
HasNoPost works = Each (HasItsArm []) works

-- it has the lists of its own number alone
pub record HasOwnLists (v : FabricView) : Type 0 where
  pub only : v.ledgers ≡ ledger_of v ∷ []
  pub number : (ledger_of v).seat ≡ v.seat

-- a work begins, with what was popped
abbrev pub handing_on : FabricView → Account
handing_on v = record {
  stay = v.works;
  ended = [];
  begun = 1;
  refused = [];
  items = v.items;
  gone = [];
  popped = [];
}

abbrev pub handed : FabricView → FabricView
handed v = accounted (handing_on v) (ledger_of v) v

-- all works end, and the items in hand are kept for good
abbrev pub ending : FabricView → Account
ending v = record {
  stay = [];
  ended = v.works;
  begun = 0;
  refused = [];
  items = [];
  gone = v.items;
  popped = (ledger_of v).popped;
}

abbrev pub ended : FabricView → FabricView
ended v = accounted (ending v) (ledger_of v) v

pub record MayEndAll (v : FabricView) : Type 0 where
  pub lists : HasOwnLists v
  pub may_end : Each (MayEnd (ledger_of v).lists) v.works
  pub may_keep : Each (MayKeep v) v.items
  pub chunks : v.chunks ≡ []
  pub popped : (ledger_of v).popped ≡ []
