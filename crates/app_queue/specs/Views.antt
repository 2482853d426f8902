-- What a seat of a queue knows: the items that it holds, and its events, newest first.
use Rattle.std.specs.Prelude.{ℕ, ◌+◌, ◌*◌, ◌≡◌, ◌<◌, ◌==◌, ◌++◌, Bool, true, false, cond, IsTrue, List, [], ◌∷◌, Option, Some, None}
use mathlib.Core.Path.{ap, sym, subst, ◌∙◌, refl}
use Rattle.unit_model.specs.Sharing.{Holds}
use Rattle.unit_model.specs.Weights.{weigh}
use Rattle.nncq_ring.specs.declared.view.RingEvent.{RingEvent}
use Rattle.nncq_ring.specs.declared.view.RingEvent.TheVariants.{SawTail, SawHead, SawEntry, Pushed, Popped}
use Rattle.nncq_ring.specs.Turns.{IsLook}
use Rattle.nncq_ring.specs.Views.{held_after, push_weight, pop_weight}
use Rattle.app_queue.specs.declared.side.Side.{Side}
use Rattle.app_queue.specs.declared.side.Side.TheVariants.{Free, Line}
use Rattle.app_queue.specs.declared.view.ItemEvent.{ItemEvent}
use Rattle.app_queue.specs.declared.view.ItemEvent.TheVariants.{Taken, RunNoted, PartNoted, TagNoted, Armed, Won, Gone}
use Rattle.app_queue.specs.declared.view.QueueView.{QueueView}

-- ---- what the events say of an item since the seat got it

-- the tag of an item that was got from this ring: 0 from the free ring, and not known from the line
abbrev pub tag_got : Side → Option ℕ
tag_got Free = Some 0
tag_got Line = None

-- The tag that the seat last saw or made.
abbrev pub last_tag : ℕ → List ItemEvent → Option ℕ
last_tag item [] = None
last_tag item (Taken side i place ∷ es) = cond (i == item) (tag_got side) (last_tag item es)
last_tag item (RunNoted i x ∷ es) = last_tag item es
last_tag item (PartNoted i x ∷ es) = last_tag item es
last_tag item (TagNoted i x ∷ es) = cond (i == item) (Some x) (last_tag item es)
last_tag item (Armed i stream ∷ es) = cond (i == item) (Some stream) (last_tag item es)
last_tag item (Won i stream ∷ es) = cond (i == item) (Some 0) (last_tag item es)
last_tag item (Gone i stream found ∷ es) = cond (i == item) (Some found) (last_tag item es)

-- the run, and the part
abbrev pub last_run : ℕ → List ItemEvent → Option ℕ
last_run item [] = None
last_run item (Taken side i place ∷ es) = cond (i == item) None (last_run item es)
last_run item (RunNoted i x ∷ es) = cond (i == item) (Some x) (last_run item es)
last_run item (PartNoted i x ∷ es) = last_run item es
last_run item (TagNoted i x ∷ es) = last_run item es
last_run item (Armed i stream ∷ es) = last_run item es
last_run item (Won i stream ∷ es) = last_run item es
last_run item (Gone i stream found ∷ es) = last_run item es

abbrev pub last_part : ℕ → List ItemEvent → Option ℕ
last_part item [] = None
last_part item (Taken side i place ∷ es) = cond (i == item) None (last_part item es)
last_part item (RunNoted i x ∷ es) = last_part item es
last_part item (PartNoted i x ∷ es) = cond (i == item) (Some x) (last_part item es)
last_part item (TagNoted i x ∷ es) = last_part item es
last_part item (Armed i stream ∷ es) = last_part item es
last_part item (Won i stream ∷ es) = last_part item es
last_part item (Gone i stream found ∷ es) = last_part item es

-- the seat armed the item since it got it
abbrev pub is_armed : ℕ → List ItemEvent → Bool
is_armed item [] = false
is_armed item (Taken side i place ∷ es) = cond (i == item) false (is_armed item es)
is_armed item (RunNoted i x ∷ es) = is_armed item es
is_armed item (PartNoted i x ∷ es) = is_armed item es
is_armed item (TagNoted i x ∷ es) = is_armed item es
is_armed item (Armed i stream ∷ es) = cond (i == item) true (is_armed item es)
is_armed item (Won i stream ∷ es) = is_armed item es
is_armed item (Gone i stream found ∷ es) = is_armed item es

abbrev pub arm_weight : (ℕ → ℕ → ℕ) → ItemEvent → ℕ
arm_weight f (Taken side i place) = 0
arm_weight f (RunNoted i x) = 0
arm_weight f (PartNoted i x) = 0
arm_weight f (TagNoted i x) = 0
arm_weight f (Armed i stream) = f i stream
arm_weight f (Won i stream) = 0
arm_weight f (Gone i stream found) = 0

abbrev pub win_weight : (ℕ → ℕ → ℕ) → ItemEvent → ℕ
win_weight f (Taken side i place) = 0
win_weight f (RunNoted i x) = 0
win_weight f (PartNoted i x) = 0
win_weight f (TagNoted i x) = 0
win_weight f (Armed i stream) = 0
win_weight f (Won i stream) = f i stream
win_weight f (Gone i stream found) = 0

abbrev pub run_weight : (ℕ → ℕ → ℕ) → ItemEvent → ℕ
run_weight f (Taken side i place) = 0
run_weight f (RunNoted i x) = f i x
run_weight f (PartNoted i x) = 0
run_weight f (TagNoted i x) = 0
run_weight f (Armed i stream) = 0
run_weight f (Won i stream) = 0
run_weight f (Gone i stream found) = 0

abbrev pub part_weight : (ℕ → ℕ → ℕ) → ItemEvent → ℕ
part_weight f (Taken side i place) = 0
part_weight f (RunNoted i x) = 0
part_weight f (PartNoted i x) = f i x
part_weight f (TagNoted i x) = 0
part_weight f (Armed i stream) = 0
part_weight f (Won i stream) = 0
part_weight f (Gone i stream found) = 0

-- ---- what a view says, for the parts of the rule: there is one queue

abbrev pub held_by : (ℕ → ℕ) → QueueView → ℕ
held_by f v = weigh f v.held

abbrev pub held_of : ℕ → (ℕ → ℕ) → QueueView → ℕ
held_of q f v = held_by f v

abbrev pub log_at : Side → QueueView → List RingEvent
log_at Free v = v.free
log_at Line v = v.line

abbrev pub log_of : ℕ → Side → QueueView → List RingEvent
log_of q side v = log_at side v

-- what the places with items weigh that were filled in a ring, and that were emptied
abbrev pub pushes_of : ℕ → Side → (ℕ → ℕ → ℕ) → QueueView → ℕ
pushes_of q side g v = weigh (push_weight g) (log_at side v)

abbrev pub pops_of : ℕ → Side → (ℕ → ℕ → ℕ) → QueueView → ℕ
pops_of q side g v = weigh (pop_weight g) (log_at side v)

abbrev pub arms_of : ℕ → (ℕ → ℕ → ℕ) → QueueView → ℕ
arms_of q f v = weigh (arm_weight f) v.items + weigh (arm_weight f) v.joined

abbrev pub wins_of : ℕ → (ℕ → ℕ → ℕ) → QueueView → ℕ
wins_of q f v = weigh (win_weight f) v.items + weigh (win_weight f) v.joined

-- what the notes of runs weigh, and those of parts
abbrev pub run_notes_of : ℕ → (ℕ → ℕ → ℕ) → QueueView → ℕ
run_notes_of q f v = weigh (run_weight f) v.items + weigh (run_weight f) v.joined

abbrev pub part_notes_of : ℕ → (ℕ → ℕ → ℕ) → QueueView → ℕ
part_notes_of q f v = weigh (part_weight f) v.items + weigh (part_weight f) v.joined

abbrev pub tag_said : ℕ → QueueView → ℕ → ℕ → Type 0
tag_said q v item x = last_tag item v.items ≡ Some x

abbrev pub run_said : ℕ → QueueView → ℕ → ℕ → Type 0
run_said q v item x = last_run item v.items ≡ Some x

abbrev pub part_said : ℕ → QueueView → ℕ → ℕ → Type 0
part_said q v item x = last_part item v.items ≡ Some x

-- each item that the view holds has its words in a table of so many words
abbrev pub HoldsBelow : ℕ → QueueView → Type 0
HoldsBelow words v = (item : ℕ) → Holds held_by item v → 112 + 5 * item < words

-- ---- views

-- nothing held, and nothing done
abbrev pub empty : QueueView
empty = record { held = []; free = []; line = []; items = []; joined = [] }

-- one event at an item more
abbrev pub after : ItemEvent → QueueView → QueueView
after e v = record { held = v.held; free = v.free; line = v.line; items = e ∷ v.items; joined = v.joined }

-- with what the other one did
abbrev pub together : QueueView → QueueView → QueueView
together v w = record { held = v.held; free = v.free ++ w.free; line = v.line ++ w.line; items = v.items; joined = w.items ++ w.joined ++ v.joined }

-- what a settle tells where it found this tag
abbrev pub settling : ℕ → ℕ → ℕ → ItemEvent
settling item stream found = cond (found == stream) (Won item stream) (Gone item stream found)

-- ---- what an event at a ring makes of a view

-- the log of the second ring after an event at the first
abbrev pub note_at : Side → Side → RingEvent → List RingEvent → List RingEvent
note_at Free Free e log = e ∷ log
note_at Free Line e log = log
note_at Line Free e log = log
note_at Line Line e log = e ∷ log

-- an item that is taken was got
abbrev pub items_after : Side → RingEvent → List ItemEvent → List ItemEvent
items_after side (SawTail tail) items = items
items_after side (SawHead head) items = items
items_after side (SawEntry place entry) items = items
items_after side (Pushed place item) items = items
items_after side (Popped place item) items = Taken side item place ∷ items

abbrev pub does : Side → RingEvent → QueueView → QueueView
does side e v = record { held = held_after e v.held; free = note_at side Free e v.free; line = note_at side Line e v.line; items = items_after side e v.items; joined = v.joined }

-- the second view is what the event at this ring makes of the first
abbrev pub makes : Side → RingEvent → QueueView → QueueView → Type 0
makes side e v u = u ≡ does side e v

pub does_logs : (side : Side) (e : RingEvent) (v : QueueView) → log_at side (does side e v) ≡ e ∷ log_at side v
does_logs Free e v = refl
does_logs Line e v = refl

pub makes_logs : (side : Side) (e : RingEvent) (v u : QueueView) → makes side e v u → log_at side u ≡ e ∷ log_at side v
makes_logs side e v u is = ap (log_at side) is ∙ does_logs side e v

-- ---- which items may be put in which ring

-- in the free ring one whose tag is 0, and in the line one that the seat armed
abbrev pub FitsRing : Side → Option ℕ → Bool → Type 0
FitsRing Free tag armed = tag ≡ Some 0
FitsRing Line tag armed = IsTrue armed

abbrev pub MayPut : Side → ℕ → QueueView → Type 0
MayPut side item v = Holds held_by item v × FitsRing side (last_tag item v.items) (is_armed item v.items)

look_may_put : (side : Side) (e : RingEvent) (item : ℕ) (v : QueueView) → IsLook e → MayPut side item v → MayPut side item (does side e v)
look_may_put side (SawTail tail) item v look may = may
look_may_put side (SawHead head) item v look may = may
look_may_put side (SawEntry place entry) item v look may = may
look_may_put side (Pushed place value) item v look may = absurd (look tt)
look_may_put side (Popped place value) item v look may = absurd (look tt)

pub look_keeps : (side : Side) (e : RingEvent) (item : ℕ) (v u : QueueView) → IsLook e → makes side e v u → MayPut side item v → MayPut side item u
look_keeps side e item v u look is may = subst (MayPut side item) (sym is) (look_may_put side e item v look may)
