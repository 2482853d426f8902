-- What a seat knows: the items that it holds, and what it did to tags, newest first.
use Rattle.std.specs.Prelude.{ℕ, ◌≡◌, ◌+◌, ◌==◌, ◌++◌, List, [], ◌∷◌, cond}
use Rattle.std.specs.List.{range_with_len}
use Rattle.unit_model.specs.Weights.{weigh}
use Rattle.tracking_word.specs.declared.view.TagEvent.{TagEvent}
use Rattle.tracking_word.specs.declared.view.TagEvent.TheVariants.{Armed, Won, Gone}
use Rattle.tracking_word.specs.declared.view.TagView.{TagView}

-- ---- what one event says

abbrev pub item_of : TagEvent → ℕ
item_of (Armed item stream) = item
item_of (Won item stream) = item
item_of (Gone item stream found) = item

-- the tag of its item right after it
abbrev pub tag_after : TagEvent → ℕ
tag_after (Armed item stream) = stream
tag_after (Won item stream) = 0
tag_after (Gone item stream found) = found

abbrev pub arm_weight : (ℕ → ℕ → ℕ) → TagEvent → ℕ
arm_weight f (Armed item stream) = f item stream
arm_weight f (Won item stream) = 0
arm_weight f (Gone item stream found) = 0

abbrev pub win_weight : (ℕ → ℕ → ℕ) → TagEvent → ℕ
win_weight f (Armed item stream) = 0
win_weight f (Won item stream) = f item stream
win_weight f (Gone item stream found) = 0

-- ---- what a view says

-- The tag that the seat last saw at the item, or gave it. It is 0 where the log has nothing of the item: tags are 0 at
-- first.
abbrev pub last_tag : ℕ → List TagEvent → ℕ
last_tag item [] = 0
last_tag item (e ∷ es) = cond (item_of e == item) (tag_after e) (last_tag item es)

-- what the items held, the arms and the wins weigh
abbrev pub held_by : (ℕ → ℕ) → TagView → ℕ
held_by f v = weigh f v.held

abbrev pub arms_of : (ℕ → ℕ → ℕ) → TagView → ℕ
arms_of f v = weigh (arm_weight f) v.log + weigh (arm_weight f) v.joined

abbrev pub wins_of : (ℕ → ℕ → ℕ) → TagView → ℕ
wins_of f v = weigh (win_weight f) v.log + weigh (win_weight f) v.joined

abbrev pub says : TagView → ℕ → ℕ → Type 0
says v item x = last_tag item v.log ≡ x

-- ---- views

-- every item, and nothing done
abbrev pub whole : ℕ → TagView
whole items = record { held = range_with_len 0 items; log = []; joined = [] }

abbrev pub empty : TagView
empty = record { held = []; log = []; joined = [] }

-- one event more
abbrev pub after : TagEvent → TagView → TagView
after e v = record { held = v.held; log = e ∷ v.log; joined = v.joined }

-- with what the other one did
abbrev pub together : TagView → TagView → TagView
together v w = record { held = v.held; log = v.log; joined = w.log ++ w.joined ++ v.joined }

-- what a settle tells where it found this tag
abbrev pub settling : ℕ → ℕ → ℕ → TagEvent
settling item stream found = cond (found == stream) (Won item stream) (Gone item stream found)
