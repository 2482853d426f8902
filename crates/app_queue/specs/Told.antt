-- What the steps of a queue's table tell: of the view before, the number that was found, and the view after. n is the number of
-- its items, and `side` the ring that a step is at.
use Rattle.std.specs.Prelude.{ℕ, ◌+◌, ◌/◌, ◌^◌, ◌≡◌, ◌≢◌, ◌≤◌, ◌<◌, ◌⊎◌, Some}
use mathlib.Core.Option.{some}
use lib.ListN.{get_elem?}
use Rattle.unit_model.specs.Sharing.{Holds}
use Rattle.nncq_ring.specs.declared.view.RingEvent.TheVariants.{SawTail, SawHead, SawEntry, Pushed, Popped}
use Rattle.nncq_ring.specs.Moments.{PutLast, TookFirst, WasEmpty, WasEntry, WasHead, WasTail}
use Rattle.nncq_ring.specs.Shown.{SawPlace}
use Rattle.app_queue.specs.declared.side.Side.{Side}
use Rattle.app_queue.specs.declared.view.ItemEvent.TheVariants.{RunNoted, PartNoted, TagNoted}
use Rattle.app_queue.specs.declared.view.QueueView.{QueueView}
use Rattle.app_queue.specs.Views.{held_by, log_at, last_tag, last_run, last_part, after, settling, makes}

-- ---- at a ring

-- the tail was loaded
pub record SeesTail (n : ℕ) (side : Side) (v : QueueView) (found : ℕ) (u : QueueView) : Type 0 where
  pub view : makes side (SawTail found) v u
  pub most : found ≤ 2 ^ 62
  pub was : WasTail n found (log_at side v)

-- the head was loaded
pub record SeesHead (n : ℕ) (side : Side) (v : QueueView) (found : ℕ) (u : QueueView) : Type 0 where
  pub view : makes side (SawHead found) v u
  pub most : found ≤ 2 ^ 62
  pub was : WasHead n found (log_at side v)

-- the entry at the place's slot was loaded
pub record SeesEntry (n : ℕ) (side : Side) (place : ℕ) (v : QueueView) (found : ℕ) (u : QueueView) : Type 0 where
  pub view : makes side (SawEntry place found) v u
  pub was : WasEntry n place found (log_at side v)
  pub near : SawPlace place (log_at side v) → place / n ≤ found / n + 1
  pub none : get_elem? (log_at side v) 0 ≡ some (SawHead place) → found / n + 1 ≡ place / n → WasEmpty n place (log_at side v)

-- the item was put at the place, or the exchange found another entry there, of the place's cycle or a later one
pub record Puts (n : ℕ) (side : Side) (place entry item : ℕ) (v : QueueView) (found : ℕ) (u : QueueView) : Type 0 where
  pub won : found ≡ entry → makes side (Pushed place item) v u × PutLast n place item (log_at side v)
  pub missed : found ≢ entry → makes side (SawEntry place found) v u × (place / n ≤ found / n)

-- the item was taken at the place that the head was, or the exchange found a later head
pub record Takes (n : ℕ) (side : Side) (place item : ℕ) (v : QueueView) (found : ℕ) (u : QueueView) : Type 0 where
  pub won : found ≡ place → makes side (Popped place item) v u × TookFirst n place item (log_at side v)
  pub missed : found ≢ place → makes side (SawHead found) v u × (place < found)

-- the tail is past the place, by this exchange or by another
pub record Helps (side : Side) (place : ℕ) (v u : QueueView) : Type 0 where
  pub tail : ℕ
  pub past : place < tail
  pub view : makes side (SawTail tail) v u

-- ---- at an item

-- a word was loaded by the item's holder: what it last noted of the tag, or 0
pub record SeesTag (item : ℕ) (v : QueueView) (found : ℕ) (u : QueueView) : Type 0 where
  pub view : u ≡ after (TagNoted item found) v
  pub known : (x : ℕ) → last_tag item v.items ≡ Some x → (found ≡ x) ⊎ (found ≡ 0)

-- what it last noted of the run
pub record SeesRun (item : ℕ) (v : QueueView) (found : ℕ) (u : QueueView) : Type 0 where
  pub view : u ≡ after (RunNoted item found) v
  pub known : (x : ℕ) → last_run item v.items ≡ Some x → found ≡ x

-- what it last noted of the part
pub record SeesPart (item : ℕ) (v : QueueView) (found : ℕ) (u : QueueView) : Type 0 where
  pub view : u ≡ after (PartNoted item found) v
  pub known : (x : ℕ) → last_part item v.items ≡ Some x → found ≡ x

-- Won or Gone, by what was found. A seat that holds the item finds what it last noted, or 0.
pub record Settles (item stream : ℕ) (v : QueueView) (found : ℕ) (u : QueueView) : Type 0 where
  pub view : u ≡ after (settling item stream found) v
  pub known : Holds held_by item v → (x : ℕ) → last_tag item v.items ≡ Some x → (found ≡ x) ⊎ (found ≡ 0)
