-- The rule of a table that holds one queue: the parts, at this queue. The key is the number of its items and its start.
use Rattle.std.specs.Prelude.{ℕ, ◌≡◌, List, [], length}
use Rattle.atomic_table.specs.Table.{State}
use Rattle.nncq_ring.specs.RingWords.{full_line}
use Rattle.app_queue.specs.declared.side.Side.{Side}
use Rattle.app_queue.specs.declared.side.Side.TheVariants.{Free, Line}
use Rattle.app_queue.specs.declared.view.QueueView.{QueueView}
use Rattle.app_queue.specs.Layout.{word_count, one_queue, queue_words}
use Rattle.app_queue.specs.Parts.{RingParts, RingHistories, ItemsOwned, FreeUntagged, TagsCounted, TagsKnown, WordsKnown, WordsNoted}
use Rattle.app_queue.specs.Views.{held_of, log_of, pushes_of, pops_of, arms_of, wins_of, run_notes_of, part_notes_of, tag_said, run_said, part_said}

-- what stood in the rings at first, with n items from the start on
abbrev pub begun_with : ℕ → ℕ → ℕ → Side → List (ℕ × ℕ)
begun_with n start q Free = full_line start n
begun_with n start q Line = []

-- both rings begin at the start
abbrev pub starts_at : ℕ → ℕ → Side → ℕ
starts_at start q side = start

pub record QueueHolds {S : Type 0} (key : ℕ × ℕ) (s : State S QueueView) : Type 0 where
  pub wide : length s.words ≡ word_count key.0
  pub rings : RingParts log_of (one_queue key.0) (queue_words key.0 s.words).ring s.views
  pub history : RingHistories pushes_of pops_of (starts_at key.1) (begun_with key.0 key.1) (one_queue key.0) (queue_words key.0 s.words).ring s.views
  pub owned : ItemsOwned held_of (one_queue key.0) (queue_words key.0 s.words).ring s.views
  pub free : FreeUntagged (one_queue key.0) (queue_words key.0 s.words).ring (queue_words key.0 s.words).tag
  pub counted : TagsCounted arms_of wins_of (one_queue key.0) (queue_words key.0 s.words).tag s.views
  pub tags : TagsKnown held_of tag_said (one_queue key.0) (queue_words key.0 s.words).tag s.views
  pub runs : WordsKnown held_of run_said (one_queue key.0) (queue_words key.0 s.words).run s.views
  pub parts : WordsKnown held_of part_said (one_queue key.0) (queue_words key.0 s.words).part s.views
  pub noted_runs : WordsNoted run_notes_of (one_queue key.0) (queue_words key.0 s.words).run s.views
  pub noted_parts : WordsNoted part_notes_of (one_queue key.0) (queue_words key.0 s.words).part s.views
