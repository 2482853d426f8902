-- What steps at items and rings leave of a core.
use Rattle.std.proofs.Common.{ℕ, ◌≡◌, refl}
use Rattle.unit_model.specs.Core.{owner_of}
use Rattle.unit_model.specs.Effects.{after_step, with_free, with_in_line, with_item, without_first_free, without_first_in_line}
use Rattle.unit_model.specs.declared.machine.Core.{Core}
use Rattle.unit_model.specs.declared.machine.Step.TheVariants.{GetItem, GiveItem, Pop, Push, SetPart, SetRun}
use Rattle.unit_model.specs.declared.runs.Run.{Run}
use Rattle.fabric_rule.specs.FrameLaws.{SameLists}

-- seats' lists, who owns which chunk, and which segments are open
pub record LeavesSeats (core core' : Core) : Type 0 where
  pub lists : SameLists core core'
  pub owners : (chunk : ℕ) → owner_of core' chunk ≡ owner_of core chunk
  pub opened : core'.opened ≡ core.opened

module _ (core : Core) (seat queue item : ℕ) where
  pub get_leaves : (place : ℕ) → LeavesSeats core (after_step core (GetItem seat queue item place))
  unfolding after_step with_item without_first_free
  get_leaves place = record { lists = record { shape = refl; seats = refl }; owners = λ chunk. refl; opened = refl }

  pub pop_leaves : (place : ℕ) → LeavesSeats core (after_step core (Pop seat queue item place))
  unfolding after_step with_item without_first_in_line
  pop_leaves place = record { lists = record { shape = refl; seats = refl }; owners = λ chunk. refl; opened = refl }

  pub push_leaves : (place : ℕ) → LeavesSeats core (after_step core (Push seat queue item place))
  unfolding after_step with_item with_in_line
  push_leaves place = record { lists = record { shape = refl; seats = refl }; owners = λ chunk. refl; opened = refl }

  pub give_leaves : (place : ℕ) → LeavesSeats core (after_step core (GiveItem seat queue item place))
  unfolding after_step with_item with_free
  give_leaves place = record { lists = record { shape = refl; seats = refl }; owners = λ chunk. refl; opened = refl }

  pub run_leaves : (run : Run) → LeavesSeats core (after_step core (SetRun seat queue item run))
  unfolding after_step with_item
  run_leaves run = record { lists = record { shape = refl; seats = refl }; owners = λ chunk. refl; opened = refl }

  pub part_leaves : (part : ℕ) → LeavesSeats core (after_step core (SetPart seat queue item part))
  unfolding after_step with_item
  part_leaves part = record { lists = record { shape = refl; seats = refl }; owners = λ chunk. refl; opened = refl }
