-- Steps made on the words of a fabric, one after another.
use Rattle.std.specs.Prelude.{ℕ, ◌≡◌, ◌≤◌, ◌<◌, ◌^◌, List, [], ◌∷◌, ◌++◌}
use Rattle.unit_model.specs.Limits.{segment_chunks}
use Rattle.unit_model.specs.Running.{AllEnabled, after_steps}
use Rattle.unit_model.specs.Runs.{chunks_for}
use Rattle.unit_model.specs.Soundness.{IsSound}
use Rattle.unit_model.specs.declared.machine.Core.{Core}
use Rattle.unit_model.specs.declared.machine.Step.{Step}
use Rattle.unit_model.specs.declared.machine.Step.TheVariants.{Draw, Claim, Release, Open, GetItem, SetRun, SetPart, Arm, Push, Pop, Settle, GiveItem, Abandon}
use Rattle.unit_model.specs.declared.shape.Shape.{Shape}
use Rattle.fabric_words.specs.Makes.{IsPlaced}
use Rattle.fabric_words.specs.Offsets.{word_in}
use Rattle.fabric_words.specs.Shown.{Shows}
use Rattle.fabric_words.specs.declared.place.Place.{Place}
use Rattle.fabric_words.specs.declared.place.Place.TheVariants.{Tail}
use Rattle.fabric_words.specs.declared.place.Side.TheVariants.{FreeSide, LineSide}
use Rattle.plain_fabric.specs.Schedule.{place_behind}
use Rattle.plain_fabric.specs.declared.message.Message.{Message}

-- where the step puts an entry, the ring's tail was moved on to its place
abbrev pub TailIsOn : (Place → ℕ) → Step → Type 0
TailIsOn word (Draw seat stream) = Unit {0}
TailIsOn word (Claim seat segment chunk) = Unit {0}
TailIsOn word (Release seat segment chunk) = Unit {0}
TailIsOn word (Open seat count) = Unit {0}
TailIsOn word (GetItem seat queue item place) = Unit {0}
TailIsOn word (SetRun seat queue item run) = Unit {0}
TailIsOn word (SetPart seat queue item part) = Unit {0}
TailIsOn word (Arm seat queue item stream) = Unit {0}
TailIsOn word (Push seat queue item place) = place ≤ word (Tail queue LineSide)
TailIsOn word (Pop seat queue item place) = Unit {0}
TailIsOn word (Settle seat queue item stream) = Unit {0}
TailIsOn word (GiveItem seat queue item place) = place ≤ word (Tail queue FreeSide)
TailIsOn word (Abandon seat stream) = Unit {0}

-- the words that the steps change are there
abbrev pub AllPlaced : Shape → List Step → Type 0
AllPlaced shape [] = Unit {0}
AllPlaced shape (step ∷ steps) = IsPlaced shape step × AllPlaced shape steps

-- the words show this core, which is a sound one of the shape
pub record IsShown (shape : Shape) (words : List ℕ) (core : Core) : Type 0 where
  pub shape_is : core.shape ≡ shape
  pub sound : IsSound core
  pub shows : Shows (word_in shape words) core

-- where the words showed a core of which each step is enabled in its turn, they show the core behind the steps
abbrev pub MakesAll : Shape → List ℕ → List ℕ → List Step → Type 0
MakesAll shape words words' steps =
    (core : Core) → IsShown shape words core → AllEnabled core steps
    → IsShown shape words' (after_steps core steps)

-- the steps were made, and stand behind the trace
pub record Goes (shape : Shape) (words words' : List ℕ) (trace trace' steps : List Step) : Type 0 where
  pub made : MakesAll shape words words' steps
  pub listed : trace' ≡ trace ++ steps

-- what the numbers of a message keep to
pub record CanGo (shape : Shape) (m : Message) : Type 0 where
  pub queue : m.queue ≤ 1
  pub early : place_behind shape m < 2 ^ 63
  pub fits : chunks_for m.size ≤ segment_chunks
