-- The line of a step in a trace: its name, then its numbers in decimal, each after a space, and LF.
use Rattle.std.specs.Prelude.{ℕ, List, [], ◌∷◌, ◌++◌, codes, decimal}
use Rattle.unit_model.specs.declared.machine.Step.{Step}
use Rattle.unit_model.specs.declared.machine.Step.TheVariants.{Draw, Claim, Release, Open, GetItem, SetRun, SetPart, Arm, Push, Pop, Settle, GiveItem, Abandon}

abbrev pub numbers_text : List ℕ → List ℕ
numbers_text [] = []
numbers_text (number ∷ numbers) = (32 ∷ decimal number) ++ numbers_text numbers

abbrev pub line : List ℕ → List ℕ → List ℕ
line name numbers = (name ++ numbers_text numbers) ++ 10 ∷ []

unfoldable pub line_of : Step → List ℕ
line_of (Draw seat stream) = line (codes "draw") (seat ∷ stream ∷ [])
line_of (Claim seat segment chunk) = line (codes "claim") (seat ∷ segment ∷ chunk ∷ [])
line_of (Release seat segment chunk) = line (codes "release") (seat ∷ segment ∷ chunk ∷ [])
line_of (Open seat count) = line (codes "open") (seat ∷ count ∷ [])
line_of (GetItem seat queue item place) = line (codes "getitem") (seat ∷ queue ∷ item ∷ place ∷ [])
line_of (SetRun seat queue item run) =
    line (codes "setrun") (seat ∷ queue ∷ item ∷ run.segment ∷ run.chunk ∷ run.size ∷ [])
line_of (SetPart seat queue item part) = line (codes "setpart") (seat ∷ queue ∷ item ∷ part ∷ [])
line_of (Arm seat queue item stream) = line (codes "arm") (seat ∷ queue ∷ item ∷ stream ∷ [])
line_of (Push seat queue item place) = line (codes "push") (seat ∷ queue ∷ item ∷ place ∷ [])
line_of (Pop seat queue item place) = line (codes "pop") (seat ∷ queue ∷ item ∷ place ∷ [])
line_of (Settle seat queue item stream) = line (codes "settle") (seat ∷ queue ∷ item ∷ stream ∷ [])
line_of (GiveItem seat queue item place) =
    line (codes "giveitem") (seat ∷ queue ∷ item ∷ place ∷ [])
line_of (Abandon seat stream) = line (codes "abandon") (seat ∷ stream ∷ [])
