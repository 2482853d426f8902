-- The exit statuses of the program and their lines on standard error.
use Rattle.std.specs.Prelude.{ℕ, ◌≡◌, ◌⊎◌, ◌++◌, List, [], ◌∷◌, codes, decimal, Result, Ok, Err}
use Rattle.unit_io.specs.declared.stop.Stop.{Stop}
use Rattle.unit_io.specs.declared.stop.Stop.TheVariants.{Usage, Read, Write, Memory, Input, Illegal}

-- the most bytes that an input may have
abbrev pub input_limit : ℕ
input_limit = 268435456

-- the exit status of each end
abbrev pub status_of : Stop → ℕ
status_of Usage = 2
status_of Read = 3
status_of Write = 4
status_of Memory = 5
status_of (Input place) = 6
status_of Illegal = 8

-- the exit status of what may end early
abbrev pub status_in : {T : Type 0} → Result T Stop → ℕ
status_in (Ok _) = 0
status_in (Err stop) = status_of stop

-- the place of an input that is too long or broken, and 0 where it is neither
abbrev pub place_in : {T : Type 0} → Result T Stop → ℕ
place_in (Ok _) = 0
place_in (Err Usage) = 0
place_in (Err Read) = 0
place_in (Err Write) = 0
place_in (Err Memory) = 0
place_in (Err (Input place)) = place
place_in (Err Illegal) = 0

-- what may end the reading of an input
abbrev pub IsReadStop : Stop → Type 0
IsReadStop stop = (stop ≡ Read) ⊎ ((stop ≡ Memory) ⊎ (stop ≡ Input input_limit))

-- a line of text, with its LF
abbrev pub line : List ℕ → List ℕ
line text = text ++ 10 ∷ []

-- what goes to standard error at each end
abbrev pub line_of : Stop → List ℕ
line_of Usage = line (codes "unit: usage")
line_of Read = line (codes "unit: read")
line_of Write = line (codes "unit: write")
line_of Memory = line (codes "unit: memory")
line_of (Input place) = line (codes "unit: input " ++ decimal place)
line_of Illegal = line (codes "unit: illegal")
