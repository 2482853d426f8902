-- What a clock has shown.
use Rattle.std.specs.Prelude.{◌≡◌, ℕ, ◌+◌, ◌-◌, ◌==◌, ◌<◌, ◌≤◌, nat_lt, Bool, false, List, [], ◌∷◌, ◌++◌, length, take, fold, slice_index_or, if◌then◌else◌, Option, Some}
use Rattle.std.specs.List.Sorted.{IsNonDecreasing}

-- the last of the readings is this one
abbrev pub ends_in : ℕ → List ℕ → Bool
ends_in reading [] = false
ends_in reading (r ∷ []) = r == reading
ends_in reading (r ∷ s ∷ rs) = ends_in reading (s ∷ rs)

-- the readings with this one behind them, where it isn't the last one already
abbrev pub noted : List ℕ → ℕ → List ℕ
noted readings reading = if ends_in reading readings then readings else readings ++ reading ∷ []

-- where the readings are told, this one was noted
abbrev pub Notes : Option (List ℕ) → Option (List ℕ) → ℕ → Type 0
Notes old new reading =
    (readings : List ℕ) → old ≡ Some readings → new ≡ Some (noted readings reading)

-- a clock over memory: what it shows, one a call, and how many of them it has shown
pub record Showing : Type 0 where
  pub script : List ℕ
  pub shown : ℕ

-- a clock that has something to show, and never falls
pub record IsClock (c : Showing) : Type 0 where
  pub some : 0 < length c.script
  pub within : c.shown ≤ length c.script
  pub rising : IsNonDecreasing c.script

-- how many it has shown after the next call; the last one repeats
abbrev pub shown_after : Showing → ℕ
shown_after c = if nat_lt c.shown (length c.script) then c.shown + 1 else c.shown

-- what the next call shows
abbrev pub shown_next : Showing → ℕ
shown_next c = slice_index_or c.script (shown_after c - 1) 0

abbrev pub after_showing : Showing → Showing
after_showing c = record c { shown = shown_after c }

-- what it showed last, or 0
abbrev pub last_shown : Showing → ℕ
last_shown c = if c.shown == 0 then 0 else slice_index_or c.script (c.shown - 1) 0

-- what it showed, each reading noted
abbrev pub readings_shown : Showing → List ℕ
readings_shown c = fold noted [] (take c.shown c.script)
