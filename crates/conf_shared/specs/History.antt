-- The history of configurations: the rule that it keeps, and what a step on it tells.
use Rattle.std.specs.Prelude.{ℕ, ◌≡◌, ◌==◌, true, List, [], ◌∷◌, ◌++◌, length, MatchBool}
use Rattle.logbook.specs.Pages.{Cell, Step, View, Book, Named}

module _ {E : Type 0} where
  -- the first word is the length of the history; the other word that a `logbook` has stays 0
  pub record IsKept (cells : List Cell) (log : List E) : Type 0 where
    pub words : cells ≡ (length log, true) ∷ (0, true) ∷ []

  -- the entry was put behind all that had been seen; or the history was longer
  abbrev pub Adds : Step E → View E ℕ → ℕ → View E ℕ → Type 0
  Adds s v found w = MatchBool (found == s.old) (w.0 ≡ v.0 ++ s.ask ∷ []) (length w.0 ≡ found)

-- the word that is the length of this history
abbrev pub head_of : Book → Named
head_of history = record { tracked = true; key = 0; book = history }
