-- What is left of a pattern and a text behind the pattern's first literal part.
use Rattle.std.specs.Prelude.{ℕ, ◌<◌, ◌≤◌, List, ◌∷◌, ◌++◌, length, ◌≡◌, ◌≢◌, Option, true, false, All}
use Rattle.std.specs.Iterator.{AlwaysYields, Count, IsFinite, size}
use Rattle.pattern_text.specs.TextPattern.{text_matches}
use Rattle.pattern_text.specs.Case.{folded_all}
use Rattle.pattern_text.specs.declared.case.Case.{Case}
use Rattle.pattern_text.specs.declared.glob.Front.{Front}
use Rattle.pattern_text.specs.declared.glob.Front.TheVariants.{Differs, Whole, Star}

-- both lists begin with one part that has no star, and these are their rests
pub record BothBegin (pattern text pattern_rest text_rest : List ℕ) : Type 0 where
  pub part : List ℕ
  pub no_star : All (λ b. b ≢ 42) part
  pub pattern_begins : pattern ≡ part ++ pattern_rest
  pub text_begins : text ≡ part ++ text_rest

module _ {S : Type 0} (steps : S → Option ℕ → S → Type 0) (case : Case) (pattern bytes : List ℕ) where
  -- what `pass_part` found of a pattern and of a text of these bytes
  abbrev pub IsFront : Front S → Type 0
  IsFront Differs = text_matches (folded_all case pattern) (folded_all case bytes) ≡ false
  IsFront Whole = text_matches (folded_all case pattern) (folded_all case bytes) ≡ true
  IsFront (Star rest after) = (behind : List ℕ) × AlwaysYields steps (λ b. b) after behind
      × BothBegin (folded_all case pattern) (folded_all case bytes) (42 ∷ folded_all case rest.now) (folded_all case behind)

-- the text behind the part can be read, and pattern and text got no longer, the pattern shorter
abbrev pub IsNearer : {S : Type 0} → (S → Type 0) → (S → Count) → List ℕ → S → Front S → Type 0
IsNearer can left pattern text Differs = Unit {0}
IsNearer can left pattern text Whole = Unit {0}
IsNearer can left pattern text (Star rest after) = can after × IsFinite (left after)
    × (length rest.now < length pattern) × (size (left after) ≤ size (left text))
