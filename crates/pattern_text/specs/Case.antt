-- Whether the case of ASCII letters counts.
use Rattle.std.specs.Prelude.{ℕ, Bool, not, ◌&&◌, ◌||◌, List, map}
use Rattle.std.specs.List.{list_any, list_all}
use Rattle.std.specs.Char.{to_ascii_lowercase}
use Rattle.pattern_text.specs.TextPattern.{is_negated, plain_part, text_matches}
use Rattle.pattern_text.specs.declared.case.Case.{Case}
use Rattle.pattern_text.specs.declared.case.Case.TheVariants.{Exact, Ignored}

-- what a byte is compared as
abbrev pub folded : Case → ℕ → ℕ
folded Exact b = b
folded Ignored b = to_ascii_lowercase b

-- what a text is compared as
abbrev pub folded_all : Case → List ℕ → List ℕ
folded_all case bytes = map (folded case) bytes

-- a pattern without its `!` matches the text
abbrev pub holds_of : Case → List ℕ → List ℕ → Bool
holds_of case pattern bytes = text_matches (folded_all case (plain_part pattern)) (folded_all case bytes)

-- a list of patterns matches the text
abbrev pub list_holds : Case → List (List ℕ) → List ℕ → Bool
list_holds case patterns bytes =
    (list_any (λ p. not (is_negated p) && holds_of case p bytes) patterns || list_all is_negated patterns)
    && not (list_any (λ p. is_negated p && holds_of case p bytes) patterns)
