-- The words of `serve`, as a command of `clap`. What `clap` has for words is its own definition:
-- `fault_of` and `matches_of`.
use Rattle.std.specs.Prelude.{ℕ, ◌≡◌, ◌^◌, ◌<◌, ◌≤◌, pos, List, [], ◌∷◌, Some, codes, length, true}
use Rattle.std.specs.Prelude.{slice_index, slice_index_or}
use Rattle.std.specs.Str.Parse.{IsNumeral, digits_value, without_leading_plus}
use Rattle.clap.specs.Words.{App, Rule, Text, all_of, fault_of, first_of, matches_of, new_app}
use Rattle.clap.specs.Words.{new_rule, with_rule}
use Rattle.clap.specs.declared.builder.value_parser.ValueParser.TheVariants as parser
use Rattle.unit_serve.specs.declared.words.ServeWords.{ServeWords}

-- ---- the command

-- `--workers N`, 1 to 4
abbrev pub workers : Rule
workers = record (new_rule (codes "workers")) {
  long = Some (codes "workers");
  parser = Some (parser.Signed (pos 1) (pos 4));
  defaults = codes "2" ∷ [];
}

-- `--accept N`, 1 to 8,192
abbrev pub accept : Rule
accept = record (new_rule (codes "accept")) {
  long = Some (codes "accept");
  parser = Some (parser.Signed (pos 1) (pos 8192));
  defaults = codes "8192" ∷ [];
}

-- the control port
abbrev pub control : Rule
control = record (new_rule (codes "control")) {
  required = true;
  parser = Some (parser.Signed (pos 1) (pos 65535));
}

-- one to four ports, which stand last
abbrev pub ports : Rule
ports = record (new_rule (codes "ports")) {
  required = true;
  range = Some (record { start_inclusive = 1; end_inclusive = 4 });
  parser = Some (parser.Signed (pos 1) (pos 65535));
}

abbrev pub serve : App
serve =
    with_rule (with_rule (with_rule (with_rule (new_app (codes "serve")) workers) accept) control)
    ports

-- The command has matches for the words, of which the first is its name. It has none where help is
-- asked.
abbrev pub HasMatches : List Text → Type 0
HasMatches words = fault_of serve words ≡ []

-- ---- the values

-- n is the number that the text writes, with or without a plus in front, and lies in the bounds
pub record IsNumberIn (low high : ℕ) (text : Text) (n : ℕ) : Type 0 where
  pub numeral : IsNumeral 10 (without_leading_plus text)
  pub value : n ≡ digits_value 10 (without_leading_plus text)
  pub least : low ≤ n
  pub most : n ≤ high

-- n is the number of the first value of an argument, which has one
pub record IsValueOf (id : Text) (low high : ℕ) (words : List Text) (n : ℕ) : Type 0 where
  pub text : Text
  pub first : first_of id (matches_of serve words) ≡ Some text
  pub number : IsNumberIn low high text n

-- the numbers are those of the values of an argument, one for each in their order; it has from one
-- value to `most`
pub record AreValuesOf (id : Text) (low high most : ℕ) (words : List Text) (ns : List ℕ) : Type 0
  where
    pub texts : List Text
    pub all : all_of id (matches_of serve words) ≡ Some texts
    pub count : length ns ≡ length texts
    pub some : 1 ≤ length ns
    pub few : length ns ≤ most
    pub each : (i : ℕ) → i < length ns
        → IsNumberIn low high (slice_index_or texts i []) (slice_index ns i)

-- the values of the matches for the words
pub record IsRead (words : List Text) (s : ServeWords) : Type 0 where
  pub control : IsValueOf (codes "control") 1 65535 words s.control
  pub ports : AreValuesOf (codes "ports") 1 65535 4 words s.ports.items
  pub workers : IsValueOf (codes "workers") 1 4 words s.workers
  pub accept : IsValueOf (codes "accept") 1 8192 words s.accept

-- ---- reading a text

-- what `parse` gives for a text that writes a number of so many bits
abbrev pub ReadsAs : ℕ → Text → ℕ → Type 0
ReadsAs bits text n = IsNumeral 10 (without_leading_plus text)
    → digits_value 10 (without_leading_plus text) < 2 ^ bits
    → n ≡ digits_value 10 (without_leading_plus text)

-- each number is what `parse` gives for its text
pub record EachReadsAs (bits : ℕ) (texts : List Text) (ns : List ℕ) : Type 0 where
  pub count : length ns ≡ length texts
  pub each : (i : ℕ) → i < length texts
      → ReadsAs bits (slice_index_or texts i []) (slice_index ns i)
