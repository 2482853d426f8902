-- What an action may choose.
use Rattle.std.specs.Prelude.{ℕ, Bool, not, ◌&&◌, ◌||◌, List, codes, if◌then◌else◌}
use Rattle.std.specs.Option.{is_some}
use Rattle.serde_json.specs.Data.{Members}
use Rattle.serde_json.specs.Find.{get_member}

-- the object has a member of this name
abbrev pub has : List ℕ → Members → Bool
has name ms = is_some (get_member name ms)

-- exactly one of the two
abbrev pub is_one : Bool → Bool → Bool
is_one a b = if a then not b else b

-- rule 6: exactly one of `pass` and `return`, no `location` without `return`, no `rewrite` without `pass`
abbrev pub is_choice : Members → Bool
is_choice ms =
    is_one (has (codes "pass") ms) (has (codes "return") ms)
    && (not (has (codes "location") ms) || has (codes "return") ms)
    && (not (has (codes "rewrite") ms) || has (codes "pass") ms)
