-- What a pass names.
use Rattle.std.specs.Prelude.{ℕ, Bool, false, ◌&&◌, ◌||◌, ◌==◌, nat_eq, List, drop, codes, Option, Some, None, if◌then◌else◌}
use Rattle.std.specs.List.{list_any, starts_with}
use Rattle.std.specs.Option.{is_some}
use Rattle.std.specs.Str.{bytes_eq}
use Rattle.serde_json.specs.Data.{Data}
use Rattle.serde_json.specs.Find.{get, as_array, as_object}

abbrev pub is_array : Option Data → Bool
is_array None = false
is_array (Some d) = is_some (as_array d)

abbrev pub is_object : Option Data → Bool
is_object None = false
is_object (Some d) = is_some (as_object d)

-- the value is an object with a member of this name
abbrev pub has_member : List ℕ → Option Data → Bool
has_member name None = false
has_member name (Some d) = is_some (get name d)

-- the pass names the routes, a route or an application of the document
abbrev pub is_target : Data → List ℕ → Bool
is_target document pass =
    (bytes_eq pass (codes "routes") && is_array (get (codes "routes") document))
    || (starts_with nat_eq pass (codes "routes/") && has_member (drop 7 pass) (get (codes "routes") document))
    || (starts_with nat_eq pass (codes "applications/") && has_member (drop 13 pass) (get (codes "applications") document))

-- a pass with `$` begins with `applications/`, or with `routes/` where the routes have names; neither has a `$`, so they
-- stand before the first one
abbrev pub may_be_target : Data → List ℕ → Bool
may_be_target document pass =
    starts_with nat_eq pass (codes "applications/")
    || (starts_with nat_eq pass (codes "routes/") && is_object (get (codes "routes") document))

-- rule 7: a pass without `$` names its target, and one with `$` may do so
abbrev pub is_pass : Data → List ℕ → Bool
is_pass document pass =
    if list_any (λ b. b == 36) pass then may_be_target document pass else is_target document pass
