-- Which names of header fields were met before, in any case.
use Rattle.std.specs.Prelude.{◌≡◌, ℕ, Bool, List, Vec, ⊤}
use Rattle.std.specs.BTreeMap.{get}
use Rattle.std.specs.Cmp.Lexicographic.{slice_cmp}
use Rattle.std.specs.List.{list_any}
use Rattle.std.specs.Option.{is_some}
use Rattle.std.specs.Ordering.{nat_cmp}
use Rattle.std.specs.Str.{bytes_eq, str_to_ascii_lowercase}
use Rattle.std.specs.declared.alloc.Global.{Global}
use Rattle.conf_validate.specs.Forms.{is_again}
use Rattle.conf_validate.specs.declared.lower.LowerNames.{LowerNames}
use Rattle.conf_validate.specs.declared.place.Names.{Names}
use Rattle.conf_validate.specs.declared.place.Names.TheVariants as names

-- the set has these names, in lower case, and no others
abbrev pub Knows : LowerNames → List (List ℕ) → Type 0
Knows set earlier =
    (q : Vec ℕ Global) → is_some (get (λ (a b : Vec ℕ Global). slice_cmp nat_cmp a.items b.items) set.names q) ≡ list_any (λ e. bytes_eq (str_to_ascii_lowercase e) q.items) earlier

-- the same, where the names of header fields are looked at
abbrev pub KnowsOf : Names → LowerNames → List (List ℕ) → Type 0
KnowsOf (names.Header p) set earlier = Knows set earlier
KnowsOf other set earlier = ⊤

abbrev pub IsAgain : Names → List (List ℕ) → List ℕ → Bool → Type 0
IsAgain (names.Header p) earlier name again = again ≡ is_again earlier name
IsAgain other earlier name again = ⊤
