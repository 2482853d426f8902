-- What the answers of the changes say: which value was there, and which is there now.
use Rattle.std.specs.Prelude.{◌≡◌}
use Rattle.serde_json.specs.Data.{Data}
use Rattle.conf_tree.specs.Paths.{Change, changed, absent, no_array}
use Rattle.conf_tree.specs.declared.outcomes.Put.{Put}
use Rattle.conf_tree.specs.declared.outcomes.Put.TheVariants as put
use Rattle.conf_tree.specs.declared.outcomes.Append.{Append}
use Rattle.conf_tree.specs.declared.outcomes.Append.TheVariants as append
use Rattle.conf_tree.specs.declared.outcomes.Remove.{Remove}
use Rattle.conf_tree.specs.declared.outcomes.Remove.TheVariants as remove

abbrev pub Puts : Put → Change → Data → Data → Type 0
Puts put.Done change old new = change ≡ changed new
Puts put.Absent change old new = (change ≡ absent) × (new ≡ old)

abbrev pub Appends : Append → Change → Data → Data → Type 0
Appends append.Done change old new = change ≡ changed new
Appends append.Absent change old new = (change ≡ absent) × (new ≡ old)
Appends append.NoArray change old new = (change ≡ no_array) × (new ≡ old)

abbrev pub Removes : Remove → Change → Data → Data → Type 0
Removes remove.Done change old new = change ≡ changed new
Removes remove.Absent change old new = (change ≡ absent) × (new ≡ old)
