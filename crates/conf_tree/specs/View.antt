-- The JSON value that a tree stands for (RFC 8259, section 3).
use Rattle.std.specs.Prelude.{ℕ, zero, suc, List, [], ◌∷◌, map, Option, Some, None}
use Rattle.serde_json.specs.Data.{Data, null, boolean, number, string, array, object, Items, Members, no_members, member}
use Rattle.serde_json.specs.Find.{of_integer}
use Rattle.serde_json.specs.View.{items_of}
use Rattle.conf_tree.specs.declared.tree.Tree.{Tree, fold-Tree}
use Rattle.conf_tree.specs.declared.tree.Tree.TheOpen.{Tree-F}
use Rattle.conf_tree.specs.declared.tree.Member.{Member}
use Rattle.conf_tree.specs.declared.tree.TreeMap.{TreeMap, out-TreeMap}

-- a member's name with its value
abbrev pub Named : Type 0
Named = List ℕ × Data

abbrev pub members_of : List Named → Members
members_of [] = no_members
members_of (m ∷ ms) = member m.0 m.1 (members_of ms)

-- one level, with each tree inside already seen as its value
abbrev pub data_step : Tree-F Data Named Members → Data
data_step Tree-F.Null = null
data_step (Tree-F.Truth b) = boolean b
data_step (Tree-F.Number z) = number (of_integer z)
data_step (Tree-F.Text s) = string s
data_step (Tree-F.List v) = array (items_of v.items)
data_step (Tree-F.Object ms) = object ms

abbrev pub data_of : Tree → Data
data_of = fold-Tree Data Named Members data_step (λ m. (m.key, m.value)) (λ m. members_of m.members.items)

-- the values of a list of trees
abbrev pub list_data : List Tree → Items
list_data ts = items_of (map data_of ts)

abbrev pub named : Member → Named
named m = (m.key, data_of m.value)

-- the members of a map of trees
abbrev pub map_data : TreeMap → Members
map_data m = members_of (map named (out-TreeMap m).members.items)

-- ---- members by their place

abbrev pub name_at : ℕ → Members → Option (List ℕ)
name_at i no_members = None
name_at zero (member k d ms) = Some k
name_at (suc i) (member k d ms) = name_at i ms

abbrev pub value_at : ℕ → Members → Option Data
value_at i no_members = None
value_at zero (member k d ms) = Some d
value_at (suc i) (member k d ms) = value_at i ms
