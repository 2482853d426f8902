-- The value of a tree, level by level.
use Rattle.std.proofs.Common.{◌≡◌, ℤ, Bool, List, ℕ, Vec, Global, map, rules}
use Rattle.serde_json.specs.Data.{null, boolean, number, string, array, object}
use Rattle.serde_json.specs.Find.{of_integer}
use Rattle.conf_tree.specs.View.{data_of, list_data, map_data, members_of, named}
use Rattle.conf_tree.specs.declared.tree.Tree.{Tree, the_lemmas}
use Rattle.conf_tree.specs.declared.tree.Tree as tree
use Rattle.conf_tree.specs.declared.tree.Member.{Member}
use Rattle.conf_tree.specs.declared.tree.TreeMap.{TreeMap}
use Rattle.conf_tree.specs.declared.tree.Tree.TheViews.{roll-TreeMap}

pub data_of-Null : data_of tree.Null ≡ null
data_of-Null = search (rules, the_lemmas)

pub data_of-Truth : (b : Bool) → data_of (tree.Truth b) ≡ boolean b
data_of-Truth b = search (rules, the_lemmas)

pub data_of-Number : (z : ℤ) → data_of (tree.Number z) ≡ number (of_integer z)
data_of-Number z = search (rules, the_lemmas)

pub data_of-Text : (s : List ℕ) → data_of (tree.Text s) ≡ string s
data_of-Text s = search (rules, the_lemmas)

pub data_of-List : (v : Vec Tree Global) → data_of (tree.List v) ≡ array (list_data v.items)
data_of-List v = search (rules, the_lemmas)

pub data_of-Object : (m : TreeMap) → data_of (tree.Object m) ≡ object (map_data m)
data_of-Object m = search (rules, the_lemmas)

pub map_data-made : (v : Vec Member Global) → map_data (roll-TreeMap (record { members = v })) ≡ members_of (map named v.items)
map_data-made v = search (rules, the_lemmas)
