-- The size of a value: what it has in it is smaller.
use Rattle.std.proofs.Common.{◌≡◌, ℕ, zero, suc, ◌+◌, ◌<◌, Some, List, [], ◌∷◌, length, get_or, arith, ap}
use Rattle.serde_json.specs.Data.{Data, null, boolean, number, string, array, object, Items, no_items, item, Members, no_members, member}
use Rattle.conf_tree.specs.View.{data_of, list_data, value_at}
use Rattle.conf_tree.specs.declared.tree.Tree.{Tree}

abbrev mutual
  pub size : Data → ℕ
  size null = 0
  size (boolean b) = 0
  size (number n) = 0
  size (string s) = 0
  size (array ds) = suc (items_size ds)
  size (object ms) = suc (members_size ms)

  pub items_size : Items → ℕ
  items_size no_items = 0
  items_size (item d ds) = suc (size d + items_size ds)

  pub members_size : Members → ℕ
  members_size no_members = 0
  members_size (member k d ms) = suc (size d + members_size ms)

same_value : (d e : Data) → Some d ≡ Some e → d ≡ e
same_value d e h = cc h

pub value_smaller : (ms : Members) (i : ℕ) (d : Data) → value_at i ms ≡ Some d → size d < members_size ms
value_smaller no_members i d e = absurd (cc e)
value_smaller (member k f ms) zero d e = let same : size f ≡ size d = ap size (same_value f d e) in omega arith
value_smaller (member k f ms) (suc i) d e = omega (arith, value_smaller ms i d e)

pub item_smaller : (ts : List Tree) (i : ℕ) (d : Tree) → i < length ts → size (data_of (get_or ts i d)) < items_size (list_data ts)
item_smaller [] i d h = absurd (omega arith)
item_smaller (t ∷ ts) zero d h = omega arith
item_smaller (t ∷ ts) (suc i) d h = omega (arith, item_smaller ts i d (omega arith))
