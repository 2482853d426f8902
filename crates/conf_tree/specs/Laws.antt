-- What a change leaves as it was.
use Rattle.std.specs.Prelude.{◌≡◌, ◌<◌, ◌≤◌, ℕ, suc, List, [], ◌∷◌, Some, None}
use Rattle.serde_json.specs.Data.{Data, array, object, Items, Members}
use Rattle.serde_json.specs.Find.{get_item, get_member}
use Rattle.conf_tree.specs.Paths.{get, index_of, push_item}

-- neither of two paths begins the other
abbrev pub Part : List (List ℕ) → List (List ℕ) → Type 0
Part [] ls = ⊥
Part (k ∷ ks) [] = ⊥
Part (k ∷ ks) (l ∷ ls) = k ≡ l → Part ks ls

-- the array at the path has one item more behind those that it had
pub record IsLonger (path : List (List ℕ)) (value before after : Data) : Type 0 where
  pub items : Items
  pub had : get path before ≡ Some (array items)
  pub has : get path after ≡ Some (array (push_item value items))

-- the items without that at i: the earlier ones stay, and the later ones move down
pub record AreItemsWithout (i : ℕ) (before after : Items) : Type 0 where
  pub earlier : (j : ℕ) → j < i → get_item j after ≡ get_item j before
  pub later : (j : ℕ) → i ≤ j → get_item j after ≡ get_item (suc j) before

-- the members without that of name k: it is gone, and the others stay
pub record AreMembersWithout (k : List ℕ) (before after : Members) : Type 0 where
  pub gone : get_member k after ≡ None
  pub others : (l : List ℕ) → (k ≡ l → ⊥) → get_member l after ≡ get_member l before

-- a value without what the key names
pub data IsWithout (k : List ℕ) (before after : Data) : Type 0 where
  an_item : (i : ℕ) (ds es : Items) → index_of k ≡ Some i → before ≡ array ds → after ≡ array es → AreItemsWithout i ds es → IsWithout k before after
  a_member : (ms ns : Members) → before ≡ object ms → after ≡ object ns → AreMembersWithout k ms ns → IsWithout k before after

-- the value at the path is without what the key names
pub record IsGone (path : List (List ℕ)) (k : List ℕ) (before after : Data) : Type 0 where
  pub old : Data
  pub new : Data
  pub had : get path before ≡ Some old
  pub has : get path after ≡ Some new
  pub without : IsWithout k old new
