-- Items as a list: what an index finds.
use Rattle.std.proofs.Common.{◌≡◌, ℕ, zero, suc, ◌<◌, ◌≤◌, List, [], ◌∷◌, ◌++◌, length, get_or, set, Some, None, option_map, refl, ap, arith}
use Rattle.std.specs.List.{remove}
use Rattle.serde_json.specs.Data.{Data, item}
use Rattle.serde_json.specs.Find.{get_item}
use Rattle.conf_tree.specs.Paths.{set_item, remove_item, push_item}
use Rattle.conf_tree.specs.View.{data_of, list_data}
use Rattle.conf_tree.specs.declared.tree.Tree.{Tree}

pub get_item_within : (ts : List Tree) (i : ℕ) (d : Tree) → i < length ts → get_item i (list_data ts) ≡ Some (data_of (get_or ts i d))
get_item_within [] i d h = absurd (omega arith)
get_item_within (t ∷ ts) zero d h = refl
get_item_within (t ∷ ts) (suc i) d h = get_item_within ts i d (omega arith)

pub get_item_past : (ts : List Tree) (i : ℕ) → length ts ≤ i → get_item i (list_data ts) ≡ None
get_item_past [] i h = refl
get_item_past (t ∷ ts) zero h = absurd (omega arith)
get_item_past (t ∷ ts) (suc i) h = get_item_past ts i (omega arith)

pub set_item_within : (ts : List Tree) (i : ℕ) (t : Tree) → i < length ts → set_item i (data_of t) (list_data ts) ≡ Some (list_data (set ts i t))
set_item_within [] i t h = absurd (omega arith)
set_item_within (s ∷ ts) zero t h = refl
set_item_within (s ∷ ts) (suc i) t h = ap (option_map (item (data_of s))) (set_item_within ts i t (omega arith))

pub set_item_past : (ts : List Tree) (i : ℕ) (d : Data) → length ts ≤ i → set_item i d (list_data ts) ≡ None
set_item_past [] i d h = refl
set_item_past (s ∷ ts) zero d h = absurd (omega arith)
set_item_past (s ∷ ts) (suc i) d h = ap (option_map (item (data_of s))) (set_item_past ts i d (omega arith))

pub remove_item_within : (ts : List Tree) (i : ℕ) → i < length ts → remove_item i (list_data ts) ≡ Some (list_data (remove ts i))
remove_item_within [] i h = absurd (omega arith)
remove_item_within (s ∷ ts) zero h = refl
remove_item_within (s ∷ ts) (suc i) h = ap (option_map (item (data_of s))) (remove_item_within ts i (omega arith))

pub remove_item_past : (ts : List Tree) (i : ℕ) → length ts ≤ i → remove_item i (list_data ts) ≡ None
remove_item_past [] i h = refl
remove_item_past (s ∷ ts) zero h = absurd (omega arith)
remove_item_past (s ∷ ts) (suc i) h = ap (option_map (item (data_of s))) (remove_item_past ts i (omega arith))

pub push_item-list : (ts : List Tree) (t : Tree) → push_item (data_of t) (list_data ts) ≡ list_data (ts ++ t ∷ [])
push_item-list [] t = refl
push_item-list (s ∷ ts) t = ap (item (data_of s)) (push_item-list ts t)
