-- The value that a key names, from what a search for the key found.
use Rattle.std.proofs.Common.{◌≡◌, ℕ, zero, suc, ◌<◌, ◌≤◌, List, [], ◌∷◌, length, get_or, map, Option, Some, None, option_and_then, refl, ap, ◌∙◌, arith}
use Rattle.std.proofs.lemmas.List.{get_or-map}
use Rattle.serde_json.specs.Data.{array, object}
use Rattle.serde_json.specs.Find.{get_item}
use Rattle.conf_tree.specs.Paths.{index_of, child}
use Rattle.conf_tree.specs.Places.{HasNameAt}
use Rattle.conf_tree.specs.View.{data_of, list_data, members_of, named}
use Rattle.conf_tree.specs.declared.tree.Tree.{Tree}
use Rattle.conf_tree.specs.declared.tree.Member.{Member}
use Rattle.conf_tree.proofs.Items.{get_item_within, get_item_past}
use Rattle.conf_tree.proofs.Members.{get_named}

pub child_item : (k : List ℕ) (ts : List Tree) (i : ℕ) (d : Tree) → index_of k ≡ Some i → i < length ts → child k (array (list_data ts)) ≡ Some (data_of (get_or ts i d))
child_item k ts i d e h = ap (option_and_then (λ j. get_item j (list_data ts))) e ∙ get_item_within ts i d h

-- f finds nothing from n on
nowhere : {B : Type 0} (f : ℕ → Option B) (n : ℕ) (o : Option ℕ) → ((i : ℕ) → o ≡ Some i → n ≤ i) → ((i : ℕ) → n ≤ i → f i ≡ None) → option_and_then f o ≡ None
nowhere f n None past none = refl
nowhere f n (Some i) past none = none i (past i refl)

pub no_item_at : {B : Type 0} (f : ℕ → Option B) (n : ℕ) (k : List ℕ) → ((i : ℕ) → index_of k ≡ Some i → n ≤ i) → ((i : ℕ) → n ≤ i → f i ≡ None) → option_and_then f (index_of k) ≡ None
no_item_at f n k past none = nowhere f n (index_of k) past none

pub child_no_item : (k : List ℕ) (ts : List Tree) → ((i : ℕ) → index_of k ≡ Some i → length ts ≤ i) → child k (array (list_data ts)) ≡ None
child_no_item k ts past = no_item_at (λ j. get_item j (list_data ts)) (length ts) k past (λ i h. get_item_past ts i h)

pub bounded : (ms : List Member) (i : ℕ) → i < length (map named ms) → i < length ms
bounded [] i h = absurd (omega arith)
bounded (m ∷ ms) zero h = omega arith
bounded (m ∷ ms) (suc i) h = omega (arith, bounded ms i (omega arith))

pub child_member : (k : List ℕ) (ms : List Member) (i : ℕ) (d : Member) → HasNameAt k (map named ms) i → child k (object (members_of (map named ms))) ≡ Some (data_of (get_or ms i d).value)
child_member k ms i d h =
    get_named k (map named ms) i (named d) h ∙ ap (λ e. Some e.1) (get_or-map named ms i d (named d) (bounded ms i h.within))
