-- Values by path: a list of keys, each of which names a member of an object or an item of an array.
use Rattle.std.specs.Prelude.{ℕ, zero, suc, ◌+◌, ◌-◌, ◌*◌, ◌&&◌, ◌==◌, nat_le, List, [], ◌∷◌, if◌then◌else◌, Option, Some, None, option_map, option_and_then}
use Rattle.std.specs.Ordering.{nat_cmp, match_ordering}
use Rattle.std.specs.Cmp.Lexicographic.{slice_cmp}
use Rattle.serde_json.specs.Data.{Data, null, boolean, number, string, array, object, Items, no_items, item, Members, no_members, member, put as put_member}
use Rattle.serde_json.specs.Find.{get_member, get_item}

-- ---- indices (the array index of RFC 6901, section 4)

-- the number that n and then these digits write
abbrev pub digits_from : ℕ → List ℕ → Option ℕ
digits_from n [] = Some n
digits_from n (c ∷ cs) = if nat_le 48 c && nat_le c 57 then digits_from (10 * n + (c - 48)) cs else None

-- digits with no 0 before another
abbrev pub index_of : List ℕ → Option ℕ
index_of [] = None
index_of (c ∷ []) = digits_from 0 (c ∷ [])
index_of (c ∷ d ∷ cs) = if c == 48 then None else digits_from 0 (c ∷ d ∷ cs)

-- ---- the value that a key names in a value

abbrev pub child : List ℕ → Data → Option Data
child k null = None
child k (boolean b) = None
child k (number n) = None
child k (string s) = None
child k (array ds) = option_and_then (λ i. get_item i ds) (index_of k)
child k (object ms) = get_member k ms

abbrev pub get : List (List ℕ) → Data → Option Data
get [] d = Some d
get (k ∷ ks) d = option_and_then (get ks) (child k d)

-- ---- changes

-- what a change makes of a value, or why there is none
pub data Change : Type 0 where
  changed : Data → Change
  absent : Change
  no_array : Change

-- the items with d at i, where there is an item at i
abbrev pub set_item : ℕ → Data → Items → Option Items
set_item i d no_items = None
set_item zero d (item e es) = Some (item d es)
set_item (suc i) d (item e es) = option_map (item e) (set_item i d es)

-- the items without that at i, where there is one; the later ones move down
abbrev pub remove_item : ℕ → Items → Option Items
remove_item i no_items = None
remove_item zero (item e es) = Some es
remove_item (suc i) (item e es) = option_map (item e) (remove_item i es)

-- the items with d behind them
abbrev pub push_item : Data → Items → Items
push_item d no_items = item d no_items
push_item d (item e es) = item e (push_item d es)

-- the members without that of name k, where there is one
abbrev pub remove_member : List ℕ → Members → Option Members
remove_member k no_members = None
remove_member k (member l e ms) = match_ordering (slice_cmp nat_cmp k l) (option_map (member l e) (remove_member k ms)) (Some ms) (option_map (member l e) (remove_member k ms))

abbrev pub array_or_absent : Option Items → Change
array_or_absent None = absent
array_or_absent (Some ds) = changed (array ds)

abbrev pub object_or_absent : Option Members → Change
object_or_absent None = absent
object_or_absent (Some ms) = changed (object ms)

-- the value with v at the key: in an object added or replaced, in an array replaced
abbrev pub put_child : List ℕ → Data → Data → Change
put_child k v null = absent
put_child k v (boolean b) = absent
put_child k v (number n) = absent
put_child k v (string s) = absent
put_child k v (array ds) = array_or_absent (option_and_then (λ i. set_item i v ds) (index_of k))
put_child k v (object ms) = changed (object (put_member k v ms))

-- the value without what the key names
abbrev pub remove_child : List ℕ → Data → Change
remove_child k null = absent
remove_child k (boolean b) = absent
remove_child k (number n) = absent
remove_child k (string s) = absent
remove_child k (array ds) = array_or_absent (option_and_then (λ i. remove_item i ds) (index_of k))
remove_child k (object ms) = object_or_absent (remove_member k ms)

-- the value with v behind its items
abbrev pub append_item : Data → Data → Change
append_item v null = no_array
append_item v (boolean b) = no_array
append_item v (number n) = no_array
append_item v (string s) = no_array
append_item v (array ds) = changed (array (push_item v ds))
append_item v (object ms) = no_array

-- the value with what the key names changed
abbrev pub kept_in : List ℕ → Data → Change → Change
kept_in k d (changed c) = put_child k c d
kept_in k d absent = absent
kept_in k d no_array = no_array

abbrev pub change_child : List ℕ → (Data → Change) → Data → Option Data → Change
change_child k f d None = absent
change_child k f d (Some c) = kept_in k d (f c)

abbrev pub put : List (List ℕ) → Data → Data → Change
put [] v d = changed v
put (k ∷ []) v d = put_child k v d
put (k ∷ l ∷ ks) v d = change_child k (put (l ∷ ks) v) d (child k d)

abbrev pub append : List (List ℕ) → Data → Data → Change
append [] v d = append_item v d
append (k ∷ ks) v d = change_child k (append ks v) d (child k d)

abbrev pub remove : List (List ℕ) → Data → Change
remove [] d = changed (object no_members)
remove (k ∷ []) d = remove_child k d
remove (k ∷ l ∷ ks) d = change_child k (remove (l ∷ ks)) d (child k d)
