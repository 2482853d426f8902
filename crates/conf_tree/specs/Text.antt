-- The value that a text is (RFC 8259).
use Rattle.std.specs.Prelude.{◌≡◌, ℕ, ◌^◌, ◌<◌, ◌≤◌, ℤ, pos, negsuc, List, true, Option, Some, None, option_and_then, if◌then◌else◌, Vec, ⊤}
use Rattle.std.specs.Str.{is_utf8}
use Rattle.std.specs.declared.alloc.Global.{Global}
use Rattle.serde_json.specs.Data.{Num, unsigned, negative, float, Data, null, boolean, number, string, array, object, Items, no_items, item, Members, no_members, member, depth}
use Rattle.serde_json.specs.Find.{is_float, of_integer}
use Rattle.serde_json.specs.Read.{read, max_depth}
use Rattle.serde_json.specs.Written.{has_float, items_have_float, members_have_float}
use Rattle.conf_tree.specs.Document.{IsDocument, AreDocuments, AreMembers}
use Rattle.conf_tree.specs.View.{data_of, list_data, map_data}
use Rattle.conf_tree.specs.declared.tree.Tree.{Tree}
use Rattle.conf_tree.specs.declared.tree.TreeMap.{TreeMap}

-- what can't be an i64 or a u64 is a float: a fraction, an exponent, `-0`, and an integer of more than 64 bits
abbrev pub unless_float : Data → Option Data
unless_float d = if has_float d then None else Some d

-- the value of a text in UTF-8, where it is one and its numbers are integers of 64 bits
abbrev pub document_of : List ℕ → Option Data
document_of bytes = if is_utf8 bytes then option_and_then unless_float (read bytes) else None

-- an i64 or a u64
abbrev pub IsWord : Num → Type 0
IsWord (unsigned n) = n < 2 ^ 64
IsWord (negative (pos n)) = ⊥
IsWord (negative (negsuc n)) = n < 2 ^ 63
IsWord (float x) = ⊥

-- each number is an i64 or a u64
abbrev mutual
  pub HasWords : Data → Type 0
  HasWords null = ⊤
  HasWords (boolean b) = ⊤
  HasWords (number n) = IsWord n
  HasWords (string s) = ⊤
  HasWords (array ds) = ItemsHaveWords ds
  HasWords (object ms) = MembersHaveWords ms

  pub ItemsHaveWords : Items → Type 0
  ItemsHaveWords no_items = ⊤
  ItemsHaveWords (item d ds) = HasWords d × ItemsHaveWords ds

  pub MembersHaveWords : Members → Type 0
  MembersHaveWords no_members = ⊤
  MembersHaveWords (member k d ms) = HasWords d × MembersHaveWords ms

-- what is written of such a value is read again as the value
pub record IsReadable (d : Data) : Type 0 where
  pub document : IsDocument d
  pub numbers : HasWords d
  pub shallow : depth d ≤ max_depth

-- ---- for private clauses: the tree of a value, or a number of it is a float

abbrev pub IsIntegerOf : Num → Option ℤ → Type 0
IsIntegerOf n None = is_float n ≡ true
IsIntegerOf n (Some z) = (of_integer z ≡ n) × IsWord n

abbrev pub IsTreeOf : Data → Option Tree → Type 0
IsTreeOf d None = has_float d ≡ true
IsTreeOf d (Some t) = (data_of t ≡ d) × IsDocument d × HasWords d

abbrev pub IsListOf : Items → Option (Vec Tree Global) → Type 0
IsListOf ds None = items_have_float ds ≡ true
IsListOf ds (Some v) = (list_data v.items ≡ ds) × AreDocuments ds × ItemsHaveWords ds

abbrev pub IsMapOf : Members → Option TreeMap → Type 0
IsMapOf ms None = members_have_float ms ≡ true
IsMapOf ms (Some m) = (map_data m ≡ ms) × AreMembers ms × MembersHaveWords ms
