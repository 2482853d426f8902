-- What is kept of each tree: the names of an object ascend and are distinct, and names and texts are UTF-8
-- (RFC 8259, sections 4 and 8.1).
use Rattle.std.specs.Prelude.{◌≡◌, ℕ, List, IsUtf8, ⊤}
use Rattle.std.specs.Ordering.{nat_cmp}
use Rattle.std.specs.declared.cmp.Ordering.TheVariants.{Less}
use Rattle.std.specs.Cmp.Lexicographic.{slice_cmp}
use Rattle.serde_json.specs.Data.{Data, null, boolean, number, string, array, object, Items, no_items, item, Members, no_members, member}

-- each name of these members comes after k, byte by byte
abbrev pub ComeAfter : List ℕ → Members → Type 0
ComeAfter k no_members = ⊤
ComeAfter k (member l d ms) = (slice_cmp nat_cmp k l ≡ Less) × ComeAfter k ms

abbrev mutual
  pub IsDocument : Data → Type 0
  IsDocument null = ⊤
  IsDocument (boolean b) = ⊤
  IsDocument (number n) = ⊤
  IsDocument (string s) = IsUtf8 s
  IsDocument (array ds) = AreDocuments ds
  IsDocument (object ms) = AreMembers ms

  pub AreDocuments : Items → Type 0
  AreDocuments no_items = ⊤
  AreDocuments (item d ds) = IsDocument d × AreDocuments ds

  pub AreMembers : Members → Type 0
  AreMembers no_members = ⊤
  AreMembers (member k d ms) = IsUtf8 k × IsDocument d × ComeAfter k ms × AreMembers ms
