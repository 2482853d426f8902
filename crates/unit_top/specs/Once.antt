-- The configuration of `once`.
use Rattle.std.specs.Prelude.{ℕ, List, [], ◌∷◌, codes}
use Rattle.serde_json.specs.Data.{Data, string, object, no_members, member}
use Rattle.conf_tree.specs.Paths.{Change, changed, absent, no_array, put}

-- the application `h`, which is this handler
abbrev pub applications : List ℕ → Data
applications handler =
    object (member (codes "h")
    (object (member (codes "executable") (string handler) (member (codes "type") (string (codes "external")) no_members)))
    no_members)

-- the listener, which passes to the application `h`
abbrev pub listeners : Data
listeners =
    object (member (codes "*:8080") (object (member (codes "pass") (string (codes "applications/h")) no_members)) no_members)

-- the document of a connection, each request of which goes to this handler
abbrev pub once_document : List ℕ → Data
once_document handler =
    object (member (codes "applications") (applications handler) (member (codes "listeners") listeners no_members))

-- ---- how it is built

-- the value that a change leaves
abbrev pub after_change : Data → Change → Data
after_change d (changed e) = e
after_change d absent = d
after_change d no_array = d

-- an object with one more member; another value stays
abbrev pub with_member : List ℕ → Data → Data → Data
with_member name value d = after_change d (put (name ∷ []) value d)
