-- From the values that were read to trees, an item or a member at a time.
use Rattle.std.proofs.Common.{◌≡◌, ℕ, List, [], ◌∷◌, ◌++◌, Bool, true, false, ◌||◌, map, String, Global, string_bytes, string_cmp, IsUtf8, Less, Option, Some, None, option_map, option_and_then, refl, sym, ap, ◌∙◌, subst}
use Rattle.std.proofs.lemmas.Str.{IsUtf8-string_bytes, IsUtf8-from_is_utf8, is_utf8-from_IsUtf8}
use Rattle.std.specs.Str.{is_utf8}
use Rattle.std.specs.List.{AllByRecursion}
use Rattle.std.specs.List.Sorted.{IsStrictlySortedBy}
use Rattle.std.specs.Map.{keys_of}
use Rattle.std.specs.Prelude.{⊤}
use Rattle.serde_json.specs.Data.{Num, unsigned, negative, float, Data, null, boolean, number, string, array, object, Items, no_items, item, Members, no_members, member}
use Rattle.serde_json.specs.Find.{is_float}
use Rattle.serde_json.specs.Read.{read}
use Rattle.serde_json.specs.View.{items_of, view, members_view}
use Rattle.serde_json.specs.Written.{has_float, items_have_float, members_have_float}
use Rattle.serde_json.specs.declared.value.Value.{Value}
use Rattle.conf_tree.specs.Document.{ComeAfter, IsDocument, AreDocuments, AreMembers}
use Rattle.conf_tree.specs.Text.{IsTreeOf, IsWord, document_of, unless_float, HasWords, ItemsHaveWords, MembersHaveWords}
use Rattle.conf_tree.specs.View.{Named, data_of, list_data, members_of, named}
use Rattle.conf_tree.specs.declared.tree.Tree.{Tree}
use Rattle.conf_tree.specs.declared.tree.Member.{Member}

abbrev pub Entry : Type 0
Entry = String Global × Value

abbrev pub named_value : Entry → Named
named_value e = (string_bytes e.0, view e.1)

-- each value is a document
abbrev pub HasDocuments : Members → Type 0
HasDocuments no_members = ⊤
HasDocuments (member k d ms) = IsDocument d × HasDocuments ms

pub members_view-named : (es : List Entry) → members_of (map named_value es) ≡ members_view es
members_view-named [] = refl
members_view-named (e ∷ es) = ap (member (string_bytes e.0) (view e.1)) (members_view-named es)

-- ---- one more item

pub list_more : (xs zs : List Tree) (t : Tree) (vs ws : List Value) (v : Value) (all : Items) → zs ≡ xs ++ t ∷ [] → vs ≡ v ∷ ws → data_of t ≡ view v
    → items_of (map data_of xs ++ map view vs) ≡ all → items_of (map data_of zs ++ map view ws) ≡ all
list_more xs zs t vs ws v all pushed step same whole =
    ap (λ ys. items_of (map data_of ys ++ map view ws)) pushed ∙ grown xs ∙ ap (λ us. items_of (map data_of xs ++ map view us)) (sym step) ∙ whole
  where
    grown : (ys : List Tree) → items_of (map data_of (ys ++ t ∷ []) ++ map view ws) ≡ items_of (map data_of ys ++ map view (v ∷ ws))
    grown [] = ap (λ d. item d (items_of (map view ws))) same
    grown (y ∷ ys) = ap (item (data_of y)) (grown ys)

pub documents_more : (xs zs : List Tree) (t : Tree) → zs ≡ xs ++ t ∷ [] → AreDocuments (list_data xs) → IsDocument (data_of t) → AreDocuments (list_data zs)
documents_more xs zs t pushed h k = subst (λ ys. AreDocuments (list_data ys)) (sym pushed) (go xs h)
  where
    go : (ys : List Tree) → AreDocuments (list_data ys) → AreDocuments (list_data (ys ++ t ∷ []))
    go [] x = (k, tt)
    go (y ∷ ys) x = (x.0, go ys x.1)

pub words_more : (xs zs : List Tree) (t : Tree) → zs ≡ xs ++ t ∷ [] → ItemsHaveWords (list_data xs) → HasWords (data_of t) → ItemsHaveWords (list_data zs)
words_more xs zs t pushed h k = subst (λ ys. ItemsHaveWords (list_data ys)) (sym pushed) (go xs h)
  where
    go : (ys : List Tree) → ItemsHaveWords (list_data ys) → ItemsHaveWords (list_data (ys ++ t ∷ []))
    go [] x = (k, tt)
    go (y ∷ ys) x = (x.0, go ys x.1)

-- ---- one more member

pub members_more : (xs zs : List Member) (m : Member) (es fs : List Entry) (e : Entry) (all : Members) → zs ≡ xs ++ m ∷ [] → es ≡ e ∷ fs → named m ≡ named_value e
    → members_of (map named xs ++ map named_value es) ≡ all → members_of (map named zs ++ map named_value fs) ≡ all
members_more xs zs m es fs e all pushed step same whole =
    ap (λ ys. members_of (map named ys ++ map named_value fs)) pushed ∙ grown xs ∙ ap (λ us. members_of (map named xs ++ map named_value us)) (sym step) ∙ whole
  where
    grown : (ys : List Member) → members_of (map named (ys ++ m ∷ []) ++ map named_value fs) ≡ members_of (map named ys ++ map named_value (e ∷ fs))
    grown [] = ap (λ (n : Named). member n.0 n.1 (members_of (map named_value fs))) same
    grown (y ∷ ys) = ap (member y.key (data_of y.value)) (grown ys)

pub member_documents_more : (xs zs : List Member) (m : Member) → zs ≡ xs ++ m ∷ [] → HasDocuments (members_of (map named xs)) → IsDocument (data_of m.value) → HasDocuments (members_of (map named zs))
member_documents_more xs zs m pushed h k = subst (λ ys. HasDocuments (members_of (map named ys))) (sym pushed) (go xs h)
  where
    go : (ys : List Member) → HasDocuments (members_of (map named ys)) → HasDocuments (members_of (map named (ys ++ m ∷ [])))
    go [] x = (k, tt)
    go (y ∷ ys) x = (x.0, go ys x.1)

pub member_words_more : (xs zs : List Member) (m : Member) → zs ≡ xs ++ m ∷ [] → MembersHaveWords (members_of (map named xs)) → HasWords (data_of m.value) → MembersHaveWords (members_of (map named zs))
member_words_more xs zs m pushed h k = subst (λ ys. MembersHaveWords (members_of (map named ys))) (sym pushed) (go xs h)
  where
    go : (ys : List Member) → MembersHaveWords (members_of (map named ys)) → MembersHaveWords (members_of (map named (ys ++ m ∷ [])))
    go [] x = (k, tt)
    go (y ∷ ys) x = (x.0, go ys x.1)

-- ---- a float among them

after_or : (b c : Bool) → c ≡ true → (b || c) ≡ true
after_or true c e = refl
after_or false c e = e

before_or : (b c : Bool) → b ≡ true → (b || c) ≡ true
before_or true c e = refl
before_or false c e = absurd (cc)

pub items_float_at : (ds : List Data) (d : Data) (es : List Data) → has_float d ≡ true → items_have_float (items_of (ds ++ d ∷ es)) ≡ true
items_float_at [] d es e = before_or (has_float d) _ e
items_float_at (c ∷ ds) d es e = after_or (has_float c) _ (items_float_at ds d es e)

pub members_float_at : (ds : List Named) (d : Named) (es : List Named) → has_float d.1 ≡ true → members_have_float (members_of (ds ++ d ∷ es)) ≡ true
members_float_at [] d es e = before_or (has_float d.1) _ e
members_float_at (c ∷ ds) d es e = after_or (has_float c.1) _ (members_float_at ds d es e)

-- ---- the members of a map are in the order of their names

come_after_all : (k : String Global) (es : List Entry) → AllByRecursion (λ l. string_cmp k l ≡ Less) (keys_of es) → ComeAfter (string_bytes k) (members_view es)
come_after_all k [] h = tt
come_after_all k (e ∷ es) h = (h.0, come_after_all k es h.1)

pub are_members : (es : List Entry) → IsStrictlySortedBy string_cmp (keys_of es) → HasDocuments (members_view es) → AreMembers (members_view es)
unfolding IsStrictlySortedBy
are_members [] h k = tt
are_members (e ∷ es) h k = (IsUtf8-string_bytes e.0, k.0, come_after_all e.0 es h.0, are_members es h.1 k.1)

-- ---- the whole text

word_no_float : (n : Num) → IsWord n → is_float n ≡ false
word_no_float (unsigned n) h = refl
word_no_float (negative z) h = refl
word_no_float (float x) h = absurd h

mutual
  pub no_float : (d : Data) → HasWords d → has_float d ≡ false
  no_float null h = refl
  no_float (boolean b) h = refl
  no_float (number n) h = word_no_float n h
  no_float (string s) h = refl
  no_float (array ds) h = items_no_float ds h
  no_float (object ms) h = members_no_float ms h

  items_no_float : (ds : Items) → ItemsHaveWords ds → items_have_float ds ≡ false
  items_no_float no_items h = refl
  items_no_float (item d ds) h = rw (no_float d h.0) (items_no_float ds h.1)

  members_no_float : (ms : Members) → MembersHaveWords ms → members_have_float ms ≡ false
  members_no_float no_members h = refl
  members_no_float (member k d ms) h = rw (no_float d h.0) (members_no_float ms h.1)

pub tree_unless_float : (d : Data) (o : Option Tree) → IsTreeOf d o → option_map data_of o ≡ unless_float d
tree_unless_float d None h = rw h refl
tree_unless_float d (Some t) h = rw (no_float d h.2) (ap Some h.0)

pub document_read : (bytes : List ℕ) (d : Data) → IsUtf8 bytes → read bytes ≡ Some d → document_of bytes ≡ unless_float d
document_read bytes d u e = rw (is_utf8-from_IsUtf8 bytes u) (ap (option_and_then unless_float) e)

refused_at : (bytes : List ℕ) (b : Bool) → is_utf8 bytes ≡ b → (IsUtf8 bytes → read bytes ≡ None) → document_of bytes ≡ None
refused_at bytes true is h = rw is (ap (option_and_then unless_float) (h (IsUtf8-from_is_utf8 bytes is)))
refused_at bytes false is h = rw is refl

pub document_refused : (bytes : List ℕ) → (IsUtf8 bytes → read bytes ≡ None) → document_of bytes ≡ None
document_refused bytes h = refused_at bytes (is_utf8 bytes) refl h
