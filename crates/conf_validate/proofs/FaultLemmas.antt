-- The path of a broken rule is a text.
use Rattle.std.proofs.Common.{◌≡◌, ℕ, ◌+◌, Bool, true, false, not, List, [], ◌∷◌, ◌++◌, Option, Some, None, IfSome, IsUtf8, decimal, subst}
use Rattle.std.proofs.lemmas.Str.{IsUtf8-append, IsUtf8-nil}
use Rattle.serde_json.specs.Data.{Data, null, boolean, number, string, array, object, Items, no_items, item, Members, no_members, member}
use Rattle.conf_tree.specs.Document.{IsDocument, AreDocuments, AreMembers}
use Rattle.conf_validate.specs.Forms.{is_again}
use Rattle.conf_validate.specs.Table.{Table, Entry, whole_table}
use Rattle.conf_validate.specs.Valid.{Context, below, broken, broken_if, fault_of, for_some, has_handler, has_required, has_target, is_choice_at, is_in_range, items_fault, level, members_fault, or_then, place_of, text_fault, value_fault}
use Rattle.conf_validate.specs.declared.fault.Invalid.{Invalid}
use Rattle.conf_validate.specs.declared.place.Form.{Form}
use Rattle.conf_validate.specs.declared.place.Names.{Names}
use Rattle.conf_validate.specs.declared.place.Place.{Place}
use Rattle.conf_validate.specs.declared.place.Place.TheVariants as place
use Rattle.conf_validate.proofs.PathLemmas.{decimal_text, level_text}

abbrev pub HasText : Option Invalid → Type 0
HasText fault = IfSome fault (λ f. IsUtf8 f.path)

broken_if_text : (test : Bool) (rule : ℕ) → HasText (broken_if test rule)
broken_if_text true rule = IsUtf8-nil
broken_if_text false rule = tt

or_text : (a b : Option Invalid) → HasText a → HasText b → HasText (or_then a b)
or_text None b h k = k
or_text (Some f) b h k = h

below_text : (key : List ℕ) (a : Option Invalid) → IsUtf8 key → HasText a → HasText (below key a)
below_text key None u h = tt
below_text key (Some f) u h = IsUtf8-append (level key) f.path (level_text key u) h

for_some_text : {A : Type 0} (o : Option A) (otherwise : Option Invalid) (f : A → Option Invalid) → HasText otherwise → ((x : A) → HasText (f x)) → HasText (for_some o otherwise f)
for_some_text None otherwise f h k = h
for_some_text (Some x) otherwise f h k = k x

text_fault_text : (table : Table) (context : Context) (f : Form) (text : List ℕ) → HasText (text_fault table context f text)
text_fault_text table context f text =
    or_text _ _ (broken_if_text (not (table.is_formed f text)) 5)
    (or_text _ _ (broken_if_text (not (has_target table context f text)) 7) (broken_if_text (not (has_handler context f text)) 8))

mutual
  value_text : (table : Table) (context : Context) (p : Place) (d : Data) → IsDocument d → HasText (value_fault table context p d)
  value_text table context p null h = broken_if_text (not (table.row p).null) 1
  value_text table context p (boolean b) h = IsUtf8-nil
  value_text table context p (number n) h =
      for_some_text (table.row p).number (broken 1) (λ range. broken_if (not (is_in_range range n)) 4) IsUtf8-nil (λ range. broken_if_text (not (is_in_range range n)) 4)
  value_text table context p (string s) h =
      for_some_text (table.row p).text (broken 1) (λ f. text_fault table context f s) IsUtf8-nil (λ f. text_fault_text table context f s)
  value_text table context p (array ds) h =
      for_some_text (table.row p).items (broken 1) (λ q. items_fault table context q 0 ds) IsUtf8-nil (λ q. items_text table context q 0 ds h)
  value_text table context p (object ms) h =
      for_some_text (table.row p).members (broken 1)
      (λ ns. or_then (broken_if (not (has_required (table.entries p) ms)) 3) (or_then (broken_if (not (is_choice_at table p ms)) 6) (members_fault table context (table.entries p) ns [] ms)))
      IsUtf8-nil
      (λ ns. or_text _ _ (broken_if_text (not (has_required (table.entries p) ms)) 3) (or_text _ _ (broken_if_text (not (is_choice_at table p ms)) 6) (members_text table context (table.entries p) ns [] ms h)))

  items_text : (table : Table) (context : Context) (p : Place) (i : ℕ) (ds : Items) → AreDocuments ds → HasText (items_fault table context p i ds)
  items_text table context p i no_items h = tt
  items_text table context p i (item d ds) h =
      or_text _ _ (below_text (decimal i) (value_fault table context p d) (decimal_text i) (value_text table context p d h.0)) (items_text table context p (i + 1) ds h.1)

  members_text : (table : Table) (context : Context) (entries : List Entry) (ns : Names) (earlier : List (List ℕ)) (ms : Members) → AreMembers ms → HasText (members_fault table context entries ns earlier ms)
  members_text table context entries ns earlier no_members h = tt
  members_text table context entries ns earlier (member name d ms) h =
      or_text _ _
      (below_text name (for_some (place_of entries ns (is_again earlier name) name) (broken 2) (λ p. value_fault table context p d)) h.0
      (for_some_text (place_of entries ns (is_again earlier name) name) (broken 2) (λ p. value_fault table context p d) IsUtf8-nil (λ p. value_text table context p d h.1)))
      (members_text table context entries ns (earlier ++ name ∷ []) ms h.3)

pub fault_text : (document : Data) (names : List (List ℕ)) (fault : Invalid) → IsDocument document → fault_of document names ≡ Some fault → IsUtf8 fault.path
fault_text document names fault h is =
    subst HasText is (value_text whole_table (record { document = document; handlers = names }) place.Whole document h)
