-- The names of the header fields that a step changes.
use Rattle.std.proofs.Common.{◌≡◌, ℕ, not, ◌&&◌, List, [], ◌∷◌, ◌++◌, map, Option, Some, None, IsTrue, All, refl}
use Rattle.std.proofs.lemmas.List.Elements.{All-append, All-cons, All-nil}
use Rattle.std.specs.List.{flat_map}
use Rattle.serde_json.specs.Data.{Data, null, boolean, number, string, array, object, Items, no_items, item, Members, no_members, member}
use Rattle.serde_json.specs.Find.{as_str, get}
use Rattle.conf_tree.specs.Document.{AreDocuments, AreMembers, ComeAfter, IsDocument}
use Rattle.conf_validate.specs.Configuration.{changes_in, changes_list, items_list, items_of, part, steps_of_routes, values_list}
use Rattle.conf_validate.specs.Forms.{is_again, is_header_name}
use Rattle.unit_types.specs.Names.{Ascends}
use Rattle.unit_types.proofs.NameLemmas.{ascends-cons, ascends-nil}
use Rattle.conf_validate.specs.Table.{Entry, whole_table}
use Rattle.conf_validate.specs.Valid.{Context, members_fault}
use Rattle.conf_validate.specs.declared.place.Names.TheVariants as names
use Rattle.conf_validate.specs.declared.place.Place.TheVariants as place
use Rattle.conf_validate.proofs.CleanLemmas.{and_left, below_none, is_placed, or_left, or_right}
use Rattle.conf_validate.proofs.DestinationLemmas.{IsBefore, IsTree, get_document}

abbrev Change : Type 0
Change = List ℕ × Option (List ℕ)

abbrev HasFieldName : Change → Type 0
HasFieldName change = IsTrue (is_header_name change.0)

pub changes_list_named : (c : Context) (es : List Entry) (earlier : List (List ℕ)) (ms : Members) → members_fault whole_table c es (names.Header place.HeaderText) earlier ms ≡ None → All HasFieldName (changes_list ms)
changes_list_named c es earlier no_members h = All-nil HasFieldName
changes_list_named c es earlier (member k d ms) h =
    All-cons HasFieldName (k, as_str d) (changes_list ms)
    (and_left (is_header_name k) (not (is_again earlier k)) (is_placed c (is_header_name k && not (is_again earlier k)) place.HeaderText d (below_none k _ (or_left _ _ h))))
    (changes_list_named c es (earlier ++ k ∷ []) ms (or_right _ _ h))

-- ---- they ascend

changes_after : (k : List ℕ) (ms : Members) → ComeAfter k ms → All (IsBefore k) (map (λ (change : Change). change.0) (changes_list ms))
changes_after k no_members h = All-nil (IsBefore k)
changes_after k (member l d ms) h = All-cons (IsBefore k) l (map (λ (change : Change). change.0) (changes_list ms)) h.0 (changes_after k ms h.1)

changes_list_ascend : (ms : Members) → AreMembers ms → Ascends (map (λ (change : Change). change.0) (changes_list ms))
changes_list_ascend no_members h = ascends-nil
changes_list_ascend (member k d ms) h = ascends-cons k (map (λ (change : Change). change.0) (changes_list ms)) (changes_after k ms h.2) (changes_list_ascend ms h.3)

changes_ascend : (o : Option Data) → IsTree o → Ascends (map (λ (change : Change). change.0) (changes_in o))
changes_ascend None h = ascends-nil
changes_ascend (Some null) h = ascends-nil
changes_ascend (Some (boolean b)) h = ascends-nil
changes_ascend (Some (number n)) h = ascends-nil
changes_ascend (Some (string s)) h = ascends-nil
changes_ascend (Some (array ds)) h = ascends-nil
changes_ascend (Some (object ms)) h = changes_list_ascend ms (h (object ms) refl)

part_tree : (k : List ℕ) (o : Option Data) → IsTree o → IsTree (part k o)
part_tree k None h e at = absurd (cc at)
part_tree k (Some d) h e at = get_document k d e (h d refl) at

-- those of a member of a member
pub part_changes_ascend : (k l : List ℕ) (d : Data) → IsDocument d → Ascends (map (λ (change : Change). change.0) (changes_in (part l (get k d))))
part_changes_ascend k l d h = changes_ascend (part l (get k d)) (part_tree l (get k d) (λ e at. get_document k d e h at))

-- ---- the steps of a document are documents

items_documents : (ds : Items) → AreDocuments ds → All IsDocument (items_list ds)
items_documents no_items h = All-nil IsDocument
items_documents (item d ds) h = All-cons IsDocument d (items_list ds) h.0 (items_documents ds h.1)

items_of_documents : (d : Data) → IsDocument d → All IsDocument (items_of d)
items_of_documents null h = All-nil IsDocument
items_of_documents (boolean b) h = All-nil IsDocument
items_of_documents (number n) h = All-nil IsDocument
items_of_documents (string s) h = All-nil IsDocument
items_of_documents (array ds) h = items_documents ds h
items_of_documents (object ms) h = All-nil IsDocument

values_documents : (ms : Members) → AreMembers ms → All IsDocument (flat_map items_of (values_list ms))
values_documents no_members h = All-nil IsDocument
values_documents (member k d ms) h = All-append IsDocument (items_of d) (flat_map items_of (values_list ms)) (items_of_documents d h.1) (values_documents ms h.3)

pub steps_documents : (d : Data) → IsDocument d → All IsDocument (steps_of_routes d)
steps_documents null h = All-nil IsDocument
steps_documents (boolean b) h = All-nil IsDocument
steps_documents (number n) h = All-nil IsDocument
steps_documents (string s) h = All-nil IsDocument
steps_documents (array ds) h = items_documents ds h
steps_documents (object ms) h = values_documents ms h
