-- The walk over members and items, place by place.
use Rattle.std.proofs.Common.{◌≡◌, ℕ, zero, suc, ◌<◌, ◌≤◌, Bool, not, Option, length, get_or, sym, ◌∙◌, List, [], ◌∷◌, ◌++◌, Some, refl, ap, subst, arith}
use Rattle.serde_json.specs.Data.{Data, Members, no_members, member}
use Rattle.serde_json.specs.Events.{members_len}
use Rattle.conf_tree.specs.declared.tree.Tree.{Tree}
use Rattle.conf_validate.specs.Again.{IsAgain, Knows, KnowsOf}
use Rattle.conf_validate.specs.Forms.{is_again}
use Rattle.conf_validate.specs.Table.{Entry, Table, entries_of, row_of, whole_table}
use Rattle.conf_validate.specs.Valid.{Context, below, broken, broken_if, for_some, has_required, is_choice_at, members_fault, or_then, place_of, value_fault}
use Rattle.conf_validate.specs.declared.fault.Invalid.{Invalid}
use Rattle.conf_validate.specs.declared.lower.LowerNames.{LowerNames}
use Rattle.conf_validate.specs.declared.place.Names.{Names}
use Rattle.conf_validate.specs.declared.place.Names.TheVariants as names
use Rattle.conf_validate.specs.declared.place.Place.{Place}
use Rattle.serde_json.specs.Data.{object}
use Rattle.conf_tree.specs.Document.{IsDocument, AreDocuments, AreMembers}
use Rattle.conf_tree.specs.View.{data_of, list_data, name_at, value_at}

-- the members from a place on
abbrev pub behind : ℕ → Members → Members
behind i no_members = no_members
behind zero (member k d ms) = member k d ms
behind (suc i) (member k d ms) = behind i ms

-- the names of the members before a place
abbrev pub names_before : ℕ → Members → List (List ℕ)
names_before i no_members = []
names_before zero (member k d ms) = []
names_before (suc i) (member k d ms) = k ∷ names_before i ms

pub behind-zero : (ms : Members) → behind 0 ms ≡ ms
behind-zero no_members = refl
behind-zero (member k d ms) = refl

pub names_before-zero : (ms : Members) → names_before 0 ms ≡ []
names_before-zero no_members = refl
names_before-zero (member k d ms) = refl

same_name : (k l : List ℕ) → Some k ≡ Some l → k ≡ l
same_name k l e = cc e

same_value : (d e : Data) → Some d ≡ Some e → d ≡ e
same_value d e h = cc h

pub behind-more : (ms : Members) (i : ℕ) (k : List ℕ) (d : Data) → name_at i ms ≡ Some k → value_at i ms ≡ Some d → behind i ms ≡ member k d (behind (suc i) ms)
behind-more no_members i k d a b = absurd (cc a)
behind-more (member l e ms) zero k d a b = rw (same_name l k a, same_value e d b, behind-zero ms) refl
behind-more (member l e ms) (suc i) k d a b = behind-more ms i k d a b

pub names_before-more : (ms : Members) (i : ℕ) (k : List ℕ) → name_at i ms ≡ Some k → names_before (suc i) ms ≡ names_before i ms ++ k ∷ []
names_before-more no_members i k a = absurd (cc a)
names_before-more (member l e ms) zero k a = rw (same_name l k a, names_before-zero ms) refl
names_before-more (member l e ms) (suc i) k a = ap (λ names. l ∷ names) (names_before-more ms i k a)

pub behind-past : (ms : Members) (i : ℕ) → members_len ms ≤ i → behind i ms ≡ no_members
behind-past no_members i h = refl
behind-past (member l e ms) zero h = absurd (omega arith)
behind-past (member l e ms) (suc i) h = behind-past ms i (omega arith)

pub item_document : (ts : List Tree) (i : ℕ) (d : Tree) → AreDocuments (list_data ts) → i < length ts → IsDocument (data_of (get_or ts i d))
item_document [] i d h lt = absurd (omega arith)
item_document (t ∷ ts) zero d h lt = h.0
item_document (t ∷ ts) (suc i) d h lt = item_document ts i d h.1 (omega arith)

document_is : (d e : Data) → Some d ≡ Some e → IsDocument d → IsDocument e
document_is d e h p = let P : Data → Type 0 = λ x. IsDocument x in subst P (same_value d e h) p

pub value_document : (ms : Members) (i : ℕ) (d : Data) → AreMembers ms → value_at i ms ≡ Some d → IsDocument d
value_document no_members i d h e = absurd (cc e)
value_document (member k f ms) zero d h e = document_is f d e h.1
value_document (member k f ms) (suc i) d h e = value_document ms i d h.3 e

pub knows_nothing : (ns : Names) (set : LowerNames) → Knows set [] → KnowsOf ns set []
knows_nothing names.Fixed set h = tt
knows_nothing (names.Any p) set h = tt
knows_nothing (names.Listener p) set h = tt
knows_nothing (names.Target p) set h = tt
knows_nothing (names.Header p) set h = h

same_place : (es : List Entry) (ns : Names) (earlier : List (List ℕ)) (k : List ℕ) (again : Bool) → IsAgain ns earlier k again → place_of es ns again k ≡ place_of es ns (is_again earlier k) k
same_place es names.Fixed earlier k again h = refl
same_place es (names.Any p) earlier k again h = refl
same_place es (names.Listener p) earlier k again h = refl
same_place es (names.Target p) earlier k again h = refl
same_place es (names.Header p) earlier k again h = ap (λ b. place_of es (names.Header p) b k) h

-- one member of the walk, with what was found of it
pub members_step : (t : Table) (c : Context) (es : List Entry) (ns : Names) (ms : Members) (i : ℕ) (k : List ℕ) (d : Data) (again : Bool) (p : Option Place) (fault : Option Invalid) → name_at i ms ≡ Some k → value_at i ms ≡ Some d → IsAgain ns (names_before i ms) k again → p ≡ place_of es ns again k → fault ≡ for_some p (broken 2) (λ q. value_fault t c q d) → members_fault t c es ns (names_before i ms) (behind i ms) ≡ or_then (below k fault) (members_fault t c es ns (names_before (suc i) ms) (behind (suc i) ms))
members_step t c es ns ms i k d again p fault a b h e f =
    let found : fault ≡ for_some (place_of es ns (is_again (names_before i ms) k) k) (broken 2) (λ q. value_fault t c q d) = f ∙ ap (λ o. for_some o (broken 2) (λ q. value_fault t c q d)) (e ∙ same_place es ns (names_before i ms) k again h) in
    ap (members_fault t c es ns (names_before i ms)) (behind-more ms i k d a b)
    ∙ ap (λ x. or_then (below k x) (members_fault t c es ns (names_before i ms ++ k ∷ []) (behind (suc i) ms))) (sym found)
    ∙ ap (λ names. or_then (below k fault) (members_fault t c es ns names (behind (suc i) ms))) (sym (names_before-more ms i k a))

pub object_walk : (c : Context) (p : Place) (ns : Names) (ms : Members) → (row_of p).members ≡ Some ns → value_fault whole_table c p (object ms) ≡ or_then (broken_if (not (has_required (entries_of p) ms)) 3) (or_then (broken_if (not (is_choice_at whole_table p ms)) 6) (members_fault whole_table c (entries_of p) ns [] ms))
object_walk c p ns ms e = rw e refl
