-- Which configurations are valid: the walk from the whole to its parts, and the first rule that it finds broken.
use Rattle.std.specs.Prelude.{ℕ, ◌+◌, Bool, true, false, not, ◌&&◌, ◌||◌, ◌==◌, nat_le, List, [], ◌∷◌, ◌++◌, codes, Option, Some, None, if◌then◌else◌}
use Rattle.std.specs.List.{list_any, list_all, flat_map}
use Rattle.std.specs.Str.{bytes_eq}
use Rattle.std.specs.Fmt.{decimal}
use Rattle.serde_json.specs.Data.{Num, unsigned, negative, float, Data, null, boolean, number, string, array, object, Items, no_items, item, Members, no_members, member}
use Rattle.conf_validate.specs.Choices.{has}
use Rattle.conf_validate.specs.Forms.{is_listener_name, is_target_name, is_header_name, is_again}
use Rattle.conf_validate.specs.Table.{Table, Entry, place_among, whole_table}
use Rattle.conf_validate.specs.declared.fault.Invalid.{Invalid}
use Rattle.conf_validate.specs.declared.place.Form.{Form}
use Rattle.conf_validate.specs.declared.place.Form.TheVariants as form
use Rattle.conf_validate.specs.declared.place.Names.{Names}
use Rattle.conf_validate.specs.declared.place.Names.TheVariants as names
use Rattle.conf_validate.specs.declared.place.Place.{Place}
use Rattle.conf_validate.specs.declared.place.Place.TheVariants as place
use Rattle.conf_validate.specs.declared.place.Range.{Range}

-- ---- paths

-- a byte of a key in a path: `~` is written `~0` and `/` is written `~1` (RFC 6901, section 3)
abbrev pub key_byte : ℕ → List ℕ
key_byte b = if b == 126 then codes "~0" else if b == 47 then codes "~1" else b ∷ []

abbrev pub level : List ℕ → List ℕ
level key = 47 ∷ flat_map key_byte key

-- the rule is broken at the value itself
abbrev pub broken : ℕ → Option Invalid
broken rule = Some (record { path = []; rule = rule })

abbrev pub broken_if : Bool → ℕ → Option Invalid
broken_if test rule = if test then broken rule else None

-- what is broken in a member or an item, seen from the value that has it
abbrev pub below : List ℕ → Option Invalid → Option Invalid
below key None = None
below key (Some fault) = Some (record { path = level key ++ fault.path; rule = fault.rule })

-- the first of two faults
abbrev pub or_then : Option Invalid → Option Invalid → Option Invalid
or_then None next = next
or_then (Some fault) next = Some fault

abbrev pub for_some : {A : Type 0} → Option A → Option Invalid → (A → Option Invalid) → Option Invalid
for_some None otherwise f = otherwise
for_some (Some x) otherwise f = f x

-- ---- the rules of one value

-- the document and the names of the handlers
pub record Context : Type 0 where
  pub document : Data
  pub handlers : List (List ℕ)

-- rule 4: the number is in its range
abbrev pub is_in_range : Range → Num → Bool
is_in_range range (unsigned n) = nat_le range.first n && nat_le n range.last
is_in_range range (negative z) = false
is_in_range range (float x) = false

-- rule 7: what a pass names is there
abbrev pub has_target : Table → Context → Form → List ℕ → Bool
has_target table context form.Pass text = table.leads context.document text
has_target table context other text = true

-- rule 8: the handler is there
abbrev pub has_handler : Context → Form → List ℕ → Bool
has_handler context form.Handler text = list_any (λ name. bytes_eq name text) context.handlers
has_handler context other text = true

-- rules 5, 7 and 8
abbrev pub text_fault : Table → Context → Form → List ℕ → Option Invalid
text_fault table context f text =
    or_then (broken_if (not (table.is_formed f text)) 5)
    (or_then (broken_if (not (has_target table context f text)) 7) (broken_if (not (has_handler context f text)) 8))

-- rule 3: each required member is there
abbrev pub has_required : List Entry → Members → Bool
has_required entries ms = list_all (λ e. not e.required || has e.name ms) entries

-- rule 6: an action has one of its choices
abbrev pub is_choice_at : Table → Place → Members → Bool
is_choice_at table place.Action ms = table.is_chosen ms
is_choice_at table other ms = true

-- rule 2: the place of a member's value, where its name is one of its object's; a header field isn't one again
abbrev pub place_if : Bool → Place → Option Place
place_if test p = if test then Some p else None

abbrev pub place_of : List Entry → Names → Bool → List ℕ → Option Place
place_of entries names.Fixed again name = place_among name entries
place_of entries (names.Any p) again name = Some p
place_of entries (names.Listener p) again name = place_if (is_listener_name name) p
place_of entries (names.Target p) again name = place_if (is_target_name name) p
place_of entries (names.Header p) again name = place_if (is_header_name name && not again) p

-- ---- the walk

-- the first broken rule of a value at its place: its type, then for an object rules 3 and 6, then its members in their
-- order, each with its name first; the items of an array come by index
abbrev mutual
  pub value_fault : Table → Context → Place → Data → Option Invalid
  value_fault table context p null = broken_if (not (table.row p).null) 1
  value_fault table context p (boolean b) = broken 1
  value_fault table context p (number n) =
      for_some (table.row p).number (broken 1) (λ range. broken_if (not (is_in_range range n)) 4)
  value_fault table context p (string s) = for_some (table.row p).text (broken 1) (λ f. text_fault table context f s)
  value_fault table context p (array ds) =
      for_some (table.row p).items (broken 1) (λ q. items_fault table context q 0 ds)
  value_fault table context p (object ms) =
      for_some (table.row p).members (broken 1) (λ ns.
      or_then (broken_if (not (has_required (table.entries p) ms)) 3)
      (or_then (broken_if (not (is_choice_at table p ms)) 6) (members_fault table context (table.entries p) ns [] ms)))

  pub items_fault : Table → Context → Place → ℕ → Items → Option Invalid
  items_fault table context p i no_items = None
  items_fault table context p i (item d ds) =
      or_then (below (decimal i) (value_fault table context p d)) (items_fault table context p (i + 1) ds)

  pub members_fault : Table → Context → List Entry → Names → List (List ℕ) → Members → Option Invalid
  members_fault table context entries ns earlier no_members = None
  members_fault table context entries ns earlier (member name d ms) =
      or_then
      (below name (for_some (place_of entries ns (is_again earlier name) name) (broken 2) (λ p. value_fault table context p d)))
      (members_fault table context entries ns (earlier ++ name ∷ []) ms)

-- the first broken rule of a configuration, by a table
abbrev pub fault_by : Table → Data → List (List ℕ) → Option Invalid
fault_by table document handlers =
    value_fault table (record { document = document; handlers = handlers }) place.Whole document

-- the first broken rule of a configuration
abbrev pub fault_of : Data → List (List ℕ) → Option Invalid
fault_of document handlers = fault_by whole_table document handlers
