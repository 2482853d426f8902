-- The table of the places of a configuration: what may stand at each, and the members of its objects.
use Rattle.std.specs.Prelude.{ℕ, Bool, true, false, List, [], ◌∷◌, codes, Option, Some, None, if◌then◌else◌}
use Rattle.std.specs.Str.{bytes_eq}
use Rattle.serde_json.specs.Data.{Data, Members}
use Rattle.unit_types.specs.Limits.{content_limit_max}
use Rattle.conf_validate.specs.Choices.{is_choice}
use Rattle.conf_validate.specs.Forms.{has_form}
use Rattle.conf_validate.specs.Targets.{is_pass}
use Rattle.conf_validate.specs.declared.place.Form.{Form}
use Rattle.conf_validate.specs.declared.place.Form.TheVariants as form
use Rattle.conf_validate.specs.declared.place.Names.{Names}
use Rattle.conf_validate.specs.declared.place.Names.TheVariants as names
use Rattle.conf_validate.specs.declared.place.Place.{Place}
use Rattle.conf_validate.specs.declared.place.Place.TheVariants as place
use Rattle.conf_validate.specs.declared.place.Row.{Row}

-- ---- what a row may be

-- nothing; each row of the table is this with some of its parts
abbrev pub nothing : Row
nothing = record { null = false; number = None; text = None; items = None; members = None }

-- a number from the first to the last
abbrev pub a_number : ℕ → ℕ → Row
a_number first last = record nothing { number = Some (record { first = first; last = last }) }

-- a text of a form
abbrev pub a_text : Form → Row
a_text f = record nothing { text = Some f }

-- a text of a form, or null
abbrev pub a_text_or_null : Form → Row
a_text_or_null f = record (a_text f) { null = true }

-- a text of a form, or an array of values of a place
abbrev pub a_text_or_array : Form → Place → Row
a_text_or_array f p = record (a_text f) { items = Some p }

-- an array of values of a place
abbrev pub an_array : Place → Row
an_array p = record nothing { items = Some p }

-- an object with these members
abbrev pub an_object : Names → Row
an_object n = record nothing { members = Some n }

-- an object with these members, or an array of values of a place
abbrev pub an_object_or_array : Names → Place → Row
an_object_or_array n p = record (an_object n) { items = Some p }

-- ---- the table

-- what may stand at a place
unfoldable pub row_of : Place → Row
row_of place.Whole = an_object names.Fixed
row_of place.Listeners = an_object (names.Listener place.Listener)
row_of place.Listener = an_object names.Fixed
row_of place.Routes = an_object_or_array (names.Target place.Steps) place.Step
row_of place.Steps = an_array place.Step
row_of place.Step = an_object names.Fixed
row_of place.Match = an_object names.Fixed
row_of place.Texts = a_text_or_array form.TextPattern place.Text
row_of place.Text = a_text form.TextPattern
row_of place.Addresses = a_text_or_array form.AddressPattern place.Address
row_of place.Address = a_text form.AddressPattern
row_of place.NamedTexts = an_object_or_array (names.Any place.Texts) place.NamedTextsItem
row_of place.NamedTextsItem = an_object (names.Any place.Texts)
row_of place.Action = an_object names.Fixed
row_of place.Pass = a_text form.Pass
row_of place.Return = a_number 0 999
row_of place.Location = a_text form.Location
row_of place.Rewrite = a_text form.Rewrite
row_of place.ResponseHeaders = an_object (names.Header place.HeaderText)
row_of place.HeaderText = a_text_or_null form.HeaderText
row_of place.Applications = an_object (names.Target place.Application)
row_of place.Application = an_object names.Fixed
row_of place.Type = a_text form.External
row_of place.Executable = a_text form.Handler
row_of place.Limits = an_object names.Fixed
row_of place.Timeout = a_number 1 86400
row_of place.Settings = an_object names.Fixed
row_of place.Http = an_object names.Fixed
row_of place.MaxBodySize = a_number 0 content_limit_max
row_of place.AccessLog = an_object names.Fixed
row_of place.Format = a_text form.Format

-- a member of an object: its name, the place of its value, and whether it has to be there
pub record Entry : Type 0 where
  pub name : List ℕ
  pub place : Place
  pub required : Bool

abbrev pub optional : List ℕ → Place → Entry
optional name p = record { name = name; place = p; required = false }

abbrev pub required : List ℕ → Place → Entry
required name p = record { name = name; place = p; required = true }

-- the members of the objects whose names are fixed
unfoldable pub entries_of : Place → List Entry
entries_of place.Whole =
    optional (codes "listeners") place.Listeners ∷ optional (codes "routes") place.Routes
    ∷ optional (codes "applications") place.Applications ∷ optional (codes "settings") place.Settings
    ∷ optional (codes "access_log") place.AccessLog ∷ []
entries_of place.Listener = required (codes "pass") place.Pass ∷ []
entries_of place.Step = optional (codes "match") place.Match ∷ required (codes "action") place.Action ∷ []
entries_of place.Match =
    optional (codes "uri") place.Texts ∷ optional (codes "host") place.Texts ∷ optional (codes "method") place.Texts
    ∷ optional (codes "scheme") place.Texts ∷ optional (codes "query") place.Texts
    ∷ optional (codes "source") place.Addresses ∷ optional (codes "destination") place.Addresses
    ∷ optional (codes "arguments") place.NamedTexts ∷ optional (codes "cookies") place.NamedTexts
    ∷ optional (codes "headers") place.NamedTexts ∷ []
entries_of place.Action =
    optional (codes "pass") place.Pass ∷ optional (codes "return") place.Return
    ∷ optional (codes "location") place.Location ∷ optional (codes "rewrite") place.Rewrite
    ∷ optional (codes "response_headers") place.ResponseHeaders ∷ []
entries_of place.Application =
    required (codes "type") place.Type ∷ required (codes "executable") place.Executable
    ∷ optional (codes "limits") place.Limits ∷ []
entries_of place.Limits = optional (codes "timeout") place.Timeout ∷ []
entries_of place.Settings = optional (codes "http") place.Http ∷ []
entries_of place.Http = optional (codes "max_body_size") place.MaxBodySize ∷ []
entries_of place.AccessLog = optional (codes "format") place.Format ∷ []
entries_of other = []

-- the place of the member of this name, if there is one
abbrev pub place_among : List ℕ → List Entry → Option Place
place_among name [] = None
place_among name (e ∷ es) = if bytes_eq name e.name then Some e.place else place_among name es

-- ---- tables

-- a table says what may stand at a place, which members the objects with fixed names have, whether a text has its form
-- (rule 5), whether a pass leads somewhere in a document (rule 7), and whether an action has one of its choices (rule 6)
pub record Table : Type 0 where
  pub row : Place → Row
  pub entries : Place → List Entry
  pub is_formed : Form → List ℕ → Bool
  pub leads : Data → List ℕ → Bool
  pub is_chosen : Members → Bool

-- the table of a configuration
abbrev pub whole_table : Table
whole_table = record {
  row = row_of;
  entries = entries_of;
  is_formed = has_form;
  leads = is_pass;
  is_chosen = is_choice;
}
