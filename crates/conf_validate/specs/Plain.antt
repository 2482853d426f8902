-- The table that knows nothing of variables, logs, rewritten paths and changed header fields, and the documents for which
-- it is enough.
use Rattle.std.specs.Prelude.{◌≡◌, ◌≢◌, ℕ, Bool, true, false, not, ◌&&◌, ◌||◌, List, [], ◌∷◌, ◌++◌, codes, Option, Some, None, if◌then◌else◌, All, IfSome, IsTrue}
use Rattle.std.specs.List.{Contains, flat_map}
use Rattle.std.specs.Option.{is_some, option_to_list}
use Rattle.std.specs.Str.{bytes_eq}
use Rattle.serde_json.specs.Data.{Data, null, boolean, number, string, array, object, Items, Members}
use Rattle.serde_json.specs.Find.{get}
use Rattle.conf_validate.specs.Choices.{has, is_one}
use Rattle.conf_validate.specs.Configuration.{items_list, list_in, part, steps_of_routes, text_in, values_list}
use Rattle.conf_validate.specs.Forms.{is_address_pattern, is_in_line, is_text_pattern}
use Rattle.conf_validate.specs.Table.{Entry, Table, entries_of, nothing, row_of}
use Rattle.conf_validate.specs.Targets.{is_target}
use Rattle.conf_validate.specs.declared.conf.Step.{Step}
use Rattle.conf_validate.specs.declared.place.Form.{Form}
use Rattle.conf_validate.specs.declared.place.Form.TheVariants as form
use Rattle.conf_validate.specs.declared.place.Place.{Place}
use Rattle.conf_validate.specs.declared.place.Place.TheVariants as place
use Rattle.conf_validate.specs.declared.place.Row.{Row}

-- ---- the plain table

-- the places that this table doesn't have
abbrev pub is_later : Place → Bool
is_later place.Rewrite = true
is_later place.ResponseHeaders = true
is_later place.HeaderText = true
is_later place.AccessLog = true
is_later place.Format = true
is_later other = false

-- what may stand at a place; nothing at these
unfoldable pub plain_row_of : Place → Row
plain_row_of p = if is_later p then nothing else row_of p

-- the members whose values have another place
abbrev pub earlier_entries : List Entry → List Entry
earlier_entries [] = []
earlier_entries (e ∷ es) = if is_later e.place then earlier_entries es else e ∷ earlier_entries es

-- the members of the objects whose names are fixed
unfoldable pub plain_entries_of : Place → List Entry
plain_entries_of p = earlier_entries (entries_of p)

-- rule 5: a pass is any text, and a location has no CR, LF or NUL
abbrev pub plain_form : Form → List ℕ → Bool
plain_form form.TextPattern text = is_text_pattern text
plain_form form.AddressPattern text = is_address_pattern text
plain_form form.Pass text = true
plain_form form.Location text = is_in_line text
plain_form form.External text = bytes_eq text (codes "external")
plain_form form.Handler text = true
plain_form other text = false

-- rule 6: exactly one of `pass` and `return`, and no `location` without `return`
abbrev pub plain_choice : Members → Bool
plain_choice ms =
    is_one (has (codes "pass") ms) (has (codes "return") ms)
    && (not (has (codes "location") ms) || has (codes "return") ms)

abbrev pub plain_table : Table
plain_table = record {
  row = plain_row_of;
  entries = plain_entries_of;
  is_formed = plain_form;
  leads = is_target;
  is_chosen = plain_choice;
}

-- ---- plain documents: no `$` in any pass or location, and none of the members that the plain table doesn't have

-- the values of an object's members
abbrev pub member_values : Data → List Data
member_values null = []
member_values (boolean b) = []
member_values (number n) = []
member_values (string s) = []
member_values (array ds) = []
member_values (object ms) = values_list ms

abbrev pub listeners_in : Data → List Data
listeners_in document = list_in member_values (get (codes "listeners") document)

abbrev pub applications_in : Data → List Data
applications_in document = list_in member_values (get (codes "applications") document)

-- the steps of all routes
abbrev pub steps_in : Data → List Data
steps_in document = list_in steps_of_routes (get (codes "routes") document)

abbrev pub HasNoDollar : List ℕ → Type 0
HasNoDollar text = All (λ b. b ≢ 36) text

abbrev pub IsPlainListener : Data → Type 0
IsPlainListener listener = IfSome (text_in (get (codes "pass") listener)) HasNoDollar

pub record IsPlainAction (action : Option Data) : Type 0 where
  pub pass : IfSome (text_in (part (codes "pass") action)) HasNoDollar
  pub location : IfSome (text_in (part (codes "location") action)) HasNoDollar
  pub rewrite : part (codes "rewrite") action ≡ None
  pub response_headers : part (codes "response_headers") action ≡ None

abbrev pub IsPlainStep : Data → Type 0
IsPlainStep step = IsPlainAction (get (codes "action") step)

pub record IsPlain (document : Data) : Type 0 where
  pub listeners : All IsPlainListener (listeners_in document)
  pub steps : All IsPlainStep (steps_in document)
  pub access_log : get (codes "access_log") document ≡ None

-- a step that rewrites no path and changes no field
abbrev pub ChangesNothing : Step → Type 0
ChangesNothing step = (step.rewrite ≡ None) × (step.changes ≡ [])

-- ---- where the passes of a document lead

-- the text of the pass, if there is one
abbrev pub pass_of : Option Data → List (List ℕ)
pass_of value = option_to_list (text_in (part (codes "pass") value))

-- the passes of the listeners and of the steps' actions
abbrev pub passes_of : Data → List (List ℕ)
passes_of document =
    flat_map (λ listener. pass_of (Some listener)) (listeners_in document)
    ++ flat_map (λ step. pass_of (get (codes "action") step)) (steps_in document)

-- a pass names the routes, which are an array, or one of them by its name, or an application by its name
pub data Finds (document : Data) (pass : List ℕ) : Type 0 where
  the_routes : (steps : Items) → pass ≡ codes "routes" → get (codes "routes") document ≡ Some (array steps) → Finds document pass
  a_route : (name : List ℕ) (route : Data) → pass ≡ codes "routes/" ++ name → part name (get (codes "routes") document) ≡ Some route → Finds document pass
  an_application : (name : List ℕ) (application : Data) → pass ≡ codes "applications/" ++ name → part name (get (codes "applications") document) ≡ Some application → Finds document pass

-- a step of the document, which has an action
pub record IsStep (document step : Data) : Type 0 where
  pub there : Contains (steps_in document) step
  pub action : IsTrue (is_some (get (codes "action") step))

-- an application of the document, whose handler is one of these
pub record IsApplication (document : Data) (handlers : List (List ℕ)) (application : Data) : Type 0 where
  pub there : Contains (applications_in document) application
  pub executable : IsTrue (is_some (text_in (get (codes "executable") application)))
  pub handler : IfSome (text_in (get (codes "executable") application)) (Contains handlers)

-- a pass leads to the steps of what it names, or to the application that it names
pub data Leads (document : Data) (handlers : List (List ℕ)) (pass : List ℕ) : Type 0 where
  to_routes : (steps : Items) → pass ≡ codes "routes" → get (codes "routes") document ≡ Some (array steps) → All (IsStep document) (items_list steps) → Leads document handlers pass
  to_route : (name : List ℕ) (steps : Items) → pass ≡ codes "routes/" ++ name → part name (get (codes "routes") document) ≡ Some (array steps) → All (IsStep document) (items_list steps) → Leads document handlers pass
  to_application : (name : List ℕ) (application : Data) → pass ≡ codes "applications/" ++ name → part name (get (codes "applications") document) ≡ Some application → IsApplication document handlers application → Leads document handlers pass
