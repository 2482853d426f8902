-- What is planned before anything is changed, and the outcome of what a reader told.
use Rattle.std.specs.Prelude.{ℕ, ◌<◌, List, IsUtf8, ⊤}
use Rattle.unit_types.specs.declared.message.Addr.{Addr}
use Rattle.conf_tree.specs.Document.{IsDocument}
use Rattle.conf_tree.specs.Paths as paths
use Rattle.conf_tree.specs.View.{data_of}
use Rattle.conf_validate.specs.Answers.{IsConfiguration}
use Rattle.serde_json.specs.Data.{Data}
use Rattle.http_front.specs.declared.next_unit.Next.{Next}
use Rattle.http_front.specs.declared.next_unit.Next.TheVariants as next
use Rattle.control_api.specs.Control.{Answer, shown, accepted, refused, Outcome, bad_outcome, no_outcome, request_outcome}
use Rattle.control_api.specs.declared.change.Change.{Change}
use Rattle.control_api.specs.declared.change.Change.TheVariants as change
use Rattle.control_api.specs.declared.plan.Plan.{Plan}
use Rattle.control_api.specs.declared.plan.Plan.TheVariants.{Show, Accept, Refuse}
use Rattle.control_api.specs.declared.refusal.Refusal.{Refusal}
use Rattle.control_api.specs.declared.refusal.Refusal.TheVariants.{BadRequest, NotFound, BadMethod, NoDocument, TooManyChanges, Broken}

-- a changed tree as the change of its value
abbrev pub change_of : Change → paths.Change
change_of (change.Changed tree) = paths.changed (data_of tree)
change_of change.Absent = paths.absent
change_of change.NoArray = paths.no_array

-- a changed tree is a document
abbrev pub IsSoundChange : Change → Type 0
IsSoundChange (change.Changed tree) = IsDocument (data_of tree)
IsSoundChange change.Absent = ⊤
IsSoundChange change.NoArray = ⊤

-- a path in a refusal is a text, and a status can be written
abbrev pub IsSoundRefusal : Refusal → Type 0
IsSoundRefusal (BadRequest status) = status < 1000
IsSoundRefusal NotFound = ⊤
IsSoundRefusal BadMethod = ⊤
IsSoundRefusal NoDocument = ⊤
IsSoundRefusal TooManyChanges = ⊤
IsSoundRefusal (Broken fault) = IsUtf8 fault.path

-- the answer that is planned
abbrev pub answer_in : Plan → Answer
answer_in (Show text) = shown text
answer_in (Accept tree conf) = accepted (data_of tree)
answer_in (Refuse refusal) = refused refusal

-- what is to be accepted can be published
abbrev pub IsSoundPlan : List (List ℕ) → Plan → Type 0
IsSoundPlan names (Show text) = ⊤
IsSoundPlan names (Accept tree conf) = IsDocument (data_of tree) × IsConfiguration (data_of tree) names conf
IsSoundPlan names (Refuse refusal) = IsSoundRefusal refusal

-- the outcome of what a reader told
abbrev pub next_outcome : List Data → List (List ℕ) → Next → Outcome
next_outcome documents names next.Continue = no_outcome documents
next_outcome documents names (next.Request r) = request_outcome documents names r.method r.target r.body
next_outcome documents names next.NeedMore = no_outcome documents
next_outcome documents names (next.Bad status) = bad_outcome documents status
next_outcome documents names next.End = no_outcome documents
next_outcome documents names next.Cut = no_outcome documents

-- a status that a reader tells can be written
abbrev pub IsSoundNext : Next → Type 0
IsSoundNext next.Continue = ⊤
IsSoundNext (next.Request r) = ⊤
IsSoundNext next.NeedMore = ⊤
IsSoundNext (next.Bad status) = status < 1000
IsSoundNext next.End = ⊤
IsSoundNext next.Cut = ⊤

-- the addresses of a control connection, which nothing asks for
abbrev pub nowhere : Addr
nowhere = record { ip = 0; port = 0 }
