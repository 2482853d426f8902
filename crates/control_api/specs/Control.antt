-- What a control request does to the documents, and what it is answered.
use Rattle.std.specs.Prelude.{ℕ, ◌+◌, nat_lt, Bool, false, List, [], ◌∷◌, ◌++◌, length, codes, Option, Some, None, if◌then◌else◌}
use Rattle.std.specs.Str.{bytes_eq}
use Rattle.serde_json.specs.Data.{Data}
use Rattle.serde_json.specs.Written.{compact_text}
use Rattle.conf_tree.specs.Paths.{Change, changed, absent, no_array, get, put, append, remove}
use Rattle.conf_tree.specs.Text.{document_of}
use Rattle.conf_validate.specs.Valid.{fault_of}
use Rattle.conf_validate.specs.declared.fault.Invalid.{Invalid}
use Rattle.conf_book.specs.Books.{newest_document}
use Rattle.http_front.specs.NextUnit.{Found, request, bad, cut, finished, wait, NextUnit, next_unit}
use Rattle.http_front.specs.Written.{continue_bytes}
use Rattle.control_api.specs.Keys.{are_texts, keys_of}
use Rattle.control_api.specs.Replies.{done_text, refusal_bytes, reply_bytes}
use Rattle.control_api.specs.declared.method.Method.{Method}
use Rattle.control_api.specs.declared.method.Method.TheVariants.{Get, Put, Post, Delete}
use Rattle.control_api.specs.declared.refusal.Refusal.{Refusal}
use Rattle.control_api.specs.declared.refusal.Refusal.TheVariants.{BadRequest, NotFound, BadMethod, NoDocument, TooManyChanges, Broken}

-- the most bytes of a request's content
abbrev pub content_limit : ℕ
content_limit = 1048576

-- the most changes that are accepted; a list of documents has one more, with which it begins
abbrev pub change_limit : ℕ
change_limit = 1000

-- a text that is shown; a document that is accepted; or why there is neither
pub data Answer : Type 0 where
  shown : List ℕ → Answer
  accepted : Data → Answer
  refused : Refusal → Answer

-- ---- one change

-- a document that breaks no rule is accepted, and of another its first broken rule is told
abbrev pub valid_answer : Data → Option Invalid → Answer
valid_answer d None = accepted d
valid_answer d (Some fault) = refused (Broken fault)

-- a changed document is looked at where more changes may be accepted
abbrev pub change_answer : List Data → List (List ℕ) → Change → Answer
change_answer documents names absent = refused NotFound
change_answer documents names no_array = refused BadMethod
change_answer documents names (changed d) =
    if nat_lt change_limit (length documents) then refused TooManyChanges else valid_answer d (fault_of d names)

-- the change that the keys lead to; a key that is no text leads nowhere
abbrev pub change_at : List (List ℕ) → Change → Change
change_at keys change = if are_texts keys then change else absent

-- a value is put or appended where the content is a document
abbrev pub body_answer : List Data → List (List ℕ) → List (List ℕ) → (Data → Change) → Option Data → Answer
body_answer documents names keys change None = refused NoDocument
body_answer documents names keys change (Some value) = change_answer documents names (change_at keys (change value))

-- ---- one request

abbrev pub shown_or_absent : Option Data → Answer
shown_or_absent None = refused NotFound
shown_or_absent (Some d) = shown (compact_text d)

abbrev pub value_at : List (List ℕ) → Data → Option Data
value_at keys d = if are_texts keys then get keys d else None

abbrev pub method_of : List ℕ → Option Method
method_of text =
    if bytes_eq text (codes "GET") then Some Get
    else if bytes_eq text (codes "PUT") then Some Put
    else if bytes_eq text (codes "POST") then Some Post
    else if bytes_eq text (codes "DELETE") then Some Delete
    else None

-- GET shows a value, PUT puts one, POST appends one to an array, and DELETE removes one
abbrev pub method_answer : List Data → List (List ℕ) → List (List ℕ) → List ℕ → Option Method → Answer
method_answer documents names keys body None = refused BadMethod
method_answer documents names keys body (Some Get) = shown_or_absent (value_at keys (newest_document documents))
method_answer documents names keys body (Some Put) =
    body_answer documents names keys (λ value. put keys value (newest_document documents)) (document_of body)
method_answer documents names keys body (Some Post) =
    body_answer documents names keys (λ value. append keys value (newest_document documents)) (document_of body)
method_answer documents names keys body (Some Delete) =
    change_answer documents names (change_at keys (remove keys (newest_document documents)))

-- the path is looked at before the method
abbrev pub keys_answer : List Data → List (List ℕ) → List ℕ → List ℕ → Option (List (List ℕ)) → Answer
keys_answer documents names method body None = refused NotFound
keys_answer documents names method body (Some keys) = method_answer documents names keys body (method_of method)

-- the answer to a request of this method, target and content
abbrev pub answer_of : List Data → List (List ℕ) → List ℕ → List ℕ → List ℕ → Answer
answer_of documents names method target body = keys_answer documents names method body (keys_of target)

-- ---- the bytes of a connection

-- the bytes of the reply, and the documents behind it
pub record Outcome : Type 0 where
  pub reply : List ℕ
  pub documents : List Data

-- an accepted document stands behind the others, and nothing else changes them
abbrev pub answer_outcome : List Data → Bool → Answer → Outcome
answer_outcome documents head (shown text) = record { reply = reply_bytes head 200 text; documents = documents }
answer_outcome documents head (accepted d) =
    record { reply = reply_bytes head 200 done_text; documents = documents ++ d ∷ [] }
answer_outcome documents head (refused refusal) =
    record { reply = refusal_bytes head refusal; documents = documents }

abbrev pub request_outcome : List Data → List (List ℕ) → List ℕ → List ℕ → List ℕ → Outcome
request_outcome documents names method target body =
    answer_outcome documents (bytes_eq method (codes "HEAD")) (answer_of documents names method target body)

abbrev pub bad_outcome : List Data → ℕ → Outcome
bad_outcome documents status = record { reply = refusal_bytes false (BadRequest status); documents = documents }

abbrev pub no_outcome : List Data → Outcome
no_outcome documents = record { reply = []; documents = documents }

-- without a request or a refusal there is no reply
abbrev pub found_outcome : List Data → List (List ℕ) → Found → Outcome
found_outcome documents names (request m used) = request_outcome documents names m.method m.target m.body
found_outcome documents names (bad status) = bad_outcome documents status
found_outcome documents names cut = no_outcome documents
found_outcome documents names finished = no_outcome documents
found_outcome documents names wait = no_outcome documents

-- the reply behind `100 Continue` where that is due (RFC 9110, section 10.1.1)
abbrev pub behind : List ℕ → Outcome → Outcome
behind bytes outcome = record { reply = bytes ++ outcome.reply; documents = outcome.documents }

abbrev pub unit_outcome : List Data → List (List ℕ) → NextUnit → Outcome
unit_outcome documents names unit =
    behind (continue_bytes unit.continue_due) (found_outcome documents names unit.found)

-- the reply to the bytes of one control connection, given the documents so far, the names of the handlers, and whether the
-- input ended behind these bytes. The request at their front counts; bytes behind it are ignored.
abbrev pub control_reply : List Data → List (List ℕ) → List ℕ → Bool → Outcome
control_reply documents names bytes ended = unit_outcome documents names (next_unit bytes ended content_limit)
