-- The replies of the control interface: HTTP messages (RFC 9110, section 15) whose content is JSON (RFC 8259), behind each
-- of which the connection closes.
use Rattle.std.specs.Prelude.{ℕ, Bool, true, List, [], ◌∷◌, ◌++◌, codes, decimal}
use Rattle.serde_json.specs.Data.{string}
use Rattle.serde_json.specs.Written.{compact_text}
use Rattle.unit_types.specs.declared.message.Reply.{Reply}
use Rattle.conf_validate.specs.declared.fault.Invalid.{Invalid}
use Rattle.http_front.specs.Written.{http_bytes}
use Rattle.control_api.specs.declared.refusal.Refusal.{Refusal}
use Rattle.control_api.specs.declared.refusal.Refusal.TheVariants.{BadRequest, NotFound, BadMethod, NoDocument, TooManyChanges, Broken}

-- application/json (RFC 8259, section 11)
abbrev pub json_reply : ℕ → List ℕ → Reply
json_reply status body = record {
  status = status;
  fields = record { name = codes "Content-Type"; value = codes "application/json" } ∷ [];
  body = body;
}

-- its bytes; a reply to HEAD has no content
abbrev pub reply_bytes : Bool → ℕ → List ℕ → List ℕ
reply_bytes head status body = http_bytes (json_reply status body) head true

-- the content behind an accepted change
abbrev pub done_text : List ℕ
done_text = codes "{\"success\":\"Reconfiguration done.\"}"

abbrev pub status_of : Refusal → ℕ
status_of (BadRequest status) = status
status_of NotFound = 404
status_of BadMethod = 405
status_of NoDocument = 400
status_of TooManyChanges = 503
status_of (Broken fault) = 400

-- the first broken rule and its place; the place is written as a JSON text
abbrev pub fault_text : Invalid → List ℕ
fault_text fault =
    codes "{\"error\":\"Invalid configuration.\",\"path\":"
    ++ compact_text (string fault.path)
    ++ codes ",\"rule\":"
    ++ decimal fault.rule
    ++ codes "}"

abbrev pub text_of : Refusal → List ℕ
text_of (BadRequest status) = codes "{\"error\":\"Invalid request.\"}"
text_of NotFound = codes "{\"error\":\"Value doesn't exist.\"}"
text_of BadMethod = codes "{\"error\":\"Invalid method.\"}"
text_of NoDocument = codes "{\"error\":\"Invalid JSON.\"}"
text_of TooManyChanges = codes "{\"error\":\"Too many changes.\"}"
text_of (Broken fault) = fault_text fault

abbrev pub refusal_bytes : Bool → Refusal → List ℕ
refusal_bytes head refusal = reply_bytes head (status_of refusal) (text_of refusal)
