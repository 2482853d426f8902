-- What is found in the bytes that a reader keeps, where it keeps what others came to in their place.
use Rattle.std.specs.Prelude.{ℕ, ◌≡◌, ◌+◌, Bool, List, ◌++◌, drop}
use Rattle.unit_types.specs.declared.message.Request.{Request}
use Rattle.http_front.specs.declared.framing.Framing.{Framing}
use Rattle.http_front.specs.declared.content.Content.{Content}
use Rattle.http_front.specs.declared.content.Content.TheVariants.{Whole, Refused, Open}
use Rattle.http_front.specs.Message.{Message}
use Rattle.http_front.specs.Chunks.{content_behind}
use Rattle.http_front.specs.Content.{is_continue_due, content_by}
use Rattle.http_front.specs.NextUnit.{Found, request, bad, cut, finished, wait, NextUnit, open_found, next_unit}

-- the same unit so many bytes further back
abbrev pub found_past : ℕ → Found → Found
found_past gone (request m used) = request m (gone + used)
found_past gone (bad status) = bad status
found_past gone cut = cut
found_past gone finished = finished
found_past gone wait = wait

abbrev pub unit_past : ℕ → NextUnit → NextUnit
unit_past gone unit = record { continue_due = unit.continue_due; found = found_past gone unit.found }

-- however the input goes on, what is found in all bytes is what is found in those that are kept, so many bytes further back
pub record Stands (bytes : List ℕ) (limit : ℕ) (unit : List ℕ → Bool → NextUnit) (kept : List ℕ) : Type 0 where
  pub gone : ℕ
  pub same : (more : List ℕ) (ended : Bool)
      → next_unit (bytes ++ more) ended limit ≡ unit_past gone (unit (kept ++ more) ended)
  pub rest : (more : List ℕ) → drop gone (bytes ++ more) ≡ kept ++ more

-- what is found where nothing is kept but bytes
abbrev pub head_unit : ℕ → List ℕ → Bool → NextUnit
head_unit limit bytes ended = next_unit bytes ended limit

-- the message of a request with that content
abbrev pub message_with : Request → List ℕ → Message
message_with r content = record {
  method = r.method;
  target = r.target;
  path = r.path;
  query = r.query;
  host = r.host;
  minor = r.minor;
  fields = r.fields;
  body = content;
}

abbrev pub content_found : Request → Bool → Content → Found
content_found r ended (Whole content len) = request (message_with r content) len
content_found r ended (Refused status) = bad status
content_found r ended Open = open_found ended

-- what is found where a request is kept with its content so far, and how what is still to come of it is framed
abbrev pub content_unit : Request → Framing → List ℕ → Bool → NextUnit
content_unit r framing bytes ended = record {
  continue_due = is_continue_due r.minor r.fields;
  found = content_found r ended (content_behind r.body 0 (content_by framing bytes));
}
