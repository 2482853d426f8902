-- A request whose content comes in pieces: what was decoded of it, and how the rest is read.
use Rattle.std.specs.Prelude.{ℕ, ◌≡◌, ◌+◌, ◌≤◌, Bool, true, List, [], ◌++◌, length, drop}
use Rattle.unit_types.specs.declared.message.Request.{Request}
use Rattle.http_front.specs.declared.content.Content.{Content}
use Rattle.http_front.specs.declared.content.Content.TheVariants as Content
use Rattle.http_front.specs.declared.arriving.Arriving.{Arriving}
use Rattle.http_front.specs.declared.arriving.End.{End}
use Rattle.http_front.specs.declared.arriving.End.TheVariants.{Whole, Refused, Open}
use Rattle.unit_types.specs.declared.message.Addr.{Addr}
use Rattle.http_front.specs.declared.next_unit.Told.{Told}
use Rattle.http_front.specs.Chunks.{content_behind}
use Rattle.http_front.specs.Content.{content_by, is_continue_due}
use Rattle.http_front.specs.Message.{request_of}
use Rattle.http_front.specs.Reading.{content_answer}
use Rattle.http_front.specs.NextUnit.{NextUnit}
use Rattle.http_front.specs.Stands.{message_with, content_unit}

-- the request with the content that came
abbrev pub request_with : Arriving → Request
request_with a = record a.request { body = a.content.items }

-- what is found where it arrives
abbrev pub arriving_unit : Arriving → List ℕ → Bool → NextUnit
arriving_unit a = content_unit (request_with a) a.framing

-- what is left of a content behind that which came
abbrev pub content_at : End → Content
content_at (Whole len) = Content.Whole [] len
content_at (Refused status) = Content.Refused status
content_at Open = Content.Open

-- the content that came, where that is what stands behind it
abbrev pub content_come : List ℕ → End → Content
content_come content (Whole len) = Content.Whole content len
content_come content (Refused status) = Content.Refused status
content_come content Open = Content.Open

abbrev pub end_len : End → ℕ
end_len (Whole len) = len
end_len _ = 0

-- what is told where that stands behind the content that came
abbrev pub told_end : Addr → Addr → Arriving → End → Bool → Told
told_end from to a end ended = record {
  answer = content_answer (request_of from to (message_with a.request [])) ended (content_come a.content.items end);
  used = end_len end;
  is_due = is_continue_due a.request.minor a.request.fields;
  is_begun = true;
}

-- the content in the bytes between two places came too: whatever follows, the rest is read as all was before, behind it
pub record Decodes (old new : Arriving) (bytes : List ℕ) (before after : ℕ) : Type 0 where
  pub passed : ℕ
  pub came : List ℕ
  pub place : after ≡ before + passed
  pub within : after ≤ length bytes
  pub request : new.request ≡ old.request
  pub content : new.content.items ≡ old.content.items ++ came
  pub goes_on : (more : List ℕ)
      → content_by old.framing (drop before bytes ++ more) ≡ content_behind came passed (content_by new.framing (drop after bytes ++ more))
