-- What a reader keeps, and what its next answer is.
use Rattle.std.specs.Prelude.{ℕ, ◌≡◌, ◌+◌, ◌<◌, Bool, true, false, not, ◌&&◌, List, drop, Option, Some, None, if◌then◌else◌}
use Rattle.std.specs.Option.{is_some}
use Rattle.unit_types.specs.declared.message.Addr.{Addr}
use Rattle.unit_types.specs.declared.message.Request.{Request}
use Rattle.http_front.specs.declared.content.Content.{Content}
use Rattle.http_front.specs.declared.content.Content.TheVariants.{Whole, Refused, Open}
use Rattle.http_front.specs.declared.next_unit.Told.{Told}
use Rattle.http_front.specs.declared.next_unit.Next.{Next}
use Rattle.http_front.specs.declared.next_unit.Next.TheVariants as Answer
use Rattle.http_front.specs.Front.{head_begun}
use Rattle.http_front.specs.Content.{is_continue_due}
use Rattle.http_front.specs.Message.{request_of}
use Rattle.http_front.specs.NextUnit.{Found, request, bad, cut, finished, wait, NextUnit, next_unit}

-- the addresses of the connection, the bytes that no request has used yet, and whether the input ended behind them; of the
-- request at their front, the limit of its content, which counts from the call on that found its head complete, and whether
-- its `100 Continue` was told
pub record Reading : Type 0 where
  pub from : Addr
  pub to : Addr
  pub unread : List ℕ
  pub ended : Bool
  pub limit : Option ℕ
  pub is_told : Bool

-- a reader at the begin of a request
abbrev pub reading_of : Addr → Addr → List ℕ → Bool → Reading
reading_of from to unread ended =
    record { from = from; to = to; unread = unread; ended = ended; limit = None; is_told = false }

-- the calls of `next` have found the head of the request at the front complete
abbrev pub has_begun : Reading → Bool
has_begun r = is_some r.limit

-- the limit that counts, given that of this call
abbrev pub limit_or : Option ℕ → ℕ → ℕ
limit_or (Some kept) limit = kept
limit_or None limit = limit

-- what stands at the front of the bytes
abbrev pub unit_in : Reading → ℕ → NextUnit
unit_in r limit = next_unit r.unread r.ended (limit_or r.limit limit)

-- the answer that tells it
abbrev pub answer_at : Addr → Addr → Found → Next
answer_at from to (request m used) = Answer.Request (request_of from to m)
answer_at from to (bad status) = Answer.Bad status
answer_at from to cut = Answer.Cut
answer_at from to finished = Answer.End
answer_at from to wait = Answer.NeedMore

abbrev pub answer_for : Reading → Found → Next
answer_for r found = answer_at r.from r.to found

abbrev pub is_request : Next → Bool
is_request (Answer.Request r) = true
is_request _ = false

-- the answers behind which nothing more is read
abbrev pub is_final : Next → Bool
is_final (Answer.Bad status) = true
is_final Answer.Cut = true
is_final Answer.End = true
is_final _ = false

-- how many bytes it uses up
abbrev pub used_by : Found → ℕ
used_by (request m used) = used
used_by _ = 0

-- bytes are refused with a status of three digits
abbrev pub HasSmallStatus : Next → Type 0
HasSmallStatus next = (status : ℕ) → next ≡ Answer.Bad status → status < 1000

-- both as the reader's own step tells them, and whether the head is complete
abbrev pub told_of : Addr → Addr → Bool → NextUnit → Told
told_of from to begun unit = record {
  answer = answer_at from to unit.found;
  used = used_by unit.found;
  is_due = unit.continue_due;
  is_begun = begun;
}

-- a head that is refused
abbrev pub refused : ℕ → Told
refused status = record { answer = Answer.Bad status; used = 0; is_due = false; is_begun = true }

-- the same of a request that the checks let through, by its content
abbrev pub open_answer : Bool → Next
open_answer false = Answer.NeedMore
open_answer true = Answer.Cut

abbrev pub content_answer : Request → Bool → Content → Next
content_answer r ended (Whole content len) = Answer.Request (record r { body = content })
content_answer r ended (Refused status) = Answer.Bad status
content_answer r ended Open = open_answer ended

abbrev pub content_used : ℕ → Content → ℕ
content_used used (Whole content len) = used + len
content_used used _ = 0

abbrev pub told_request : Request → ℕ → Bool → Content → Told
told_request r used ended content = record {
  answer = content_answer r ended content;
  used = content_used used content;
  is_due = is_continue_due r.minor r.fields;
  is_begun = true;
}

-- `100 Continue` is due and was not told yet
abbrev pub asks_now : Reading → NextUnit → Bool
asks_now r unit = unit.continue_due && not r.is_told

abbrev pub unit_answer : Reading → NextUnit → Next
unit_answer r unit = if asks_now r unit then Answer.Continue else answer_for r unit.found

-- the limit that is kept for the request at the front
abbrev pub kept_limit : Bool → Option ℕ → ℕ → Option ℕ
kept_limit true kept limit = Some (limit_or kept limit)
kept_limit false kept limit = kept

-- the reader behind that answer: the bytes of a request are used, and else all stays but what is kept of the request
abbrev pub behind_found : Reading → Found → Reading
behind_found r (request m used) = reading_of r.from r.to (drop used r.unread) r.ended
behind_found r _ = r

abbrev pub behind_unit : Reading → NextUnit → Reading
behind_unit r unit = if asks_now r unit then record r { is_told = true } else behind_found r unit.found

abbrev pub next_answer : Reading → ℕ → Next
next_answer r limit = unit_answer r (unit_in r limit)

abbrev pub next_reading : Reading → ℕ → Reading
next_reading r limit =
    behind_unit (record r { limit = kept_limit (head_begun r.unread) r.limit limit }) (unit_in r limit)
