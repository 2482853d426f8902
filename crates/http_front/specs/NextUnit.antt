-- What stands at the front of the bytes of a connection (RFC 9112, sections 2, 3 and 6), told from the whole list at once.
use Rattle.std.specs.Prelude.{ℕ, ◌+◌, Bool, true, false, List, length, take, drop, ◌==◌, Option, Some, None}
use Rattle.httparse.specs.Grammar.{RequestHead}
use Rattle.http_front.specs.Head.{head_of}
use Rattle.http_front.specs.Front.{Front, unready, too_long, block, blank_len, front_found, front_of}
use Rattle.unit_types.specs.Limits.{head_limit}
use Rattle.http_front.specs.Message.{Message, fields_of, message_of}
use Rattle.http_front.specs.Checks.{has_too_many_lines, refusal_of}
use Rattle.http_front.specs.declared.content.Content.{Content}
use Rattle.http_front.specs.declared.content.Content.TheVariants.{Whole, Refused, Open}
use Rattle.http_front.specs.Content.{content_of, is_continue_due}

-- a request and how many bytes it uses; a status that refuses the bytes; an input that ends inside a request, or between
-- requests; or more bytes are needed
pub data Found : Type 0 where
  request : Message → ℕ → Found
  bad : ℕ → Found
  cut : Found
  finished : Found
  wait : Found

-- what is found, and whether the client is to be told `100 Continue` before that (RFC 9110, section 10.1.1)
pub record NextUnit : Type 0 where
  pub continue_due : Bool
  pub found : Found

-- found, and no `100 Continue` is due
abbrev pub plainly : Found → NextUnit
plainly found = record { continue_due = false; found = found }

-- without a whole request: the input ended inside it, or more bytes are needed
abbrev pub open_found : Bool → Found
open_found false = wait
open_found true = cut

-- the request of a head with its content
abbrev pub content_found : RequestHead → ℕ → Bool → Content → Found
content_found h used ended (Whole content len) = request (message_of h content) (used + len)
content_found h used ended (Refused status) = bad status
content_found h used ended Open = open_found ended

abbrev pub content_unit : RequestHead → ℕ → ℕ → List ℕ → Bool → NextUnit
content_unit h limit used rest ended = record {
  continue_due = is_continue_due h.minor (fields_of h);
  found = content_found h used ended (content_of limit (fields_of h) rest);
}

-- a head that a check refuses asks for no content
abbrev pub checked_unit : RequestHead → ℕ → ℕ → List ℕ → Bool → Option ℕ → NextUnit
checked_unit h limit used rest ended (Some status) = plainly (bad status)
checked_unit h limit used rest ended None = content_unit h limit used rest ended

-- a block that is no head of the grammar is refused (400, RFC 9112, section 2.2), and then the checks decide
abbrev pub head_unit : ℕ → ℕ → List ℕ → Bool → Option RequestHead → NextUnit
head_unit limit used rest ended None = plainly (bad 400)
head_unit limit used rest ended (Some h) =
    checked_unit h limit used rest ended (refusal_of limit h.minor h.target (fields_of h))

abbrev pub block_unit : Bool → ℕ → ℕ → List ℕ → Bool → Option RequestHead → NextUnit
block_unit true limit used rest ended head = plainly (bad 431)
block_unit false limit used rest ended head = head_unit limit used rest ended head

-- without a whole block within the limit: empty lines alone are no request
abbrev pub end_found : Bool → Found
end_found true = finished
end_found false = cut

abbrev pub unready_found : Bool → List ℕ → Found
unready_found false bytes = wait
unready_found true bytes = end_found (length bytes == 0)

-- the checks in their order: the head is too large (431, RFC 6585, section 5), has too many lines, is none, or is refused
abbrev pub front_unit : ℕ → ℕ → List ℕ → Bool → Front → NextUnit
front_unit limit blank bytes ended unready = plainly (unready_found ended bytes)
front_unit limit blank bytes ended too_long = plainly (bad 431)
front_unit limit blank bytes ended (block n) =
    block_unit (has_too_many_lines (take n bytes)) limit (blank + n) (drop n bytes) ended (head_of (take n bytes))

-- the same without a whole block
abbrev pub without_block : ℕ → List ℕ → Bool → NextUnit
without_block limit bytes ended = front_unit 0 0 bytes ended (front_found limit bytes None)

-- what stands at the front of the bytes, given whether the input ended behind them and the largest content that is taken.
-- Empty lines before a request are dropped (RFC 9112, section 2.2).
abbrev pub unit_behind : ℕ → List ℕ → Bool → ℕ → NextUnit
unit_behind blank bytes ended limit = front_unit limit blank bytes ended (front_of head_limit bytes)

unfoldable pub next_unit : List ℕ → Bool → ℕ → NextUnit
next_unit bytes ended limit = unit_behind (blank_len bytes) (drop (blank_len bytes) bytes) ended limit
