-- What a reader keeps, and which readings it stands for.
use Rattle.std.specs.Prelude.{ℕ, ◌≡◌, Bool, true, false, not, ◌&&◌, List, ◌++◌, length, drop, Option, Some, None, if◌then◌else◌}
use Rattle.std.specs.Bool.{⊤}
use Rattle.unit_types.specs.declared.message.Addr.{Addr}
use Rattle.unit_types.specs.declared.message.Request.{Request}
use Rattle.http_front.specs.declared.arriving.Came.{Came}
use Rattle.http_front.specs.declared.arriving.End.{End}
use Rattle.http_front.specs.declared.next_unit.Ahead.{Ahead}
use Rattle.http_front.specs.declared.next_unit.Ahead.TheVariants as Ahead
use Rattle.http_front.specs.declared.next_unit.Told.{Told}
use Rattle.http_front.specs.declared.framing.Framing.{Framing}
use Rattle.http_front.specs.declared.next_unit.Next.{Next}
use Rattle.http_front.specs.declared.next_unit.Next.TheVariants as Answer
use Rattle.http_front.specs.Arriving.{content_at}
use Rattle.http_front.specs.Content.{content_by}
use Rattle.http_front.specs.Front.{head_begun}
use Rattle.http_front.specs.NextUnit.{Found, request, NextUnit}
use Rattle.http_front.specs.Progress.{IsSearched, Opens}
use Rattle.http_front.specs.Reading.{Reading, limit_or, kept_limit, answer_at, told_of}
use Rattle.http_front.specs.Stands.{Stands, head_unit, content_unit}

-- bytes alone are kept; or, behind a complete head, its request with the content so far, and how the rest of it is framed
pub data Stage : Type 0 where
  head : Stage
  content : Request → Framing → Stage

-- where a reader stood: the bytes that it kept, what it kept of those before them, whether the input had ended behind them,
-- and of the request at their front the limit of its content and whether its `100 Continue` was told
pub record Mark : Type 0 where
  pub bytes : List ℕ
  pub stage : Stage
  pub ended : Bool
  pub limit : Option ℕ
  pub is_told : Bool

-- the addresses of the connection, the bytes that are kept, what is kept of those before them, and whether the input ended
-- behind them; of the request at the front, the limit of its content and whether its `100 Continue` was told; and where it
-- stood when it was marked
pub record Kept : Type 0 where
  pub from : Addr
  pub to : Addr
  pub bytes : List ℕ
  pub stage : Stage
  pub ended : Bool
  pub limit : Option ℕ
  pub is_told : Bool
  pub mark : Mark

-- what is found in what is kept, and whether the head is complete
abbrev pub unit_at : Stage → ℕ → List ℕ → Bool → NextUnit
unit_at head limit = head_unit limit
unit_at (content r framing) limit = content_unit r framing

abbrev pub begun_at : Stage → List ℕ → Bool
begun_at head bytes = head_begun bytes
begun_at (content r framing) bytes = true

-- a limit that may count: any one, until one is kept
abbrev pub Counts : Option ℕ → ℕ → Type 0
Counts (Some kept) limit = limit ≡ kept
Counts None limit = ⊤

-- a reader that keeps this has read that
pub record HasRead (r : Reading) (k : Kept) : Type 0 where
  pub from : r.from ≡ k.from
  pub to : r.to ≡ k.to
  pub ended : r.ended ≡ k.ended
  pub limit : r.limit ≡ k.limit
  pub is_told : r.is_told ≡ k.is_told
  pub stands : (limit : ℕ) → Counts k.limit limit → Stands r.unread limit (unit_at k.stage limit) k.bytes
  pub begun : (more : List ℕ) → head_begun (r.unread ++ more) ≡ begun_at k.stage (k.bytes ++ more)

-- the reading with the next bytes of the input
abbrev pub fed : Reading → List ℕ → Reading
fed r piece = record r { unread = r.unread ++ piece }

-- the reading behind the end of the input
abbrev pub at_end : Reading → Reading
at_end r = record r { ended = true }

-- ---- going back

-- what it keeps where it was marked
abbrev pub marked : Kept → Kept
marked k = record {
  from = k.from;
  to = k.to;
  bytes = k.mark.bytes;
  stage = k.mark.stage;
  ended = k.mark.ended;
  limit = k.mark.limit;
  is_told = k.mark.is_told;
  mark = k.mark;
}

-- ---- a reader's step by what it keeps

abbrev pub unit_of : Kept → ℕ → NextUnit
unit_of k limit = unit_at k.stage (limit_or k.limit limit) k.bytes k.ended

abbrev pub asks_of : Kept → ℕ → Bool
asks_of k limit = (unit_of k limit).continue_due && not k.is_told

abbrev pub kept_answer : Kept → ℕ → Next
kept_answer k limit =
    if asks_of k limit then Answer.Continue else answer_at k.from k.to (unit_of k limit).found

abbrev pub kept_behind : Kept → Found → Kept
kept_behind k (request m used) = record {
  from = k.from;
  to = k.to;
  bytes = drop used k.bytes;
  stage = head;
  ended = k.ended;
  limit = None;
  is_told = false;
  mark = k.mark;
}
kept_behind k _ = k

-- with the limit that counts for the request at the front, once its head is complete
abbrev pub limited : Kept → ℕ → Kept
limited k limit = record k { limit = kept_limit (begun_at k.stage k.bytes) k.limit limit }

abbrev pub kept_next : Kept → ℕ → Kept
kept_next k limit =
    if asks_of k limit then record (limited k limit) { is_told = true }
    else kept_behind (limited k limit) (unit_of k limit).found

-- more bytes are needed, and all stays
abbrev pub Unchanged : Kept → ℕ → Type 0
Unchanged k limit = (kept_answer k limit ≡ Answer.NeedMore) × (kept_next k limit ≡ k)

-- what a step tells of what is kept
abbrev pub told_in : Kept → ℕ → Told
told_in k limit = told_of k.from k.to (begun_at k.stage k.bytes) (unit_of k limit)

-- ---- what a call lets be known of what is kept

-- how much of the content came
abbrev pub came_in : Stage → Option Came
came_in head = None
came_in (content r framing) = Some (record { len = length r.body; framing = framing })

abbrev pub is_arriving : Stage → Bool
is_arriving head = false
is_arriving (content r framing) = true

-- what stands behind the content that came
abbrev pub EndsIn : End → List ℕ → Stage → Type 0
EndsIn end bytes head = ⊥
EndsIn end bytes (content r framing) = content_by framing bytes ≡ content_at end

-- what a step lets be known of what is kept
abbrev pub Enters : Ahead → Kept → Type 0
Enters (Ahead.Head s) k = IsSearched s k.bytes
Enters (Ahead.Content len a) k = (limit : ℕ) × (k.limit ≡ Some limit) × Opens len a k.bytes limit
