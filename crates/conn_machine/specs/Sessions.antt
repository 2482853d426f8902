-- What a connection writes, by its bytes and by how each of its requests ended (RFC 9112, section 9.3.2).
use Rattle.std.specs.Prelude.{ℕ, ◌-◌, nat_le, Bool, true, false, not, ◌&&◌, List, [], ◌∷◌, ◌++◌, drop, Option, Some, None, option_map, option_and_then, slice_get, if◌then◌else◌}
use Rattle.conf_validate.specs.Configuration.{Configuration}
use Rattle.http_front.specs.Front.{head_begun}
use Rattle.http_front.specs.NextUnit.{NextUnit, next_unit}
use Rattle.http_front.specs.Session.{Session, request_limit}
use Rattle.http_front.specs.Written.{continue_bytes, http_bytes}
use Rattle.conn_machine.specs.declared.receipt.Receipt.{Receipt}
use Rattle.conn_machine.specs.Answers.{Connection, closes, is_to_head, reply_line}
use Rattle.conn_machine.specs.Turns.{Turn, replies, ends, unfit, turn_of, ends_between}

-- a connection is open or closed, or a request is under way: its head is complete and it has no receipt
pub data Mark : Type 0 where
  still_open : Mark
  under_way : Mark
  closed : Mark

-- what was written, the lines of its log, and how it stands
pub record Course : Type 0 where
  pub written : List ℕ
  pub lines : List ℕ
  pub mark : Mark

-- a course where the receipts go with the bytes, behind what was written and logged before
abbrev pub behind : List ℕ → List ℕ → Option Course → Option Course
behind written lines None = None
behind written lines (Some course) =
    Some (record { written = written ++ course.written; lines = lines ++ course.lines; mark = course.mark })

abbrev pub stands : Mark → Option Course
stands mark = Some (record { written = []; lines = []; mark = mark })

-- behind a closed mark no receipt is left, and the bytes that follow don't count
abbrev pub closed_course : List Receipt → Option Course
closed_course [] = stands closed
closed_course (receipt ∷ receipts) = None

-- without a receipt
abbrev pub unanswered : List ℕ → Option Course
unanswered bytes = if head_begun bytes then stands under_way else stands still_open

-- without a complete head: the client may hang up there, or memory may be wanting
abbrev pub unbegun : Receipt → List Receipt → Option Course
unbegun receipt receipts = if ends_between receipt.kind then closed_course receipts else None

-- a turn of the walk, by one configuration: behind a reply the connection closes, or the rest follows
abbrev pub turn_course : Connection → Configuration → ℕ → List ℕ → List Receipt → (List ℕ → Option Course) → Turn → Option Course
turn_course c conf left bytes receipts rest (replies request reply used) =
    let close = closes request left in
    behind (http_bytes reply (is_to_head request) close) (reply_line conf c.from request reply)
    (if close then closed_course receipts else rest (drop used bytes))
turn_course c conf left bytes receipts rest ends = closed_course receipts
turn_course c conf left bytes receipts rest unfit = None

-- a unit, before whose turn `100 Continue` is written where it is due and wasn't told
abbrev pub unit_course : Connection → Configuration → ℕ → Bool → List ℕ → Receipt → List Receipt → (List ℕ → Option Course) → NextUnit → Option Course
unit_course c conf left told bytes receipt receipts rest unit =
    behind (continue_bytes (unit.continue_due && not told)) []
    (turn_course c conf left bytes receipts rest (turn_of c conf receipt unit.found))

-- the same by the configuration of the receipt, which gives the limit of the content, and must be one of the list
abbrev pub receipt_course : Connection → Option Configuration → Bool → ℕ → Bool → List ℕ → Receipt → List Receipt → (List ℕ → Option Course) → Option Course
receipt_course c None ended left told bytes receipt receipts rest = None
receipt_course c (Some conf) ended left told bytes receipt receipts rest =
    if head_begun bytes
    then unit_course c conf left told bytes receipt receipts rest (next_unit bytes ended conf.max_body)
    else unbegun receipt receipts

-- the walk over the requests of a connection, of which so many may still come, each with its receipt. The numbers of their
-- configurations never fall; `last` is the one before. Of the request at the front `100 Continue` was told or not.
unfoldable pub course_from : Connection → List Configuration → Bool → List Receipt → ℕ → ℕ → Bool → List ℕ → Option Course
course_from c confs ended [] left last told bytes = unanswered bytes
course_from c confs ended (receipt ∷ receipts) left last told bytes =
    if nat_le last receipt.conf
    then receipt_course c (slice_get confs receipt.conf) ended left told bytes receipt receipts
    (course_from c confs ended receipts (left - 1) receipt.conf false)
    else None

-- the whole walk
abbrev pub course_of : Connection → List Configuration → List Receipt → List ℕ → Bool → Option Course
course_of c confs receipts bytes ended = course_from c confs ended receipts request_limit 0 false bytes

-- ---- the session

-- a request whose head is complete must have a receipt
abbrev pub session_in : List ℕ → Mark → Option Session
session_in written still_open = Some (record { written = written; closed = false })
session_in written under_way = None
session_in written closed = Some (record { written = written; closed = true })

-- what a connection writes and whether it is closed, given the configurations by their numbers, the receipts of its
-- requests, its bytes and whether the input ended behind them; None where the receipts don't go with the bytes
abbrev pub session_of : Connection → List Configuration → List Receipt → List ℕ → Bool → Option Session
session_of c confs receipts bytes ended =
    option_and_then (λ course. session_in course.written course.mark) (course_of c confs receipts bytes ended)

-- the lines of its log
abbrev pub log_lines_of : Connection → List Configuration → List Receipt → List ℕ → Bool → Option (List ℕ)
log_lines_of c confs receipts bytes ended = option_map (λ course. course.lines) (course_of c confs receipts bytes ended)

abbrev pub has_under_way : Mark → Bool
has_under_way still_open = false
has_under_way under_way = true
has_under_way closed = false

abbrev pub waits_in : Option Course → Bool
waits_in None = false
waits_in (Some course) = has_under_way course.mark

-- a request is under way: its head is complete and it has no receipt
abbrev pub is_under_way : Connection → List Configuration → List Receipt → List ℕ → Bool → Bool
is_under_way c confs receipts bytes ended = waits_in (course_of c confs receipts bytes ended)
