-- What a control connection is told of the status: how many connections have ended, and how their requests did. It is
-- told beside all that the control interface answers.
use Rattle.std.specs.Prelude.{ℕ, ◌+◌, Bool, List, ◌++◌, codes, decimal, slice_index, if◌then◌else◌}
use Rattle.std.specs.Str.{bytes_eq}
use Rattle.serde_json.specs.Data.{Data}
use Rattle.http_front.specs.NextUnit.{Found, request, bad, cut, finished, wait, NextUnit, next_unit}
use Rattle.http_front.specs.Target.{raw_path_of}
use Rattle.http_front.specs.Written.{continue_bytes}
use Rattle.http_front.specs.declared.next_unit.Next.{Next}
use Rattle.http_front.specs.declared.next_unit.Next.TheVariants as next
use Rattle.control_api.specs.Control.{Outcome, behind, content_limit, found_outcome, request_outcome}
use Rattle.control_api.specs.Keys.{without_final_slash}
use Rattle.control_api.specs.Plans.{next_outcome}
use Rattle.control_api.specs.Replies.{refusal_bytes, reply_bytes}
use Rattle.control_api.specs.declared.refusal.Refusal.TheVariants.{BadMethod}
use Rattle.status_book.specs.Words.{place_of}

-- ---- the text

-- a count in sum over the engines, of which there are at most four
abbrev pub sum_of_kind : List ℕ → ℕ → ℕ
sum_of_kind counts kind =
    slice_index counts (place_of 0 kind)
    + slice_index counts (place_of 1 kind)
    + slice_index counts (place_of 2 kind)
    + slice_index counts (place_of 3 kind)

-- JSON (RFC 8259): connections that have ended, and ends of requests by kind. App: an application answered; Busy: turned away,
-- most often for want of a place; Cut: the client ended inside a content; Gone: the client had gone, also between two requests;
-- Late: no answer came in time; Memory: there was no memory; Own: the server answered by itself.
abbrev pub status_text : List ℕ → List ℕ
status_text counts =
    codes "{\"connections\":"
    ++ decimal (sum_of_kind counts 0)
    ++ codes ",\"requests\":{\"app\":"
    ++ decimal (sum_of_kind counts 1)
    ++ codes ",\"busy\":"
    ++ decimal (sum_of_kind counts 2)
    ++ codes ",\"cut\":"
    ++ decimal (sum_of_kind counts 3)
    ++ codes ",\"gone\":"
    ++ decimal (sum_of_kind counts 4)
    ++ codes ",\"late\":"
    ++ decimal (sum_of_kind counts 5)
    ++ codes ",\"memory\":"
    ++ decimal (sum_of_kind counts 6)
    ++ codes ",\"own\":"
    ++ decimal (sum_of_kind counts 7)
    ++ codes "}}"

-- ---- a request

-- the path, without one final `/` and without its query, is `/status`
abbrev pub is_status : List ℕ → Bool
is_status target = bytes_eq (without_final_slash (raw_path_of target)) (codes "/status")

-- GET shows the status, and no other method is taken there; a reply to HEAD has no content
abbrev pub status_bytes : List ℕ → List ℕ → List ℕ
status_bytes counts method =
    if bytes_eq method (codes "GET")
    then reply_bytes (bytes_eq method (codes "HEAD")) 200 (status_text counts)
    else refusal_bytes (bytes_eq method (codes "HEAD")) BadMethod

abbrev pub status_outcome : List Data → List (List ℕ) → List ℕ → List ℕ → List ℕ → List ℕ → Outcome
status_outcome documents names counts method target body =
    if is_status target then record { reply = status_bytes counts method; documents = documents }
    else request_outcome documents names method target body

-- what the reader refuses is refused before the path is looked at
abbrev pub status_found : List Data → List (List ℕ) → List ℕ → Found → Outcome
status_found documents names counts (request m used) =
    status_outcome documents names counts m.method m.target m.body
status_found documents names counts (bad status) = found_outcome documents names (bad status)
status_found documents names counts cut = found_outcome documents names cut
status_found documents names counts finished = found_outcome documents names finished
status_found documents names counts wait = found_outcome documents names wait

abbrev pub status_unit : List Data → List (List ℕ) → List ℕ → NextUnit → Outcome
status_unit documents names counts unit =
    behind (continue_bytes unit.continue_due) (status_found documents names counts unit.found)

-- the reply to the bytes of one control connection, as `control_reply` has it, but for the path `/status`
abbrev pub control_status_of : List Data → List (List ℕ) → List ℕ → List ℕ → Bool → Outcome
control_status_of documents names counts bytes ended =
    status_unit documents names counts (next_unit bytes ended content_limit)

-- ---- for private clauses: the outcome of what a reader told
abbrev pub status_next : List Data → List (List ℕ) → List ℕ → Next → Outcome
status_next documents names counts (next.Request r) =
    status_outcome documents names counts r.method r.target r.body
status_next documents names counts next.Continue = next_outcome documents names next.Continue
status_next documents names counts next.NeedMore = next_outcome documents names next.NeedMore
status_next documents names counts (next.Bad status) =
    next_outcome documents names (next.Bad status)
status_next documents names counts next.End = next_outcome documents names next.End
status_next documents names counts next.Cut = next_outcome documents names next.Cut
