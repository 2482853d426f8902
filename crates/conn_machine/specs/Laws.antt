-- What receipts may say: their order, and those of a connection that has one configuration.
use Rattle.std.specs.Prelude.{◌≡◌, ℕ, zero, suc, ◌≤◌, Bool, true, false, List, [], ◌∷◌, drop, Some, ⊤, if◌then◌else◌}
use Rattle.unit_types.specs.declared.message.Request.{Request}
use Rattle.conf_validate.specs.Configuration.{Configuration}
use Rattle.route_match.specs.Target.{target_of}
use Rattle.http_front.specs.Front.{head_begun}
use Rattle.http_front.specs.Message.{request_of}
use Rattle.http_front.specs.NextUnit.{Found, request, bad, cut, finished, wait, next_unit}
use Rattle.http_front.specs.Session as plain
use Rattle.http_front.specs.Session.{request_limit}
use Rattle.conn_machine.specs.declared.receipt.Kind.{Kind}
use Rattle.conn_machine.specs.declared.receipt.Kind.TheVariants as kind
use Rattle.conn_machine.specs.declared.receipt.Receipt.{Receipt}
use Rattle.conn_machine.specs.Answers.{Connection, answer_of, closes}
use Rattle.conn_machine.specs.Asking.{is_app}
use Rattle.conn_machine.specs.Turns.{receipt_of}

-- the numbers of the configurations never fall
abbrev pub NeverFall : ℕ → List Receipt → Type 0
NeverFall last [] = ⊤
NeverFall last (receipt ∷ receipts) = (last ≤ receipt.conf) × NeverFall receipt.conf receipts

-- a request was answered by a handler or by the server, or the input ended inside it
abbrev pub is_plain_kind : Kind → Bool
is_plain_kind kind.App = true
is_plain_kind kind.Own = true
is_plain_kind (kind.Busy cause) = false
is_plain_kind (kind.Late deadline now) = false
is_plain_kind kind.Gone = false
is_plain_kind kind.Cut = true
is_plain_kind kind.Memory = false

-- so it was with each request, under one configuration
abbrev pub ArePlain : ℕ → List Receipt → Type 0
ArePlain number [] = ⊤
ArePlain number (receipt ∷ receipts) =
    (receipt.conf ≡ number) × (is_plain_kind receipt.kind ≡ true) × ArePlain number receipts

-- the same connection, with the limit and the answers of one configuration
abbrev pub plain_connection : Connection → Configuration → plain.Connection
plain_connection c conf = record { from = c.from; to = c.to; limit = conf.max_body; answer = answer_of c conf }

-- ---- the receipts of an input that ended

-- a request to an application is answered by a handler under this stream, any other by the server
abbrev pub receipt_to : Connection → Configuration → ℕ → ℕ → Request → Receipt
receipt_to c conf number stream r =
    if is_app (target_of conf c.listener r) then receipt_of number stream kind.App else receipt_of number 0 kind.Own

-- the receipts of what is found, and, unless the connection closes behind it, of the rest: refused bytes are answered by the
-- server, and where the input ends inside a request it is cut
abbrev pub found_receipts : Connection → Configuration → ℕ → ℕ → ℕ → List ℕ → (List ℕ → List Receipt) → Found → List Receipt
found_receipts c conf number stream left bytes rest (request m used) =
    let r = request_of c.from c.to m in
    receipt_to c conf number stream r ∷ (if closes (Some r) left then [] else rest (drop used bytes))
found_receipts c conf number stream left bytes rest (bad status) = receipt_of number 0 kind.Own ∷ []
found_receipts c conf number stream left bytes rest cut = receipt_of number 0 kind.Cut ∷ []
found_receipts c conf number stream left bytes rest finished = []
found_receipts c conf number stream left bytes rest wait = []

-- of the requests whose heads are complete, of which so many may still come
unfoldable pub plain_receipts_from : Connection → Configuration → ℕ → ℕ → ℕ → List ℕ → List Receipt
plain_receipts_from c conf number stream zero bytes = []
plain_receipts_from c conf number stream (suc left) bytes =
    if head_begun bytes
    then found_receipts c conf number stream (suc left) bytes (plain_receipts_from c conf number stream left)
    (next_unit bytes true conf.max_body).found
    else []

-- the receipts of a connection under one configuration, of this number, each of whose handlers answers under this stream
abbrev pub plain_receipts_of : Connection → Configuration → ℕ → ℕ → List ℕ → List Receipt
plain_receipts_of c conf number stream bytes = plain_receipts_from c conf number stream request_limit bytes
