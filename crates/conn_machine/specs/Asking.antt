-- What a handler is asked for a request.
use Rattle.std.specs.Prelude.{ℕ, ◌==◌, Bool, true, false, ◌&&◌, List, [], Option, None, bytes_eq}
use Rattle.std.specs.Cmp.Lexicographic.{pointwise}
use Rattle.unit_types.specs.declared.field.Field.{Field}
use Rattle.unit_types.specs.declared.message.Addr.{Addr}
use Rattle.unit_types.specs.declared.message.Request.{Request}
use Rattle.request_context.specs.Record.{asked_with}
use Rattle.request_context.specs.declared.asked.Asked.{Asked}
use Rattle.conf_validate.specs.Configuration.{Configuration}
use Rattle.route_match.specs.Target.{outcome_of}
use Rattle.route_match.specs.declared.target.Target.{Target}
use Rattle.route_match.specs.declared.target.Target.TheVariants.{App, Return, Status}
use Rattle.header_rewrite.specs.Rewrite.{rewritten_of}
use Rattle.conn_machine.specs.Answers.{Connection, handler_of}

-- the request goes to an application
abbrev pub is_app : Target → Bool
is_app (App app timeout) = true
is_app (Return step status) = false
is_app (Status status) = false

-- after how many seconds it is late
abbrev pub timeout_in : Target → Option ℕ
timeout_in (App app timeout) = timeout
timeout_in (Return step status) = None
timeout_in (Status status) = None

-- the name of the handler that is asked
abbrev pub handler_in : Configuration → Target → List ℕ
handler_in conf (App app timeout) = handler_of conf app
handler_in conf (Return step status) = []
handler_in conf (Status status) = []

-- what the handler is asked under a stream: the request as the step by which it came there rewrites it
unfoldable pub asked_of : Connection → Configuration → ℕ → Request → Asked
asked_of c conf stream r =
    let outcome = outcome_of conf c.listener r in
    asked_with stream (handler_in conf outcome.target) (rewritten_of conf outcome.step r)

-- ---- whether two are the same

abbrev pub is_same_field : Field → Field → Bool
is_same_field a b = bytes_eq a.name b.name && bytes_eq a.value b.value

abbrev pub is_same_addr : Addr → Addr → Bool
is_same_addr a b = a.ip == b.ip && a.port == b.port

abbrev pub is_same_request : Request → Request → Bool
is_same_request a b =
    bytes_eq a.method b.method && bytes_eq a.target b.target && bytes_eq a.path b.path && bytes_eq a.query b.query
    && bytes_eq a.host b.host && a.minor == b.minor && pointwise is_same_field a.fields b.fields
    && is_same_addr a.from b.from && is_same_addr a.to b.to && bytes_eq a.body b.body

unfoldable pub is_same_asked : Asked → Asked → Bool
is_same_asked a b = a.stream == b.stream && bytes_eq a.name b.name && is_same_request a.request b.request
