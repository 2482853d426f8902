-- What the handlers are asked on a connection under one configuration, whose whole input came and whose requests are all
-- answered.
use Rattle.std.specs.Prelude.{ℕ, zero, suc, ◌==◌, true, ◌||◌, List, [], ◌∷◌, ◌++◌, drop, if◌then◌else◌}
use Rattle.unit_types.specs.declared.message.Request.{Request}
use Rattle.conf_validate.specs.Configuration.{Configuration}
use Rattle.header_rewrite.specs.Rewrite.{rewritten_of}
use Rattle.http_front.specs.Message.{is_last_request, request_of}
use Rattle.http_front.specs.NextUnit.{Found, request, bad, cut, finished, wait, next_unit}
use Rattle.http_front.specs.Session.{request_limit}
use Rattle.route_match.specs.Target.{outcome_of}
use Rattle.conn_machine.specs.Answers.{Connection}
use Rattle.conn_machine.specs.Asking.{handler_in, is_app}
use Rattle.conn_machine.specs.Calls.{Account}
use Rattle.conn_machine.specs.States.{Numbered}

-- of a request that goes to an application, the name of the handler and the request as its step rewrites it
abbrev pub asks_for : Connection → Configuration → Request → List (List ℕ × Request)
asks_for c conf r =
    let outcome = outcome_of conf c.listener r in
    if is_app outcome.target then (handler_in conf outcome.target, rewritten_of conf outcome.step r) ∷ [] else []

-- what a unit asks, and the rest behind a request that isn't the last one
abbrev pub found_asks : Connection → Configuration → ℕ → List ℕ → (List ℕ → List (List ℕ × Request)) → Found → List (List ℕ × Request)
found_asks c conf left bytes rest (request m used) =
    let r = request_of c.from c.to m in
    asks_for c conf r ++ (if is_last_request r || left == 0 then [] else rest (drop used bytes))
found_asks c conf left bytes rest (bad status) = []
found_asks c conf left bytes rest cut = []
found_asks c conf left bytes rest finished = []
found_asks c conf left bytes rest wait = []

-- the walk over the requests of a connection, of which this many may still come
unfoldable pub asks_from : Connection → Configuration → ℕ → List ℕ → List (List ℕ × Request)
asks_from c conf zero bytes = []
asks_from c conf (suc left) bytes =
    found_asks c conf left bytes (asks_from c conf left) (next_unit bytes true conf.max_body).found

-- what these bytes ask in all, in order
abbrev pub asks_of : Connection → Configuration → List ℕ → List (List ℕ × Request)
asks_of c conf bytes = asks_from c conf request_limit bytes

-- what is still to be asked where a connection under this configuration stands so: a request under way is the first that is left
abbrev pub asks_left : Connection → Numbered → Account → List (List ℕ × Request)
asks_left c current a = if a.state.closed then [] else asks_from c current.1 a.state.left a.state.unused
