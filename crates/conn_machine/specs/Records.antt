-- How long the record of what a handler is asked is.
use Rattle.std.specs.Prelude.{ℕ, ◌≤◌, List, length, Option, Some, None}
use Rattle.conf_validate.specs.Configuration.{Configuration}
use Rattle.header_rewrite.specs.Rewrite.{rewrite_of_step}
use Rattle.http_front.specs.Message.{request_of}
use Rattle.http_front.specs.NextUnit.{Found, request, bad, cut, finished, wait}
use Rattle.request_context.specs.Record.{IsRecordable, request_record}
use Rattle.request_context.specs.declared.asked.Asked.{Asked}
use Rattle.route_match.specs.Target.{last_step_of}
use Rattle.conn_machine.specs.Answers.{Connection}
use Rattle.conn_machine.specs.States.{State, by_bound}

-- bytes of the record of a request as it came: 10,000,000 of its content, and 65,536
abbrev pub plain_record_limit : ℕ
plain_record_limit = 10065536

-- bytes of the record of a request whose target was rewritten
abbrev pub rewritten_record_limit : ℕ
rewritten_record_limit = 10350000

-- bytes of the record of a request, by the `rewrite` of the step by which it came where it goes
abbrev pub record_limit : Option (List ℕ) → ℕ
record_limit None = plain_record_limit
record_limit (Some text) = rewritten_record_limit

-- what is asked can be written as a record of at most so many bytes
pub record HasShortRecord (limit : ℕ) (asked : Asked) : Type 0 where
  pub can : IsRecordable asked
  pub size : length (request_record asked) ≤ limit

-- ---- what a machine asks

-- the `rewrite` of the step by which what is found came where it goes
abbrev pub rewrite_by : Connection → Configuration → Found → Option (List ℕ)
rewrite_by c conf (request m used) = rewrite_of_step conf (last_step_of conf c.listener (request_of c.from c.to m))
rewrite_by c conf (bad status) = None
rewrite_by c conf cut = None
rewrite_by c conf finished = None
rewrite_by c conf wait = None

-- the one of the request under way
abbrev pub rewrite_of : Connection → State → Option (List ℕ)
rewrite_of c s = by_bound (rewrite_by c) s s.bound
