-- The replies of a configuration whose steps rewrite and change nothing, and of one that has no variables either.
use Rattle.std.specs.Prelude.{ℕ, nat_lt, [], if◌then◌else◌}
use Rattle.unit_types.specs.declared.message.Reply.{Reply}
use Rattle.unit_types.specs.declared.message.Request.{Request}
use Rattle.conf_validate.specs.Configuration.{Configuration}
use Rattle.route_match.specs.Plain.{plain_location_of, plain_target_of}
use Rattle.route_match.specs.Target.{target_of}
use Rattle.route_match.specs.declared.target.Target.{Target}
use Rattle.route_match.specs.declared.target.Target.TheVariants.{App, Return, Status}
use Rattle.http_front.specs.Written.{error_reply}
use Rattle.conn_machine.specs.Answers.{Connection, handler_of, location_fields, return_reply}

-- the handler is asked the request as it came, and each reply stays as it is
abbrev pub unchanged_reply_by : Connection → Configuration → Request → Target → Reply
unchanged_reply_by c conf r (App app timeout) = c.reply_of (handler_of conf app) r
unchanged_reply_by c conf r (Return step status) = return_reply conf step status r
unchanged_reply_by c conf r (Status status) = error_reply status

abbrev pub unchanged_reply_to : Connection → Configuration → Request → Reply
unchanged_reply_to c conf r = unchanged_reply_by c conf r (target_of conf c.listener r)

-- a return whose location stands as it is
abbrev pub plain_return_reply : Configuration → ℕ → ℕ → Reply
plain_return_reply conf step status =
    if nat_lt status 400
    then record { status = status; fields = location_fields (plain_location_of conf step); body = [] }
    else error_reply status

-- the same where passes and locations stand as they are
abbrev pub plain_reply_by : Connection → Configuration → Request → Target → Reply
plain_reply_by c conf r (App app timeout) = c.reply_of (handler_of conf app) r
plain_reply_by c conf r (Return step status) = plain_return_reply conf step status
plain_reply_by c conf r (Status status) = error_reply status

abbrev pub plain_reply_to : Connection → Configuration → Request → Reply
plain_reply_to c conf r = plain_reply_by c conf r (plain_target_of conf c.listener r)
