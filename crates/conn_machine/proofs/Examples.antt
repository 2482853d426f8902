-- Worked rows of the definitions.
use Rattle.std.proofs.Common.{ℕ, ◌≡◌, refl, List, [], ◌∷◌, ◌++◌, true, false, length, codes, Option, Some, None}
use Rattle.std.specs.Fmt.{digits}
use Rattle.std.specs.Str.{is_utf8, chars}
use lib.Utf8.{encode}
use Rattle.httparse.specs.Grammar.{print_request, is_token_byte, trim_ows}
use Rattle.percent_encoding.specs.Percent.{percent_decode}
use Rattle.unit_types.specs.declared.message.Request.{Request}
use Rattle.unit_types.specs.declared.message.Reply.{Reply}
use Rattle.access_log.specs.Line.{line_limit}
use Rattle.conf_validate.specs.Configuration.{Configuration, default_format}
use Rattle.conf_validate.specs.declared.conf.Action.TheVariants.{Pass, Return}
use Rattle.conf_validate.specs.declared.conf.Goal.TheVariants.{Application, Route}
use Rattle.conf_validate.specs.declared.conf.Step.{Step}
use Rattle.conf_validate.specs.declared.matching.Match.{Match}
use Rattle.route_match.specs.Target.{walk}
use Rattle.http_front.specs.Head.{head_of, head_in}
use Rattle.http_front.specs.Front.{blank_len, block_len, front_of}
use Rattle.http_front.specs.NextUnit.{next_unit}
use Rattle.http_front.specs.Content.{content_of}
use Rattle.http_front.specs.Session.{loopback}
use Rattle.http_front.specs.Written.{http_bytes, phrases}
use Rattle.conn_machine.specs.declared.receipt.Kind.TheVariants.{App, Gone, Own}
use Rattle.conn_machine.specs.Answers.{Connection, reply_to, reply_line}
use Rattle.conn_machine.specs.Asking.{asked_of}
use Rattle.conn_machine.specs.Sessions.{course_from, session_of, log_lines_of}
use Rattle.conn_machine.specs.Turns.{receipt_of, turn_of}

line : List ℕ → List ℕ
line text = text ++ 13 ∷ 10 ∷ []

one_get : List ℕ
unfolding line
one_get = line (codes "GET / HTTP/1.1") ++ line (codes "Host: a") ++ line []

hello : List ℕ → Request → Reply
hello name r = record {
  status = 200;
  fields = record { name = codes "Content-Type"; value = codes "text/plain" } ∷ [];
  body = codes "Hello, world!" ++ 10 ∷ [];
}

connection : Connection
connection = record {
  listener = codes "*:8080";
  from = record { ip = loopback; port = 40000 };
  to = record { ip = loopback; port = 8080 };
  reply_of = hello;
}

-- a listener whose requests take one step
conf_with : Step → Option (List ℕ) → Configuration
conf_with step log_format = record {
  applications = record { name = codes "hello"; handler = codes "hello"; timeout = None } ∷ [];
  listeners = record { name = codes "*:8080"; pass = codes "routes" } ∷ [];
  destinations =
      record { name = codes "applications/hello"; goal = Application 0 } ∷ record { name = codes "routes"; goal = Route 0 1 } ∷ [];
  steps = step ∷ [];
  max_body = 8388608;
  log_format = log_format;
}

anything : Match
anything = record {
  uri = None;
  host = None;
  method = None;
  scheme = None;
  query = None;
  source = None;
  destination = None;
  arguments = None;
  cookies = None;
  headers = None;
}

-- a return with a location that has variables
moved : Step
moved = record { conditions = anything; action = Return 301; location = Some (codes "https://$host$request_uri"); rewrite = None; changes = [] }

moved_bytes : List ℕ
unfolding line
moved_bytes =
    line (codes "HTTP/1.1 301 Moved Permanently") ++ line (codes "Location: https://a/") ++ line (codes "Content-Length: 0") ++ line []

moved-length : length moved_bytes ≡ 75
unfolding moved_bytes line
moved-length = refl

moved-session : session_of connection (conf_with moved None ∷ []) (receipt_of 0 0 Own ∷ []) one_get true ≡ Some (record { written = moved_bytes; closed = false })
unfolding course_from turn_of reply_to reply_line walk next_unit front_of blank_len block_len content_of percent_decode head_of head_in print_request is_token_byte trim_ows is_utf8 chars encode http_bytes phrases digits moved_bytes moved anything conf_with connection hello one_get line
moved-session = refl

-- a log of the default format
logged : Step
logged = record { conditions = anything; action = Pass (codes "applications/hello"); location = None; rewrite = None; changes = [] }

logged-line : log_lines_of connection (conf_with logged (Some default_format) ∷ []) (receipt_of 0 1 App ∷ []) one_get true
    ≡ Some (codes "127.0.0.1 \"GET / HTTP/1.1\" 200 14 \"-\" \"-\"" ++ 10 ∷ [])
unfolding course_from turn_of reply_to reply_line walk next_unit front_of blank_len block_len content_of percent_decode head_of head_in print_request is_token_byte trim_ows is_utf8 chars encode http_bytes phrases digits line_limit logged anything conf_with connection hello one_get line
logged-line = refl

-- changed header fields: one is new, and one is taken away
changed : Step
changed = record {
  conditions = anything;
  action = Pass (codes "applications/hello");
  location = None;
  rewrite = None;
  changes = (codes "X-App", Some (codes "one")) ∷ (codes "content-type", None) ∷ [];
}

changed_bytes : List ℕ
unfolding line
changed_bytes =
    line (codes "HTTP/1.1 200 OK") ++ line (codes "X-App: one") ++ line (codes "Content-Length: 14") ++ line []
    ++ codes "Hello, world!" ++ 10 ∷ []

changed-length : length changed_bytes ≡ 65
unfolding changed_bytes line
changed-length = refl

changed-session : session_of connection (conf_with changed None ∷ []) (receipt_of 0 1 App ∷ []) one_get true ≡ Some (record { written = changed_bytes; closed = false })
unfolding course_from turn_of reply_to reply_line walk next_unit front_of blank_len block_len content_of percent_decode head_of head_in print_request is_token_byte trim_ows is_utf8 chars encode http_bytes phrases digits changed_bytes changed anything conf_with connection hello one_get line
changed-session = refl

-- a path that is rewritten
get_a : Request
get_a = record {
  method = codes "GET";
  target = codes "/a?x=1";
  path = codes "/a";
  query = codes "x=1";
  host = codes "a";
  minor = 1;
  fields = [];
  from = record { ip = loopback; port = 40000 };
  to = record { ip = loopback; port = 8080 };
  body = [];
}

rewriting : Step
rewriting = record {
  conditions = anything;
  action = Pass (codes "applications/hello");
  location = None;
  rewrite = Some (codes "/v1$uri");
  changes = [];
}

rewritten-target : (asked_of connection (conf_with rewriting None) 1 get_a).request.target ≡ codes "/v1/a?x=1"
unfolding asked_of walk percent_decode encode is_utf8 chars rewriting anything conf_with connection hello get_a
rewritten-target = refl

rewritten-path : (asked_of connection (conf_with rewriting None) 1 get_a).request.path ≡ codes "/v1/a"
unfolding asked_of walk percent_decode encode is_utf8 chars rewriting anything conf_with connection hello get_a
rewritten-path = refl

-- an input that ends inside a head asks for nothing, and one that ends behind a complete head for a receipt
cut-head : session_of connection (conf_with moved None ∷ []) [] (codes "GET / HT") true ≡ Some (record { written = []; closed = false })
unfolding course_from front_of blank_len block_len
cut-head = refl

no-receipt : session_of connection (conf_with moved None ∷ []) [] one_get true ≡ None
unfolding course_from front_of blank_len block_len one_get line
no-receipt = refl

-- a client that hung up between two requests
gone-between : session_of connection (conf_with moved None ∷ []) (receipt_of 0 0 Gone ∷ []) [] false ≡ Some (record { written = []; closed = true })
unfolding course_from front_of blank_len block_len
gone-between = refl
