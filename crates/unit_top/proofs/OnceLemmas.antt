-- The configuration of `once`: it breaks no rule, and its connection is that of one handler.
use Rattle.std.proofs.Common.{ℕ, ◌≡◌, refl, sym, ap, List, [], ◌∷◌, Bool, true, false, not, ◌||◌, None, codes, bytes_eq}
use Rattle.std.specs.List.{list_any}
use Rattle.std.proofs.lemmas.Slice.Eq.{bytes_eq-Decides}
use Rattle.unit_types.specs.declared.message.Reply.{Reply}
use Rattle.unit_types.specs.declared.message.Request.{Request}
use Rattle.unit_types.specs.Limits.{default_content_limit}
use Rattle.conf_validate.specs.Configuration.{Configuration, configuration_of}
use Rattle.conf_validate.specs.Table.{entries_of, row_of}
use Rattle.conf_validate.specs.Valid.{below, broken_if, fault_of, or_then}
use Rattle.route_match.specs.Target.{walk}
use Rattle.http_front.specs.Message.{is_head_request}
use Rattle.http_front.specs.Session.{once_connection}
use Rattle.http_front.specs.Written.{http_bytes}
use Rattle.conn_machine.specs.Answers.{Connection, reply_to}
use Rattle.conn_machine.specs.Laws.{plain_connection}
use Rattle.conn_machine.specs.Shows.{connection_of}
use Rattle.unit_top.specs.Command.{is_listed}
use Rattle.unit_top.specs.Connections.{client_address, listener_address}
use Rattle.unit_top.specs.Once.{once_document}

-- ---- it breaks no rule

or_second : (a b : Bool) → b ≡ true → (a || b) ≡ true
or_second true b is = refl
or_second false b is = is

-- a handler that is listed is one of the names
listed_is_there : (names : List (List ℕ)) (handler : List ℕ) → is_listed names handler ≡ true → list_any (λ name. bytes_eq name handler) names ≡ true
listed_is_there [] handler is = absurd (cc is)
listed_is_there (n ∷ ns) handler is = by (λ there. listed_is_there ns handler there) (bytes_eq handler n) refl is
  where
    by : (is_listed ns handler ≡ true → list_any (λ name. bytes_eq name handler) ns ≡ true) → (same : Bool) → bytes_eq handler n ≡ same
        → (same || is_listed ns handler) ≡ true → (bytes_eq n handler || list_any (λ name. bytes_eq name handler) ns) ≡ true
    by next true same is =
        ap (λ b. b || list_any (λ name. bytes_eq name handler) ns) ((bytes_eq-Decides n handler).1 (sym ((bytes_eq-Decides handler n).0 same)))
    by next false same is = or_second (bytes_eq n handler) (list_any (λ name. bytes_eq name handler) ns) (next is)

-- the one rule that depends on the handler is that it is there
by_handler : (there : Bool) → there ≡ true
    → or_then (below (codes "applications") (or_then (below (codes "h") (or_then (below (codes "executable") (broken_if (not there) 8)) None)) None)) None ≡ None
by_handler true is = refl
by_handler false is = absurd (cc is)

pub once_valid : (handler : List ℕ) (names : List (List ℕ)) → is_listed names handler ≡ true → fault_of (once_document handler) names ≡ None
unfolding entries_of row_of
once_valid handler names is = by_handler (list_any (λ name. bytes_eq name handler) names) (listed_is_there names handler is)

-- ---- its connection

abbrev pub once_configuration : List ℕ → Configuration
once_configuration handler = configuration_of (once_document handler)

abbrev pub once_from : (List ℕ → Request → Reply) → Connection
once_from reply_of = connection_of (codes "*:8080") client_address (listener_address 8080) reply_of

-- each request goes to the handler as it came, and its reply is written as it is
once_reply : (reply_of : List ℕ → Request → Reply) (handler : List ℕ) (r : Request) → reply_to (once_from reply_of) (once_configuration handler) r ≡ reply_of handler r
unfolding reply_to walk
once_reply reply_of handler r = refl

once_limit : (handler : List ℕ) → (once_configuration handler).max_body ≡ default_content_limit
once_limit handler = refl

pub once_connection_is : (reply_of : List ℕ → Request → Reply) (handler : List ℕ)
    → plain_connection (once_from reply_of) (once_configuration handler) ≡ once_connection reply_of handler
once_connection_is reply_of handler = λ i. record {
  from = client_address;
  to = listener_address 8080;
  limit = once_limit handler i;
  answer = λ r close. http_bytes (once_reply reply_of handler r i) (is_head_request r) close;
}
