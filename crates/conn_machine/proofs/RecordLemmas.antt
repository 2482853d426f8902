-- The record of a request that is bounded is short.
use Rattle.std.proofs.Common.{ℕ, ◌≡◌, ◌+◌, ◌*◌, ◌≤◌, refl, sym, ap, ◌∙◌, subst, Bool, false, List, [], ◌∷◌, length, map, All, Option, Some, None, option_map, option_and_then, IfSome, IsTrue, arith}
use Rattle.std.specs.Prelude.{sum_by, slice_get}
use Rattle.std.specs.Option.{unwrap_or}
use Rattle.std.proofs.lemmas.List.Elements.{All-get_or, All-map, All-weaker}
use Rattle.std.proofs.lemmas.List.Sums.{sum_by-cons}
use Rattle.std.proofs.lemmas.Option.{get_or_from_slice_get, slice_get_within}
use Rattle.unit_types.specs.Limits.{content_limit_max, IsShortName}
use Rattle.unit_types.specs.declared.field.Field.{Field}
use Rattle.unit_types.specs.declared.message.Addr.{Addr}
use Rattle.unit_types.specs.declared.message.Reply.{Reply}
use Rattle.unit_types.specs.declared.message.Request.{Request}
use Rattle.conf_validate.specs.Configuration.{Configuration, handler_at}
use Rattle.conf_validate.specs.Forms.{is_rewrite}
use Rattle.conf_validate.specs.Kept.{IsKept, IsKeptApplication, IsKeptStep}
use Rattle.conf_validate.specs.declared.conf.Application.{Application}
use Rattle.conf_validate.specs.declared.conf.Step.{Step}
use Rattle.http_front.specs.Bounds.{fields_len, field_len, IsBounded}
use Rattle.http_front.specs.Message.{Message, request_of}
use Rattle.http_front.specs.NextUnit.{next_unit, request}
use Rattle.header_rewrite.specs.Bounds.{HasShortTexts, path_limit, target_limit}
use Rattle.header_rewrite.specs.Rewrite.{with_rewrite, rewritten_by, rewrite_of_step}
use Rattle.request_context.specs.Record.{IsRecordable, request_record, field_size, request_record_size, asked_with}
use Rattle.request_context.specs.declared.asked.Asked.{Asked}
use Rattle.route_match.specs.Target.{outcome_of, last_step_of}
use Rattle.route_match.specs.declared.target.Target.{Target}
use Rattle.route_match.specs.declared.target.Target.TheVariants.{App, Return, Status}
use Rattle.conn_machine.specs.Answers.{Connection, handler_of}
use Rattle.conn_machine.specs.Asking.{handler_in, asked_of}
use Rattle.conn_machine.specs.Calls.{Account}
use Rattle.conn_machine.specs.Records.{HasShortRecord, plain_record_limit, record_limit, rewrite_by, rewrite_of, rewritten_record_limit}
use Rattle.conn_machine.specs.Shows.{Held, Fronts, IsPending, Shows, bound_in}
use Rattle.conn_machine.specs.States.{Numbered, State, by_bound}
use Rattle.conn_machine.specs.declared.pending.Pending.{Pending}

-- what a record says of its length, and when it can be written
abbrev pub TellsLength : Type 0
TellsLength = (asked : Asked) → length (request_record asked) ≡ request_record_size asked

abbrev pub TellsWritten : Type 0
TellsWritten = (asked : Asked) → asked.request.minor ≤ 1 → request_record_size asked ≤ 1073741824 → IsRecordable asked

short_record : (most : ℕ) (asked : Asked) → TellsLength → TellsWritten → asked.request.minor ≤ 1 → most ≤ 1073741824 → request_record_size asked ≤ most → HasShortRecord most asked
short_record most asked tells written minor low size = record {
  can = written asked minor (omega (arith, low, size));
  size = omega (arith, tells asked, size);
}

fields_size : (fields : List Field) → sum_by field_size fields ≡ 8 * length fields + fields_len fields
fields_size [] = omega arith
fields_size (f ∷ fields) = omega (arith, sum_by-cons field_size f fields, sum_by-cons field_len f fields, fields_size fields)

-- the bytes of a record by those of its parts
abbrev size_of : ℕ → ℕ → ℕ → ℕ → ℕ → ℕ → ℕ → ℕ → ℕ
size_of name method target path query host fields body =
    8 + (4 + name) + (1 + (4 + method) + (4 + target) + (4 + path) + (4 + query) + (4 + host) + 6 + 6 + (4 + fields) + (4 + body))

plain_sum : (name method target path query host fields body count text limit : ℕ) → name ≤ 255 → method + target + text ≤ 16384 → path + query ≤ 16384 → host ≤ 16384
    → fields ≡ 8 * count + text → count ≤ 100 → body ≤ limit → limit ≤ 10000000 → size_of name method target path query host fields body ≤ 10065536
plain_sum name method target path query host fields body count text limit a b d e f g h i = omega (arith, a, b, d, e, f, g, h, i)

rewritten_sum : (name method old target path query host fields body count text limit : ℕ) → name ≤ 255 → method + old + text ≤ 16384 → query ≤ 16384 → host ≤ 16384
    → fields ≡ 8 * count + text → count ≤ 100 → body ≤ limit → limit ≤ 10000000 → path ≤ 66561 → target ≤ 216068 → size_of name method target path query host fields body ≤ 10350000
rewritten_sum name method old target path query host fields body count text limit a b d e f g h i j k = omega (arith, a, b, d, e, f, g, h, i, j, k)

-- ---- a request as it came

pub came_short : (limit stream : ℕ) (name : List ℕ) (from to : Addr) (m : Message) → TellsLength → TellsWritten → IsBounded limit m → limit ≤ content_limit_max → IsShortName name
    → HasShortRecord plain_record_limit (asked_with stream name (request_of from to m))
came_short limit stream name from to m tells written is low short =
    short_record plain_record_limit (asked_with stream name (request_of from to m)) tells written is.minor (omega arith)
    (plain_sum (length name) (length m.method) (length m.target) (length m.path) (length m.query) (length m.host) (sum_by field_size m.fields) (length m.body)
    (length m.fields) (fields_len m.fields) limit short is.head is.resource is.host (fields_size m.fields) is.count is.content low)

short_texts : (limit : ℕ) (from to : Addr) (m : Message) → IsBounded limit m → HasShortTexts (request_of from to m)
short_texts limit from to m is = record {
  method = omega (arith, is.head);
  target = omega (arith, is.head);
  path = omega (arith, is.resource);
  query = omega (arith, is.resource);
  host = is.host;
  fields = omega (arith, is.head);
}

-- ---- what a configuration keeps

got : {X : Type 0} (P : X → Type 0) (xs : List X) (i : ℕ) (x : X) → All P xs → slice_get xs i ≡ Some x → P x
got P xs i x all is = subst P (get_or_from_slice_get xs i x x is) (All-get_or P xs i x (slice_get_within xs i x is) all)

some_step : (o : Option Step) (text : List ℕ) → option_and_then (λ (s : Step). s.rewrite) o ≡ Some text → (step : Step) × (o ≡ Some step) × (step.rewrite ≡ Some text)
some_step None text is = absurd (cc)
some_step (Some step) text is = (step, refl, is)

kept_rewrite : (conf : Configuration) (step : Option ℕ) (text : List ℕ) → IsKept conf → rewrite_of_step conf step ≡ Some text → IsTrue (is_rewrite text)
kept_rewrite conf None text kept is = absurd (cc)
kept_rewrite conf (Some at) text kept is =
    let found = some_step (slice_get conf.steps at) text is in
    let keeps = got IsKeptStep conf.steps at found.0 kept.steps found.1 in
    by_text found.0.rewrite found.2 keeps.rewrite
  where
    by_text : (o : Option (List ℕ)) → o ≡ Some text → IfSome o (λ t. IsTrue (is_rewrite t)) → IsTrue (is_rewrite text)
    by_text None same holds = absurd (cc)
    by_text (Some t) same holds = let e : t ≡ text = cc in subst (λ t. IsTrue (is_rewrite t)) e holds

handler_short : (conf : Configuration) (app : ℕ) → IsKept conf → IsShortName (handler_of conf app)
handler_short conf app kept = by_handler (handler_at conf app) refl
  where
    by_handler : (o : Option (List ℕ)) → handler_at conf app ≡ o → length (unwrap_or o []) ≤ 255
    by_handler None is = omega arith
    by_handler (Some name) is =
        got (λ n. length n ≤ 255) (map (λ (a : Application). a.handler) conf.applications) app name
        (All-map (λ n. length n ≤ 255) (λ (a : Application). a.handler) conf.applications
        (All-weaker IsKeptApplication (λ (a : Application). length a.handler ≤ 255) (λ a keeps. keeps.handler) conf.applications kept.applications)) is

name_short : (conf : Configuration) (target : Target) → IsKept conf → IsShortName (handler_in conf target)
name_short conf (App app timeout) kept = handler_short conf app kept
name_short conf (Return step status) kept = let low : 0 ≤ 255 = omega arith in low
name_short conf (Status status) kept = let low : 0 ≤ 255 = omega arith in low

-- ---- a request as the handler sees it

-- how long a rewritten path and target are
abbrev pub TellsPath : Type 0
TellsPath = (text : List ℕ) (request : Request) → IsTrue (is_rewrite text) → HasShortTexts request → length (rewritten_by text request).path ≤ path_limit

abbrev pub TellsTarget : Type 0
TellsTarget = (text : List ℕ) (request : Request) → IsTrue (is_rewrite text) → HasShortTexts request → length (rewritten_by text request).target ≤ target_limit

pub plain_short : (c : Connection) (conf : Configuration) (stream : ℕ) (m : Message) → TellsLength → TellsWritten → IsKept conf → IsBounded conf.max_body m
    → rewrite_of_step conf (last_step_of conf c.listener (request_of c.from c.to m)) ≡ None
    → HasShortRecord plain_record_limit (asked_of c conf stream (request_of c.from c.to m))
unfolding asked_of
plain_short c conf stream m tells written kept is none =
    let name = handler_in conf (outcome_of conf c.listener (request_of c.from c.to m)).target in
    let whole = came_short conf.max_body stream name c.from c.to m tells written is kept.max_body (name_short conf (outcome_of conf c.listener (request_of c.from c.to m)).target kept) in
    subst (λ (o : Option (List ℕ)). HasShortRecord plain_record_limit (asked_with stream name (with_rewrite (request_of c.from c.to m) (option_map (λ text. rewritten_by text (request_of c.from c.to m)) o))))
    (sym none) whole

-- the record of a request whose target was rewritten
rewritten_size : (limit stream : ℕ) (name text : List ℕ) (from to : Addr) (m : Message) → TellsLength → TellsWritten → TellsPath → TellsTarget → IsBounded limit m
    → limit ≤ content_limit_max → length name ≤ 255 → IsTrue (is_rewrite text)
    → HasShortRecord rewritten_record_limit (asked_with stream name (with_rewrite (request_of from to m) (Some (rewritten_by text (request_of from to m)))))
rewritten_size limit stream name text from to m tells written path target is low short rule =
    let r = request_of from to m in
    let texts = short_texts limit from to m is in
    let new = rewritten_by text r in
    short_record rewritten_record_limit (asked_with stream name (with_rewrite r (Some new))) tells written is.minor (omega arith)
    (rewritten_sum (length name) (length m.method) (length m.target) (length new.target) (length new.path) (length m.query) (length m.host) (sum_by field_size m.fields) (length m.body)
    (length m.fields) (fields_len m.fields) limit short is.head texts.query is.host (fields_size m.fields) is.count is.content low (path text r rule texts) (target text r rule texts))

pub rewritten_short : (c : Connection) (conf : Configuration) (stream : ℕ) (m : Message) → TellsLength → TellsWritten → TellsPath → TellsTarget → IsKept conf → IsBounded conf.max_body m
    → HasShortRecord rewritten_record_limit (asked_of c conf stream (request_of c.from c.to m))
unfolding asked_of
rewritten_short c conf stream m tells written path target kept is =
    by_rewrite (rewrite_of_step conf (last_step_of conf c.listener (request_of c.from c.to m))) refl
  where
    by_rewrite : (o : Option (List ℕ)) → rewrite_of_step conf (last_step_of conf c.listener (request_of c.from c.to m)) ≡ o
        → HasShortRecord rewritten_record_limit (asked_of c conf stream (request_of c.from c.to m))
    by_rewrite None none =
        let whole = plain_short c conf stream m tells written kept is none in
        record { can = whole.can; size = omega (arith, whole.size) }
    by_rewrite (Some text) some =
        let name = handler_in conf (outcome_of conf c.listener (request_of c.from c.to m)).target in
        let rule = kept_rewrite conf (last_step_of conf c.listener (request_of c.from c.to m)) text kept some in
        let whole = rewritten_size conf.max_body stream name text c.from c.to m tells written path target is kept.max_body
        (name_short conf (outcome_of conf c.listener (request_of c.from c.to m)).target kept) rule in
        subst (λ (o : Option (List ℕ)). HasShortRecord rewritten_record_limit (asked_with stream name (with_rewrite (request_of c.from c.to m) (option_map (λ text. rewritten_by text (request_of c.from c.to m)) o))))
        (sym some) whole

-- ---- what a machine asks

-- the laws of records, for a configuration that is kept
abbrev pub PlainIsShort : Type 0
PlainIsShort =
    (c : Connection) (conf : Configuration) (bytes : List ℕ) (ended : Bool) (m : Message) (used stream : ℕ) → IsKept conf
    → (next_unit bytes ended conf.max_body).found ≡ request m used
    → rewrite_of_step conf (last_step_of conf c.listener (request_of c.from c.to m)) ≡ None
    → HasShortRecord plain_record_limit (asked_of c conf stream (request_of c.from c.to m))

abbrev pub RewrittenIsShort : Type 0
RewrittenIsShort =
    (c : Connection) (conf : Configuration) (bytes : List ℕ) (ended : Bool) (m : Message) (used stream : ℕ) → IsKept conf
    → (next_unit bytes ended conf.max_body).found ≡ request m used
    → HasShortRecord rewritten_record_limit (asked_of c conf stream (request_of c.from c.to m))

module _ (plain : PlainIsShort) (rewritten : RewrittenIsShort) (c : Connection) (a : Account) (stream : ℕ) (p : Pending) where
  asked_same : (conf : Configuration) (r : Request) → IsPending c conf p r → asked_of c conf stream r ≡ asked_with stream p.asks.0 p.asks.1
  unfolding asked_of
  asked_same conf r is = λ i. asked_with stream (sym is.by.name i) (sym is.by.asked i)

  by_rewrite_short : (conf : Configuration) (bytes : List ℕ) (ended : Bool) (m : Message) (used : ℕ) → IsKept conf
      → (next_unit bytes ended conf.max_body).found ≡ request m used → (o : Option (List ℕ))
      → rewrite_of_step conf (last_step_of conf c.listener (request_of c.from c.to m)) ≡ o
      → HasShortRecord (record_limit o) (asked_of c conf stream (request_of c.from c.to m))
  by_rewrite_short conf bytes ended m used kept found None none = plain c conf bytes ended m used stream kept found none
  by_rewrite_short conf bytes ended m used kept found (Some text) some = rewritten c conf bytes ended m used stream kept found

  pub asked_short : (m : Held) (reply_of : List ℕ → Request → Reply) → Shows reply_of c a m → m.closed ≡ false → m.pending ≡ Some p
      → ((bound : Numbered) → bound_in m ≡ Some bound → IsKept bound.1)
      → HasShortRecord (record_limit (rewrite_of c a.state)) (asked_with stream p.asks.0 p.asks.1)
  asked_short m reply_of shows going waits kept =
      let s = a.state in
      let front = subst (λ (o : Option Pending). Fronts c s o m.reader) waits (shows.stands.front going) in
      let conf = front.bound.1 in
      let r = request_of c.from c.to front.message in
      let keeps : IsKept conf = kept front.bound (sym (ap (λ (t : State). t.bound) shows.stands.carries.state) ∙ front.bound_is) in
      let limit_is : rewrite_of c s ≡ rewrite_of_step conf (last_step_of conf c.listener r) =
      ap (by_bound (rewrite_by c) s) front.bound_is ∙ ap (rewrite_by c conf) front.found in
      subst (λ (o : Option (List ℕ)). HasShortRecord (record_limit o) (asked_with stream p.asks.0 p.asks.1)) (sym limit_is)
      (subst (λ (asked : Asked). HasShortRecord (record_limit (rewrite_of_step conf (last_step_of conf c.listener r))) asked)
      (asked_same conf r front.pending)
      (by_rewrite_short conf s.unused s.ended front.message front.used keeps front.found
      (rewrite_of_step conf (last_step_of conf c.listener r)) refl))
