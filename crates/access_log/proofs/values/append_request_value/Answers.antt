use Rattle.std.proofs.Common.{rules, ◌≡◌, false, codes, sym, ap, ◌∙◌}
use Rattle.std.specs.Str.{bytes_eq}
use Rattle.std.proofs.lemmas.Bool.{cond-false}
use Rattle.path_normal.specs.Value.{value_left}
use Rattle.access_log.specs.Line.{logged, value_in_request}
use Rattle.access_log.proofs.BufferLemmas.{appends_same}
use Rattle.access_log.proofs.values.append_request_value.Goals as goal

pub returns : goal.returns
returns c =
    let r = c.args.request.now in
    let name = c.args.name.now in
    let text : c.as_slice.result.now ≡ codes "request_line" = search rules in
    let other : bytes_eq name (codes "request_line") ≡ false = ap (bytes_eq name) (sym text) ∙ sym c.if-eq.ensures in
    let is : value_left c.value_of.result ≡ value_in_request r name = c.value_of.ensures ∙ sym (cond-false (bytes_eq name (codes "request_line")) _ _ other) in
    appends_same (logged (value_left c.value_of.result)) (logged (value_in_request r name)) c.args.buffer.now c.append_logged.new.buffer (ap logged is) c.append_logged.ensures
