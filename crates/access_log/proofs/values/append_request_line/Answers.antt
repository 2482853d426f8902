use Rattle.std.proofs.Common.{◌≡◌, ◌++◌, ◌∷◌, [], sym}
use Rattle.access_log.specs.Buffer.{Appends}
use Rattle.access_log.specs.Line.{logged, logged_bytes, protocol_of, request_line_of}
use Rattle.access_log.proofs.BufferLemmas.{appends_both, appends_same}
use Rattle.access_log.proofs.ValueLemmas.{logged_line}
use Rattle.access_log.proofs.values.append_request_line.Goals as goal

pub returns : goal.returns
returns c =
    let r = c.args.request.now in
    let protocol = protocol_of r.minor in
    let x = c.args.buffer.now in
    let after_method = c.append_bytes.new.buffer in
    let before_target = c.push.new.self in
    let after_target = c.append_bytes-2.new.buffer in
    let before_protocol = c.push-2.new.self in
    let z = c.append_bytes-3.new.buffer in
    let method : c.as_slice.result.now ≡ r.method = c.as_slice.ensures in
    let target : c.as_slice-2.result.now ≡ r.target = c.as_slice-2.ensures in
    let method_put : Appends (logged_bytes r.method) x after_method = rw (← method) c.append_bytes.ensures in
    let target_put : Appends (logged_bytes r.target) before_target after_target = rw (← target) c.append_bytes-2.ensures in
    let version : c.protocol_of.result.now ≡ protocol = c.protocol_of.ensures in
    let version_put : Appends (logged_bytes protocol) before_protocol z = rw (← version) c.append_bytes-3.ensures in
    appends_same (logged_bytes r.method ++ (32 ∷ (logged_bytes r.target ++ (32 ∷ logged_bytes protocol)))) (logged (request_line_of r)) x z (sym (logged_line r.method r.target protocol))
    (appends_both (logged_bytes r.method) (32 ∷ (logged_bytes r.target ++ (32 ∷ logged_bytes protocol))) x after_method z method_put
    (appends_both (32 ∷ []) (logged_bytes r.target ++ (32 ∷ logged_bytes protocol)) after_method before_target z c.push.ensures
    (appends_both (logged_bytes r.target) (32 ∷ logged_bytes protocol) before_target after_target z target_put
    (appends_both (32 ∷ []) (logged_bytes protocol) after_target before_protocol z c.push-2.ensures version_put))))
