use Rattle.std.proofs.Common.{◌/◌, ◌%◌, ◌++◌, ◌∷◌, [], sym}
use Rattle.path_normal.specs.Variables.{decimal, dotted}
use Rattle.access_log.specs.Line.{logged}
use Rattle.access_log.proofs.BufferLemmas.{appends_both, appends_same}
use Rattle.access_log.proofs.ValueLemmas.{logged_dotted}
use Rattle.access_log.proofs.values.append_address.Goals as goal

pub returns : goal.returns
returns c =
    let ip = c.args.ip in
    let first = decimal (ip / 16777216 % 256) in
    let second = decimal (ip / 65536 % 256) in
    let third = decimal (ip / 256 % 256) in
    let fourth = decimal (ip % 256) in
    let x = c.args.buffer.now in
    let after_first = c.append_number.new.buffer in
    let after_second = c.append_number-2.new.buffer in
    let after_third = c.append_number-3.new.buffer in
    let z = c.append_number-4.new.buffer in
    appends_same (dotted ip) (logged (dotted ip)) x z (sym (logged_dotted ip))
    (appends_both (first ++ 46 ∷ second ++ 46 ∷ third) (46 ∷ fourth) x after_third z
    (appends_both (first ++ 46 ∷ second) (46 ∷ third) x after_second after_third
    (appends_both first (46 ∷ second) x after_first after_second c.append_number.ensures
    (appends_both (46 ∷ []) second after_first c.push.new.self after_second c.push.ensures c.append_number-2.ensures))
    (appends_both (46 ∷ []) third after_second c.push-2.new.self after_third c.push-2.ensures c.append_number-3.ensures))
    (appends_both (46 ∷ []) fourth after_third c.push-3.new.self z c.push-3.ensures c.append_number-4.ensures))
