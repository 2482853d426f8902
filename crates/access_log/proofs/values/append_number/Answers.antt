use Rattle.std.proofs.Common.{◌≡◌, ◌/◌, ◌%◌, ◌+◌, ◌∷◌, [], false, ltb, sym, ◌∙◌, arith}
use Rattle.std.proofs.lemmas.Bool.{cond-false}
use Rattle.std.proofs.lemmas.Bool.Decides.{nat_tests}
use Rattle.path_normal.specs.Variables.{decimal}
use Rattle.access_log.proofs.BufferLemmas.{appends_both, appends_same}
use Rattle.access_log.proofs.values.append_number.Goals as goal

pub returns : goal.returns
returns c =
    let n = c.args.number in
    let x = c.args.buffer.now in
    let z = c.push-4.new.self in
    let not_one : ltb n 10 ≡ false = grind (arith, nat_tests) in
    let not_two : ltb n 100 ≡ false = grind (arith, nat_tests) in
    let three : decimal n ≡ (48 + n / 100) ∷ (48 + n / 10 % 10) ∷ (48 + n % 10) ∷ [] =
    cond-false (ltb n 10) _ _ not_one ∙ cond-false (ltb n 100) _ _ not_two in
    appends_same ((48 + n / 100) ∷ (48 + n / 10 % 10) ∷ (48 + n % 10) ∷ []) (decimal n) x z (sym three)
    (appends_both ((48 + n / 100) ∷ []) ((48 + n / 10 % 10) ∷ (48 + n % 10) ∷ []) x c.push-2.new.self z c.push-2.ensures
    (appends_both ((48 + n / 10 % 10) ∷ []) ((48 + n % 10) ∷ []) c.push-2.new.self c.push-3.new.self z c.push-3.ensures c.push-4.ensures))
