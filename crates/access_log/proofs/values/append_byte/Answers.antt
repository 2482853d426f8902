use Rattle.std.proofs.Common.{◌≡◌, ◌/◌, ◌%◌, true, ◌∷◌, [], sym, ◌∙◌}
use Rattle.std.specs.Fmt.{digit_glyph}
use Rattle.std.proofs.lemmas.Bool.{cond-false}
use Rattle.access_log.specs.Line.{is_plain, logged_byte}
use Rattle.access_log.proofs.BufferLemmas.{appends_both, appends_same}
use Rattle.access_log.proofs.values.append_byte.Goals as goal

pub returns : goal.returns
returns c =
    let b = c.args.byte in
    let high = c.capital_digit.result in
    let low = c.capital_digit-2.result in
    let escaped : logged_byte b ≡ 92 ∷ 120 ∷ digit_glyph true (b / 16) ∷ digit_glyph true (b % 16) ∷ [] =
    cond-false (is_plain b) _ _ (sym c.is_plain.ensures ∙ c.if-is_plain.false) in
    let same : 92 ∷ 120 ∷ high ∷ low ∷ [] ≡ logged_byte b = cc in
    appends_same (92 ∷ 120 ∷ high ∷ low ∷ []) (logged_byte b) c.args.buffer.now c.push-5.new.self same
    (appends_both (92 ∷ []) (120 ∷ high ∷ low ∷ []) c.args.buffer.now c.push-2.new.self c.push-5.new.self c.push-2.ensures
    (appends_both (120 ∷ []) (high ∷ low ∷ []) c.push-2.new.self c.push-3.new.self c.push-5.new.self c.push-3.ensures
    (appends_both (high ∷ []) (low ∷ []) c.push-3.new.self c.push-4.new.self c.push-5.new.self c.push-4.ensures c.push-5.ensures)))
