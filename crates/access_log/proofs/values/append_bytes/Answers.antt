use Rattle.std.proofs.Common.{◌≡◌, ◌≤◌, ◌+◌, ◌++◌, ◌∷◌, arith, get_or, length, drop, take, ap, ◌∙◌, sym}
use Rattle.std.proofs.lemmas.List.{drop_all, drop_more}
use Rattle.access_log.specs.Buffer.{written}
use Rattle.access_log.specs.Line.{line_limit, logged_byte, logged_bytes}
use Rattle.access_log.proofs.BufferLemmas.{appends_nothing, appends_part}
use Rattle.access_log.proofs.values.append_bytes.Goals as goal

pub loop-byte-preserved : goal.loop-byte-preserved
loop-byte-preserved c =
    let text = c.args.text.now in
    let i = c.loop-byte.byte-index in
    let was = c.loop-byte.buffer in
    let byte = get_or text i 0 in
    let steps : drop i text ≡ byte ∷ drop (i + 1) text = drop_more text i 0 (omega (arith, c.loop-byte-test.true)) in
    appends_part (written was) (logged_byte byte) (logged_bytes (drop (i + 1) text)) (written c.append_byte.new.buffer) c.append_byte.ensures
    ∙ ap (λ t. take line_limit (written was ++ logged_bytes t)) (sym steps) ∙ c.loop-byte.invariant

pub returns : goal.returns
returns c =
    let text = c.args.text.now in
    let i = c.loop-byte.byte-index in
    let now = c.loop-byte.buffer in
    let over : length text ≤ i = omega (arith, c.loop-byte-test.false) in
    appends_nothing now ∙ ap (λ t. take line_limit (written now ++ logged_bytes t)) (sym (drop_all i text over)) ∙ c.loop-byte.invariant
