use Rattle.std.proofs.Common.{◌≡◌, ◌++◌, ◌∷◌, [], take, ap, ◌∙◌, sym}
use Rattle.path_normal.specs.Value.{value_left}
use Rattle.access_log.specs.Buffer.{written}
use Rattle.access_log.specs.Line.{line_limit, logged_byte, logged_bytes}
use Rattle.access_log.proofs.BufferLemmas.{appends_nothing, appends_part}
use Rattle.access_log.proofs.values.append_rest.Goals as goal

pub loop-byte-preserved : goal.loop-byte-preserved
loop-byte-preserved c =
    let was = c.loop-byte.buffer in
    let byte = c.in-Some.byte in
    let rest = c.next.new.self in
    let steps : value_left c.loop-byte.byte-iterator ≡ byte ∷ value_left rest = c.in-Some.ensures.steps in
    appends_part (written was) (logged_byte byte) (logged_bytes (value_left rest)) (written c.append_byte.new.buffer) c.append_byte.ensures
    ∙ ap (λ t. take line_limit (written was ++ logged_bytes t)) (sym steps) ∙ c.loop-byte.invariant

pub returns : goal.returns
returns c =
    let now = c.loop-byte.buffer in
    let over : value_left c.loop-byte.byte-iterator ≡ [] = c.in-None.ensures.steps.0 in
    appends_nothing now ∙ ap (λ t. take line_limit (written now ++ logged_bytes t)) (sym over) ∙ c.loop-byte.invariant
