use Rattle.std.proofs.Common.{◌≤◌, ◌∙◌, ap, arith, sym, subst, List, Result, Ok, Err, IfOk}
use Rattle.std.specs.declared.alloc.AllocError.{AllocError}
use Rattle.unit_types.specs.declared.field.Field.{Field}
use Rattle.http_front.specs.declared.next_unit.Step.{Step}
use Rattle.http_front.specs.Head.{head_of, head_in}
use Rattle.http_front.specs.Message.{fields_of}
use Rattle.http_front.specs.Checks.{has_too_many_lines, refusal_of}
use Rattle.http_front.specs.Framing.{content_length}
use Rattle.http_front.specs.Content.{content_of}
use Rattle.http_front.specs.Reading.{told_request}
use Rattle.http_front.proofs.FrontLemmas.{few_lines, told_refused, told_served}
use Rattle.http_front.proofs.ProgressLemmas.{length_within, tells_behind}
use Rattle.http_front.proofs.next_unit.read_block.Goals as goal

pub returns-in-Some-refusal_of-clause-told : goal.returns-in-Some-refusal_of-clause-told
returns-in-Some-refusal_of-clause-told c =
    let same = c.in_ok-request.ensures in
    ap (λ step. step.told) c.refused.ensures
    ∙ told_refused c.args.from c.args.to (has_too_many_lines c.args.block.now) c.args.max_body c.args.used c.args.rest.now c.args.ended (head_of c.args.block.now)
    (head_in c.args.block.now) c.in-Some-refusal_of.status (few_lines c.args.block.now (omega (arith, c.in-Some.ensures.few))) c.in-Some.ensures.is
    (sym (c.refusal_of.ensures ∙ ap (λ r. refusal_of c.args.max_body r.minor r.target r.fields) same) ∙ c.in-Some-refusal_of.is)

weaker : (r : Result Step AllocError) (P R : Step → Type 0) → ((step : Step) → P step → R step) → IfOk r P → IfOk r R
weaker (Ok step) P R f p = f step p
weaker (Err e) P R f p = p

pub returns-in-None-clause-told : goal.returns-in-None-clause-told
returns-in-None-clause-told c =
    let same = c.in_ok-request.ensures in
    let serves = sym (c.refusal_of.ensures ∙ ap (λ r. refusal_of c.args.max_body r.minor r.target r.fields) same) ∙ c.in-None.is in
    weaker c.read_content.result _ _
    (λ step told.
    told
    ∙ ap (λ r. told_request r c.args.used c.args.ended (content_of c.args.max_body r.fields c.args.rest.now)) same
    ∙ told_served c.args.from c.args.to (has_too_many_lines c.args.block.now) c.args.max_body c.args.used c.args.rest.now c.args.ended (head_of c.args.block.now)
    (head_in c.args.block.now) (few_lines c.args.block.now (omega (arith, c.in-Some.ensures.few))) c.in-Some.ensures.is serves)
    c.read_content.ensures.told

pub read_content-requires-clause-length : goal.read_content-requires-clause-length
read_content-requires-clause-length c =
    let same = c.in_ok-request.ensures in
    let head = head_in c.args.block.now in
    let serves = sym (c.refusal_of.ensures ∙ ap (λ r. refusal_of c.args.max_body r.minor r.target r.fields) same) ∙ c.in-None.is in
    subst (λ (fs : List Field). content_length fs ≤ c.args.max_body) (sym (ap (λ r. r.fields) same)) (length_within c.args.max_body head.minor head.target (fields_of head) serves)

pub returns-in-None-clause-ahead : goal.returns-in-None-clause-ahead
returns-in-None-clause-ahead c =
    let same = c.in_ok-request.ensures in
    let serves = sym (c.refusal_of.ensures ∙ ap (λ r. refusal_of c.args.max_body r.minor r.target r.fields) same) ∙ c.in-None.is in
    weaker c.read_content.result _ _
    (λ step tells.
    tells_behind c.args.from c.args.to (has_too_many_lines c.args.block.now) c.args.max_body c.args.used c.args.rest.now (head_of c.args.block.now) (head_in c.args.block.now)
    c.in_ok-request.request step.ahead (few_lines c.args.block.now (omega (arith, c.in-Some.ensures.few))) c.in-Some.ensures.is serves same tells)
    c.read_content.ensures.ahead
