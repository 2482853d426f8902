use Rattle.std.proofs.Common.{◌≡◌, ◌∙◌, ap, sym, subst, ℕ, List, length, drop, arith}
use Rattle.http_front.specs.Front.{head_begun}
use Rattle.http_front.specs.NextUnit.{next_unit}
use Rattle.http_front.specs.Kept.{head, Kept, HasRead, marked, Enters}
use Rattle.http_front.specs.Progress.{Tells}
use Rattle.http_front.specs.Reading.{told_of, limit_or, is_request, next_reading}
use Rattle.http_front.proofs.KeptLemmas.{has_read_next, next_ended, next_marked}
use Rattle.http_front.proofs.ReaderLemmas.{used_within, small_answer}
use Rattle.http_front.proofs.StageLemmas.{enters_next}
use Rattle.http_front.proofs.reader.Reader.read_head.Goals as goal

pub turn-answer-requires-clause-fits : goal.turn-answer-requires-clause-fits
turn-answer-requires-clause-fits c =
    let i = c.self.inside in
    let unread = c.behind-unread.ensures ∙ ap (λ bytes. drop i.used bytes) c.deref.ensures.value in
    let told = c.in_ok-step.ensures.told ∙ (λ j. told_of i.from i.to (head_begun (unread j)) (next_unit (unread j) i.ended (c.limit_or-limit.ensures j))) in
    let within = used_within (drop i.used i.bytes.items) i.ended (limit_or i.limit c.args.max_body) in
    omega (arith, ap (λ t. t.used) told, within, ap (λ (k : Kept). length k.bytes) c.self.view_is)

pub turn-answer-requires-clause-small : goal.turn-answer-requires-clause-small
turn-answer-requires-clause-small c status is =
    let i = c.self.inside in
    let unread = c.behind-unread.ensures ∙ ap (λ bytes. drop i.used bytes) c.deref.ensures.value in
    let told = c.in_ok-step.ensures.told ∙ (λ j. told_of i.from i.to (head_begun (unread j)) (next_unit (unread j) i.ended (c.limit_or-limit.ensures j))) in
    small_answer i.from i.to (drop i.used i.bytes.items) i.ended (limit_or i.limit c.args.max_body) status (sym (ap (λ t. t.answer) told) ∙ is)

pub enter-requires-clause-head : goal.enter-requires-clause-head
enter-requires-clause-head c =
    let i = c.self.inside in
    let unread = c.behind-unread.ensures ∙ ap (λ bytes. drop i.used bytes) c.deref.ensures.value in
    let ahead = c.in_ok-step.step.ahead in
    let tells = subst (λ (k : Kept). Tells ahead k.bytes (limit_or k.limit c.args.max_body)) c.self.view_is
    (subst (λ (n : ℕ). Tells ahead (drop i.used i.bytes.items) n) c.limit_or-limit.ensures (subst (λ (ys : List ℕ). Tells ahead ys c.limit_or-limit.result) unread c.in_ok-step.ensures.ahead)) in
    let none = sym (c.is_request.ensures ∙ ap is_request c.turn-answer.ensures.answer) ∙ c.if-is_request.false in
    let enters = enters_next c.args.self.now c.args.max_body ahead c.requires none tells in
    subst (λ (k : Kept). k.stage ≡ head) (sym c.turn-answer.ensures.value) enters.0

pub enter-requires-clause-enters : goal.enter-requires-clause-enters
enter-requires-clause-enters c =
    let i = c.self.inside in
    let unread = c.behind-unread.ensures ∙ ap (λ bytes. drop i.used bytes) c.deref.ensures.value in
    let ahead = c.in_ok-step.step.ahead in
    let tells = subst (λ (k : Kept). Tells ahead k.bytes (limit_or k.limit c.args.max_body)) c.self.view_is
    (subst (λ (n : ℕ). Tells ahead (drop i.used i.bytes.items) n) c.limit_or-limit.ensures (subst (λ (ys : List ℕ). Tells ahead ys c.limit_or-limit.result) unread c.in_ok-step.ensures.ahead)) in
    let none = sym (c.is_request.ensures ∙ ap is_request c.turn-answer.ensures.answer) ∙ c.if-is_request.false in
    let enters = enters_next c.args.self.now c.args.max_body ahead c.requires none tells in
    subst (λ (k : Kept). Enters ahead k) (sym c.turn-answer.ensures.value) enters.1

pub returns-clause-ok : goal.returns-clause-ok
returns-clause-ok c r is =
    c.enter.ensures.read (next_reading r c.args.max_body)
    (subst (λ (k : Kept). HasRead (next_reading r c.args.max_body) k) (sym c.turn-answer.ensures.value) (has_read_next r c.args.self.now c.args.max_body is))

pub returns-clause-ended : goal.returns-clause-ended
returns-clause-ended c = c.enter.ensures.ended ∙ ap (λ (k : Kept). k.ended) c.turn-answer.ensures.value ∙ next_ended c.args.self.now c.args.max_body

pub returns-clause-marked : goal.returns-clause-marked
returns-clause-marked c = c.enter.ensures.marked ∙ ap marked c.turn-answer.ensures.value ∙ next_marked c.args.self.now c.args.max_body

pub returns-then-is_request-clause-ok : goal.returns-then-is_request-clause-ok
returns-then-is_request-clause-ok c r is =
    subst (λ (k : Kept). HasRead (next_reading r c.args.max_body) k) (sym c.turn-answer.ensures.value) (has_read_next r c.args.self.now c.args.max_body is)

pub returns-then-is_request-clause-ended : goal.returns-then-is_request-clause-ended
returns-then-is_request-clause-ended c = ap (λ (k : Kept). k.ended) c.turn-answer.ensures.value ∙ next_ended c.args.self.now c.args.max_body

pub returns-then-is_request-clause-marked : goal.returns-then-is_request-clause-marked
returns-then-is_request-clause-marked c = ap marked c.turn-answer.ensures.value ∙ next_marked c.args.self.now c.args.max_body
