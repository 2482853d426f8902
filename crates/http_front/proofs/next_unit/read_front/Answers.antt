use Rattle.std.proofs.Common.{◌≡◌, ◌∙◌, ◌+◌, ap, sym, subst, drop, take, true, Some, List, ℕ, IfOk, arith, length-take, length-drop}
use Rattle.http_front.specs.declared.next_unit.Told.{Told}
use Rattle.http_front.specs.Front.{block, blank_len, front_of}
use Rattle.unit_types.specs.Limits.{head_limit}
use Rattle.http_front.specs.Head.{head_of}
use Rattle.http_front.specs.Checks.{has_too_many_lines}
use Rattle.http_front.specs.NextUnit.{block_unit}
use Rattle.http_front.specs.Reading.{told_of}
use Rattle.http_front.specs.Progress.{TellsBehind}
use Rattle.http_front.proofs.BlockLemmas.{blank_dropped, blank_taken}
use Rattle.http_front.proofs.FoundLemmas.{front_is}
use Rattle.http_front.proofs.FrontLemmas.{next_block, next_unready}
use Rattle.http_front.proofs.StayLemmas.{rest_of}
use Rattle.http_front.proofs.ProgressLemmas.{ok_weaker, tells_front}
use Rattle.http_front.proofs.next_unit.read_front.Goals as goal

pub overflow_add-blank : goal.overflow_add-blank
overflow_add-blank c =
    let within = rw (c.first_bytes.ensures, c.behind-rest.ensures) at c.in-Some.ensures.fits in
    omega (arith, within, c.blank_len-blank.ensures.fits, length-take 16384 (drop c.blank_len-blank.result c.args.bytes.now), length-drop c.blank_len-blank.result c.args.bytes.now)

pub read_block-requires-clause-no_empty_line : goal.read_block-requires-clause-no_empty_line
unfolding blank_len
read_block-requires-clause-no_empty_line c =
    let rest = c.behind-rest.ensures ∙ ap (λ n. drop n c.args.bytes.now) c.blank_len-blank.ensures.value in
    ap blank_len (c.first_bytes-in-Some.ensures ∙ ap (take c.in-Some.size) rest) ∙ blank_taken c.in-Some.size (drop (blank_len c.args.bytes.now) c.args.bytes.now) (blank_dropped c.args.bytes.now)

pub read_block-requires-clause-fits : goal.read_block-requires-clause-fits
read_block-requires-clause-fits c =
    let within = rw (c.first_bytes.ensures, c.behind-rest.ensures) at c.in-Some.ensures.fits in
    rw (c.behind.ensures, c.behind-rest.ensures)
    (omega (arith, within, c.blank_len-blank.ensures.fits, length-take 16384 (drop c.blank_len-blank.result c.args.bytes.now), length-drop c.blank_len-blank.result c.args.bytes.now, length-drop c.in-Some.size (drop c.blank_len-blank.result c.args.bytes.now)))

pub returns-in-Some-clause-told : goal.returns-in-Some-clause-told
returns-in-Some-clause-told c =
    let rest = c.behind-rest.ensures ∙ ap (λ n. drop n c.args.bytes.now) c.blank_len-blank.ensures.value in
    let size = c.in-Some.size in
    let used = c.blank_len-blank.result + size in
    let block = c.first_bytes-in-Some.ensures in
    let behind = c.behind.ensures in
    let told = (λ i. told_of c.args.from c.args.to true (block_unit (has_too_many_lines (block i)) c.args.max_body used (behind i) c.args.ended (head_of (block i))))
    ∙ next_block c.args.from c.args.to c.args.bytes.now c.args.ended c.args.max_body c.blank_len-blank.result size c.behind-rest.result.now c.first_bytes.result.now
    c.blank_len-blank.ensures.value rest c.first_bytes.ensures (sym c.in-Some.is ∙ c.block_len.ensures.value) in
    subst (λ (t : Told). IfOk c.read_block.result (λ step. step.told ≡ t)) told c.read_block.ensures.told

pub returns-in-None-clause-told : goal.returns-in-None-clause-told
returns-in-None-clause-told c =
    let rest = c.behind-rest.ensures ∙ ap (λ n. drop n c.args.bytes.now) c.blank_len-blank.ensures.value in
    c.without_block.ensures c.args.from c.args.to
    ∙ next_unready c.args.from c.args.to c.args.bytes.now c.args.ended c.args.max_body c.behind-rest.result.now c.first_bytes.result.now
    rest c.first_bytes.ensures (sym c.in-None.is ∙ c.block_len.ensures.value)

pub returns-in-Some-clause-ahead : goal.returns-in-Some-clause-ahead
returns-in-Some-clause-ahead c =
    let bytes = c.args.bytes.now in
    let passed = c.blank_len-blank.ensures.value in
    let rest = c.behind-rest.ensures ∙ ap (λ n. drop n bytes) passed in
    let size = c.in-Some.size in
    let block_is = c.first_bytes-in-Some.ensures ∙ ap (take size) rest in
    let behind_is = c.behind.ensures ∙ ap (drop size) rest in
    let front = sym (front_is c.behind-rest.result.now c.first_bytes.result.now (Some size) c.first_bytes.ensures (sym c.in-Some.is ∙ c.block_len.ensures.value)) in
    let ahead : front_of head_limit (rest_of bytes) ≡ block size = ap (front_of head_limit) (sym rest) ∙ front in
    ok_weaker c.read_block.result _ _ (λ step tells.
    tells_front bytes size c.args.max_body step.ahead ahead
    (subst (λ (w : List ℕ). TellsBehind step.ahead (blank_len bytes + size) (drop size (rest_of bytes))
    (λ ys over. block_unit (has_too_many_lines w) c.args.max_body (blank_len bytes + size) ys over (head_of w))) block_is
    (subst (λ (ys : List ℕ). TellsBehind step.ahead (blank_len bytes + size) ys
    (λ ys over. block_unit (has_too_many_lines c.first_bytes-in-Some.result.now) c.args.max_body (blank_len bytes + size) ys over (head_of c.first_bytes-in-Some.result.now))) behind_is
    (subst (λ (n : ℕ). TellsBehind step.ahead (n + size) c.behind.result.now
    (λ ys over. block_unit (has_too_many_lines c.first_bytes-in-Some.result.now) c.args.max_body (n + size) ys over (head_of c.first_bytes-in-Some.result.now))) passed tells))))
    c.read_block.ensures.ahead
