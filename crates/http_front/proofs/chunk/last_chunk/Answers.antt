use Rattle.std.proofs.Common.{◌∙◌, sym, ap, Some, None, arith, length-take}
use Rattle.http_front.specs.Chunks.{last_chunk}
use Rattle.http_front.proofs.FoundLemmas.{found_long, found_short, front_is}
use Rattle.http_front.proofs.chunk.last_chunk.Goals as goal

pub overflow_add-result : goal.overflow_add-result
overflow_add-result c =
    let within = rw c.first_bytes.ensures at c.in-Some.ensures.fits in
    omega (arith, within, c.requires, length-take 16384 c.args.rest.now)

pub returns-in-Some : goal.returns-in-Some
returns-in-Some c = ap (last_chunk c.args.line)
    (front_is c.args.rest.now c.first_bytes.result.now (Some c.in-Some.len) c.first_bytes.ensures (sym c.in-Some.is ∙ c.block_len.ensures.value))

pub returns-in-None : goal.returns-in-None
returns-in-None c = ap (last_chunk c.args.line)
    (sym (found_long 16384 c.args.rest.now c.if-rest-ge-HEAD_LIMIT.true)
    ∙ front_is c.args.rest.now c.first_bytes.result.now None c.first_bytes.ensures (sym c.in-None.is ∙ c.block_len.ensures.value))

pub returns-in-None-2 : goal.returns-in-None-2
returns-in-None-2 c = ap (last_chunk c.args.line)
    (sym (found_short 16384 c.args.rest.now (omega (arith, c.if-rest-ge-HEAD_LIMIT.false)))
    ∙ front_is c.args.rest.now c.first_bytes.result.now None c.first_bytes.ensures (sym c.in-None-2.is ∙ c.block_len.ensures.value))
