use Rattle.std.proofs.Common.{◌∙◌, sym, ap, arith, length-take}
use Rattle.http_front.specs.Chunks.{first_chunk, front_chunk}
use Rattle.http_front.proofs.FoundLemmas.{found_long, found_short, line_front-some, line_front-none}
use Rattle.http_front.proofs.chunk.first_chunk.Goals as goal

pub line_chunk-requires : goal.line_chunk-requires
line_chunk-requires c =
    let within = rw c.first_bytes.ensures at c.in-Some.ensures.within in
    omega (arith, within, length-take 1024 c.args.bytes.now)

pub returns-in-Some : goal.returns-in-Some
unfolding first_chunk
returns-in-Some c =
    c.line_chunk.ensures
    ∙ ap (front_chunk c.args.room c.args.bytes.now)
    (line_front-some c.args.bytes.now c.first_bytes.result.now c.in-Some.len _ c.first_bytes.ensures c.in-Some.ensures.first c.in-Some.ensures.within)

pub returns-in-None : goal.returns-in-None
unfolding first_chunk
returns-in-None c = ap (front_chunk c.args.room c.args.bytes.now)
    (sym (found_long 1024 c.args.bytes.now c.if-bytes-ge-LINE_LIMIT.true)
    ∙ line_front-none c.args.bytes.now c.first_bytes.result.now c.first_bytes.ensures c.in-None.ensures.none)

pub returns-in-None-2 : goal.returns-in-None-2
unfolding first_chunk
returns-in-None-2 c = ap (front_chunk c.args.room c.args.bytes.now)
    (sym (found_short 1024 c.args.bytes.now (omega (arith, c.if-bytes-ge-LINE_LIMIT.false)))
    ∙ line_front-none c.args.bytes.now c.first_bytes.result.now c.first_bytes.ensures c.in-None-2.ensures.none)
